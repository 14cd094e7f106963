use Rattle.omega_net.proofs.RouteLaws.{is_route}
use Rattle.omega_net.proofs.route.routes_arrive.Goals as goal

pub returns : goal.returns
returns c = is_route
