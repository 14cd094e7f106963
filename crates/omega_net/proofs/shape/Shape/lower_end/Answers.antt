use Rattle.std.proofs.Common.{◌<◌, arith}
use Rattle.omega_net.proofs.Numbering.{half_some}
use Rattle.omega_net.proofs.shape.Shape.lower_end.Goals as goal

pub returns-clause-there : goal.returns-clause-there
returns-clause-there c there =
    let stage : c.args.wire.stage < c.args.self = omega arith in
    let some = half_some c.args.self c.args.wire.stage stage in
    (stage, omega arith)
