use Rattle.std.proofs.Common.{◌≤◌, ◌^◌, arith}
use Rattle.std.proofs.Math.Pow.{pow_mono}
use Rattle.page_map.specs.Limits.{max_k}
use Rattle.omega_net.proofs.shape.Shape.lines.Goals as goal

pub returns-clause-within : goal.returns-clause-within
returns-clause-within c = let few : 2 ^ c.self.inside.stages ≤ 2 ^ max_k = pow_mono c.self.invariant in omega arith
