use Rattle.std.proofs.Common.{rules}
use Rattle.shared_bench.proofs.Turns.{fills_in}
use Rattle.shared_bench.proofs.steps.fill.Goals as goal

pub load-requires : goal.load-requires
load-requires c = (search rules, search rules, fills_in _ _ _ _ _ _ c.requires.fills.0.1)
