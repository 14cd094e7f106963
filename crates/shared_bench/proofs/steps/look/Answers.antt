use Rattle.std.proofs.Common.{rules}
use Rattle.shared_bench.proofs.Turns.{lengths_seen}
use Rattle.shared_bench.proofs.steps.look.Goals as goal

pub load-requires : goal.load-requires
load-requires c = (search rules, search rules, lengths_seen _ _ _ _ c.requires.idle.0 c.requires.idle.1)
