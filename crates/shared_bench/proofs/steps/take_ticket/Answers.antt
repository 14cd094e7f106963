use Rattle.std.proofs.Common.{rules}
use Rattle.shared_bench.proofs.Turns.{takes}
use Rattle.shared_bench.proofs.steps.take_ticket.Goals as goal

pub fetch_add-requires : goal.fetch_add-requires
fetch_add-requires c = (search rules, search rules, takes _ _ _ _ c.requires.idle.0 c.requires.idle.1)
