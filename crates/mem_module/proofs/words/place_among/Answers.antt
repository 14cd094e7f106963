use Rattle.std.proofs.Common.{arith, rules}
use Rattle.mem_module.proofs.Rows.{gap_behind}
use Rattle.mem_module.proofs.words.place_among.Goals as goal

-- the last row up to this one is below it
pub returns-then-here-row-2-clause-absent : goal.returns-then-here-row-2-clause-absent
returns-then-here-row-2-clause-absent c =
    gap_behind c.args.stored.now c.args.row c.last_up_to-at.result c.requires.ascending c.last_up_to-at.ensures.there (search rules) c.last_up_to-at.ensures.above
