use Rattle.cell_states.proofs.Drafted.{cells_drafted, words_drafted}
use Rattle.cell_states.proofs.states.each.put_draft.Goals as goal

pub returns-in-Ok-clause-cells : goal.returns-in-Ok-clause-cells
returns-in-Ok-clause-cells c = cells_drafted c.args.rows.now c.put_row.new.self c.len-count.ensures.whole c.args.cycle c.requires.within c.args.draft.now c.requires.components c.in-Ok.ensures

pub returns-in-Ok-clause-here : goal.returns-in-Ok-clause-here
returns-in-Ok-clause-here c = words_drafted c.args.rows.now c.put_row.new.self c.len-count.ensures.whole c.args.cycle c.requires.within c.args.draft.now c.requires.components c.in-Ok.ensures
