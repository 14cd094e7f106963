use Rattle.std.proofs.Common.{◌-◌}
use Rattle.change_rows.specs.Rows.{words_at}
use Rattle.cell_states.proofs.Drafted.{drafted_none}
use Rattle.cell_states.proofs.states.each.draft_same.Goals as goal

pub returns-then-not-begins-clause-here : goal.returns-then-not-begins-clause-here
returns-then-not-begins-clause-here c =
    let t = c.args.cell.cycle in
    let d = c.args.cell.component in
    drafted_none c.args.rows.now.rows c.args.draft.now t d (words_at c.args.rows.now.rows (t - 1) d) c.requires.after (c.begins.ensures c.if-not-begins.true).1
