use Rattle.std.proofs.Common.{◌∙◌, ap, length, get_or}
use Rattle.std.specs.Arc.{arc_value}
use Rattle.cell_states.specs.Near.{near_at}
use Rattle.cell_states.specs.Versions.{version_by}
use Rattle.cell_states.proofs.Rooms.{lent_at, list_here, other_row}
use Rattle.cell_states.proofs.versions.note_in.Goals as goal

pub returns-clause-row : goal.returns-clause-row
returns-clause-row c =
    let rows = c.args.rows.now.items in
    other_row rows c.args.t c.requires.cycle c.note.new.self (c.note.ensures.len ∙ ap length (lent_at rows c.args.t c.requires.cycle c.index_mut-row.result.now _ c.index_mut-row.ensures.value))

pub returns-clause-noted : goal.returns-clause-noted
returns-clause-noted c = λ d h.
    let rows = c.args.rows.now.items in
    let changes = c.args.changes.now in
    ap (λ vs. get_or vs d 0) (list_here rows c.args.t c.requires.cycle c.note.new.self)
    ∙ c.note.ensures.noted d h
    ∙ ap (λ vs. version_by changes (near_at (arc_value c.args.near.now) d) c.args.clock (get_or vs d 0) (length changes)) (lent_at rows c.args.t c.requires.cycle c.index_mut-row.result.now _ c.index_mut-row.ensures.value)
