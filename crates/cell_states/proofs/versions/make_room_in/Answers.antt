use Rattle.std.proofs.Common.{◌∙◌, ap, length, get_or}
use Rattle.cell_states.proofs.Rooms.{lent_at, list_here, other_row}
use Rattle.cell_states.proofs.versions.make_room_in.Goals as goal

pub returns-clause-row : goal.returns-clause-row
returns-clause-row c =
    let rows = c.args.rows.now.items in
    other_row rows c.args.t c.requires c.make_room.new.self (ap length (c.make_room.ensures.at ∙ lent_at rows c.args.t c.requires c.index_mut-row.result.now _ c.index_mut-row.ensures.value))

pub returns-clause-same : goal.returns-clause-same
returns-clause-same c = λ d.
    let rows = c.args.rows.now.items in
    ap (λ vs. get_or vs d 0) (list_here rows c.args.t c.requires c.make_room.new.self ∙ c.make_room.ensures.at ∙ lent_at rows c.args.t c.requires c.index_mut-row.result.now _ c.index_mut-row.ensures.value)
