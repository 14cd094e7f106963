use Rattle.std.proofs.Common.{refl, arith, inl}
use Rattle.cell_states.specs.Stated.{state_at}
use Rattle.cell_states.specs.Versions.{lists}
use Rattle.cell_states.proofs.Rooms.{length_lists}
use Rattle.due_cells.proofs.Keeping.{seen_cycle, seen_length}
use Rattle.due_cells.proofs.MarkedCells.{same_over, held_are, lens_are}
use Rattle.due_cells.proofs.NotedRows.{layout_versions, same_versions}
use Rattle.due_cells.proofs.Stated.{bounded_by, stated_along}
use Rattle.due_cells.proofs.cells.Cells.mark.Goals as goal

pub take_room_in-requires-clause-cycle : goal.take_room_in-requires-clause-cycle
take_room_in-requires-clause-cycle g c =
    let i = c.self.inside in
    omega (arith, length_lists i.versions.items, c.self.invariant.1.rows, seen_cycle (state_at i.states) i.due (lists i.versions.items) c.args.self.now c.self.view_is c.args.cycle c.requires.cycle)

pub take_room_in-requires-clause-room : goal.take_room_in-requires-clause-room
take_room_in-requires-clause-room g c =
    let i = c.self.inside in
    let there = seen_cycle (state_at i.states) i.due (lists i.versions.items) c.args.self.now c.self.view_is c.args.cycle c.requires.cycle in
    omega (arith, c.requires.room, seen_length (state_at i.states) i.due (lists i.versions.items) c.args.self.now c.self.view_is c.args.cycle there, c.self.invariant.1.numbers c.args.cycle there)

pub mark_list-requires-clause-layout : goal.mark_list-requires-clause-layout
mark_list-requires-clause-layout g c =
    let i = c.self.inside in
    let row = c.take_room_in.ensures.row in
    layout_versions (state_at i.states) i.due (lists i.versions.items) (lists c.take_room_in.new.rows.items) (bounded_by i.states i.due c.self.invariant.0) c.self.invariant.1 row.len row.lens

pub mark_list-requires-clause-cycle : goal.mark_list-requires-clause-cycle
mark_list-requires-clause-cycle g c =
    let i = c.self.inside in
    seen_cycle (state_at i.states) i.due (lists i.versions.items) c.args.self.now c.self.view_is c.args.cycle c.requires.cycle

pub mark_list-requires-clause-there : goal.mark_list-requires-clause-there
mark_list-requires-clause-there g c = λ k d h.
    let i = c.self.inside in
    let there = seen_cycle (state_at i.states) i.due (lists i.versions.items) c.args.self.now c.self.view_is c.args.cycle c.requires.cycle in
    omega (arith, c.requires.there k d h, seen_length (state_at i.states) i.due (lists i.versions.items) c.args.self.now c.self.view_is c.args.cycle there)

pub mark_list-requires-clause-ready : goal.mark_list-requires-clause-ready
mark_list-requires-clause-ready g c = inl c.take_room_in.ensures.room

pub invariant_of-self : goal.invariant_of-self
invariant_of-self g c =
    let i = c.self.inside in
    let are = c.mark_list.ensures in (
      stated_along i.states i.states i.due c.mark_list.new.due c.self.invariant.0 (record { width = refl; cycles = refl; lens = λ u. refl }) are.width are.cycles,
      are.layout,
    )

pub returns-clause-lens : goal.returns-clause-lens
returns-clause-lens g c = λ t.
    let i = c.self.inside in
    let row = c.take_room_in.ensures.row in
    let vs = c.take_room_in.new.rows.items in
    let bounded = bounded_by i.states i.due c.self.invariant.0 in
    let layout = layout_versions (state_at i.states) i.due (lists i.versions.items) (lists vs) bounded c.self.invariant.1 row.len row.lens in
    let view_is = same_versions (state_at i.states) i.due (lists i.versions.items) (lists vs) bounded c.self.invariant.1 row.len row.lens c.args.self.now c.self.view_is (λ u d m. same_over i.versions.items vs c.args.cycle row c.take_room_in.ensures.same u d) in
    lens_are (state_at i.states) c.args.version i.due c.mark_list.new.due vs c.mark_list.new.versions.items _ c.args.self.now bounded layout view_is c.mark_list.ensures t

pub returns-clause-at : goal.returns-clause-at
returns-clause-at g c = λ t d.
    let i = c.self.inside in
    let row = c.take_room_in.ensures.row in
    let vs = c.take_room_in.new.rows.items in
    let bounded = bounded_by i.states i.due c.self.invariant.0 in
    let layout = layout_versions (state_at i.states) i.due (lists i.versions.items) (lists vs) bounded c.self.invariant.1 row.len row.lens in
    let view_is = same_versions (state_at i.states) i.due (lists i.versions.items) (lists vs) bounded c.self.invariant.1 row.len row.lens c.args.self.now c.self.view_is (λ u d m. same_over i.versions.items vs c.args.cycle row c.take_room_in.ensures.same u d) in
    held_are (state_at i.states) c.args.version i.due c.mark_list.new.due vs c.mark_list.new.versions.items _ c.args.self.now bounded layout view_is c.mark_list.ensures t d
