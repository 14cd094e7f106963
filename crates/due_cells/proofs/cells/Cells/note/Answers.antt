use Rattle.std.proofs.Common.{◌∙◌, ap, refl, sym, arith, length}
use Rattle.std.proofs.Math.ListN.{length-set}
use Rattle.cell_marks.specs.Marked.{Marked}
use Rattle.std.specs.Arc.{arc_value}
use Rattle.cell_states.specs.Near.{near_at}
use Rattle.cell_states.specs.Stated.{state_at}
use Rattle.cell_states.specs.Versions.{lists}
use Rattle.due_cells.proofs.Keeping.{seen_cycle, seen_cycles, seen_length}
use Rattle.due_cells.proofs.MarkedRow.{layout_joined, rows_lens}
use Rattle.due_cells.proofs.NotedRows.{noted_others, noted_row}
use Rattle.cell_states.proofs.Rooms.{length_lists}
use Rattle.due_cells.proofs.Stated.{bounded_by, stated_along}
use Rattle.due_cells.proofs.cells.Cells.note.Goals as goal

pub note_in-requires-clause-cycle : goal.note_in-requires-clause-cycle
note_in-requires-clause-cycle g c =
    let i = c.self.inside in
    omega (arith, length_lists c.begin_idle.new.versions.items, c.begin_idle.ensures.row.len, c.self.invariant.1.rows, seen_cycle (state_at i.states) i.due (lists i.versions.items) c.args.self.now c.self.view_is c.args.cycle c.requires.cycle)

pub note_in-requires-clause-width : goal.note_in-requires-clause-width
note_in-requires-clause-width g c =
    let i = c.self.inside in
    let there = seen_cycle (state_at i.states) i.due (lists i.versions.items) c.args.self.now c.self.view_is c.args.cycle c.requires.cycle in
    omega (arith, c.requires.width, seen_length (state_at i.states) i.due (lists i.versions.items) c.args.self.now c.self.view_is c.args.cycle there, c.begin_idle.ensures.row.lens c.args.cycle, c.self.invariant.1.numbers c.args.cycle there)

pub set_all-requires-clause-row : goal.set_all-requires-clause-row
set_all-requires-clause-row g c =
    let i = c.self.inside in
    seen_cycle (state_at i.states) i.due (lists i.versions.items) c.args.self.now c.self.view_is c.args.cycle c.requires.cycle

pub set_all-requires-clause-width : goal.set_all-requires-clause-width
set_all-requires-clause-width g c =
    let i = c.self.inside in
    c.requires.reached_width ∙ seen_length (state_at i.states) i.due (lists i.versions.items) c.args.self.now c.self.view_is c.args.cycle (set_all-requires-clause-row g c)

pub invariant_of-self : goal.invariant_of-self
invariant_of-self g c =
    let i = c.self.inside in
    let there = seen_cycle (state_at i.states) i.due (lists i.versions.items) c.args.self.now c.self.view_is c.args.cycle c.requires.cycle in
    let wide = c.requires.reached_width ∙ seen_length (state_at i.states) i.due (lists i.versions.items) c.args.self.now c.self.view_is c.args.cycle there ∙ sym (c.self.invariant.1.marks c.args.cycle there) in
    let width = ap (λ (m : Marked). m.width) c.set_all.ensures in
    let cycles = ap (λ (m : Marked). length m.rows) c.set_all.ensures ∙ length-set i.due.rows c.args.cycle _ in (
      stated_along i.states i.states i.due c.set_all.new.self c.self.invariant.0 (record { width = refl; cycles = refl; lens = λ u. refl }) width cycles,
      layout_joined (state_at i.states) i.due c.set_all.new.self (lists i.versions.items) (lists c.note_in.new.rows.items) (bounded_by i.states i.due c.self.invariant.0) c.self.invariant.1 c.args.self.now c.self.view_is c.args.cycle c.args.reached.now 0 there wide c.set_all.ensures (c.note_in.ensures.row.len ∙ c.begin_idle.ensures.row.len) (λ u. c.note_in.ensures.row.lens u ∙ c.begin_idle.ensures.row.lens u),
    )

pub returns-clause-other : goal.returns-clause-other
returns-clause-other g c =
    let i = c.self.inside in
    let there = seen_cycle (state_at i.states) i.due (lists i.versions.items) c.args.self.now c.self.view_is c.args.cycle c.requires.cycle in
    let wide = c.requires.reached_width ∙ seen_length (state_at i.states) i.due (lists i.versions.items) c.args.self.now c.self.view_is c.args.cycle there ∙ sym (c.self.invariant.1.marks c.args.cycle there) in
    record {
      len = seen_cycles (state_at i.states) c.set_all.new.self (lists c.note_in.new.rows.items) _ refl ∙ ap (λ (m : Marked). length m.rows) c.set_all.ensures ∙ length-set i.due.rows c.args.cycle _ ∙ sym (seen_cycles (state_at i.states) i.due (lists i.versions.items) c.args.self.now c.self.view_is);
      lens = λ t. rows_lens (state_at i.states) i.due c.set_all.new.self (lists i.versions.items) (lists c.note_in.new.rows.items) (bounded_by i.states i.due c.self.invariant.0) c.self.invariant.1 c.args.self.now c.self.view_is c.args.cycle c.args.reached.now 0 there wide c.set_all.ensures (c.note_in.ensures.row.len ∙ c.begin_idle.ensures.row.len) (λ u. c.note_in.ensures.row.lens u ∙ c.begin_idle.ensures.row.lens u) t;
      others = λ t d ne. noted_others (state_at i.states) i.due c.set_all.new.self (lists i.versions.items) (lists c.begin_idle.new.versions.items) (lists c.note_in.new.rows.items) (bounded_by i.states i.due c.self.invariant.0) c.self.invariant.1 c.args.self.now c.self.view_is c.args.cycle c.args.reached.now there wide c.set_all.ensures (c.note_in.ensures.row.len ∙ c.begin_idle.ensures.row.len) (λ u. c.note_in.ensures.row.lens u ∙ c.begin_idle.ensures.row.lens u) c.begin_idle.ensures.due c.note_in.ensures.row.others t d ne;
    }

pub returns-clause-noted : goal.returns-clause-noted
returns-clause-noted g c = λ d h.
    let i = c.self.inside in
    let n = length c.args.changes.now in
    let there = seen_cycle (state_at i.states) i.due (lists i.versions.items) c.args.self.now c.self.view_is c.args.cycle c.requires.cycle in
    let wide = c.requires.reached_width ∙ seen_length (state_at i.states) i.due (lists i.versions.items) c.args.self.now c.self.view_is c.args.cycle there ∙ sym (c.self.invariant.1.marks c.args.cycle there) in
    noted_row (state_at i.states) i.due c.set_all.new.self (lists i.versions.items) (lists c.begin_idle.new.versions.items) (lists c.note_in.new.rows.items) (bounded_by i.states i.due c.self.invariant.0) c.self.invariant.1 c.args.self.now c.self.view_is c.args.cycle c.args.reached.now there wide c.set_all.ensures (c.note_in.ensures.row.len ∙ c.begin_idle.ensures.row.len) (λ u. c.note_in.ensures.row.lens u ∙ c.begin_idle.ensures.row.lens u) c.begin_idle.ensures.due c.args.changes.now (near_at (arc_value c.args.near.now) d) c.args.clock n d (c.requires.reached d h) (c.note_in.ensures.noted d h)
