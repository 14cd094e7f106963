use Rattle.std.proofs.Common.{◌<◌, ◌∙◌, ◌&&◌, ◌||◌, ap, sym, arith, get_or, leb, ltb}
use Rattle.cell_states.specs.Near.{has}
use Rattle.cell_states.specs.Stated.{state_at}
use Rattle.cell_states.specs.Versions.{lists}
use Rattle.due_cells.specs.Ranges.{is_marked, is_marked_else}
use Rattle.due_cells.proofs.Keeping.{seen_cycles, seen_length}
use Rattle.due_cells.proofs.MarkedRow.{marked_apart}
use Rattle.due_cells.proofs.MarkedCells.{marked_then, ready_kept, held_are, len_are, lens_are, later_from, first_listed}
use Rattle.due_cells.proofs.NotedRows.{layout_versions, same_versions}
use Rattle.due_cells.proofs.Stated.{bounded_by}
use Rattle.due_cells.proofs.cells.Cells.mark_ranges.Goals as goal

pub make_rooms-requires-clause-within : goal.make_rooms-requires-clause-within
make_rooms-requires-clause-within g c =
    let i = c.self.inside in
    omega (arith, c.requires.to, seen_cycles (state_at i.states) i.due (lists i.versions.items) c.args.self.now c.self.view_is)

pub mark_later-requires-clause-to : goal.mark_later-requires-clause-to
mark_later-requires-clause-to g c =
    let i = c.self.inside in
    omega (arith, c.requires.to, seen_cycles (state_at i.states) i.due (lists i.versions.items) c.args.self.now c.self.view_is)

pub mark_later-requires-clause-width : goal.mark_later-requires-clause-width
mark_later-requires-clause-width g c =
    let i = c.self.inside in
    let cycles = seen_cycles (state_at i.states) i.due (lists i.versions.items) c.args.self.now c.self.view_is in
    sym (c.requires.whole 0 (omega (arith, c.requires.some, c.requires.to))) ∙ seen_length (state_at i.states) i.due (lists i.versions.items) c.args.self.now c.self.view_is 0 (omega (arith, c.requires.some, c.requires.to, cycles))

pub mark_later-requires-clause-there : goal.mark_later-requires-clause-there
mark_later-requires-clause-there g c = λ k d h.
    let i = c.self.inside in
    let cycles = seen_cycles (state_at i.states) i.due (lists i.versions.items) c.args.self.now c.self.view_is in
    let width = sym (c.requires.whole 0 (omega (arith, c.requires.some, c.requires.to))) ∙ seen_length (state_at i.states) i.due (lists i.versions.items) c.args.self.now c.self.view_is 0 (omega (arith, c.requires.some, c.requires.to, cycles)) in
    omega (arith, c.requires.later.there k d h, width)

pub mark_later-requires-clause-ready : goal.mark_later-requires-clause-ready
mark_later-requires-clause-ready g c = λ t some low high.
    let list = c.args.list.now in
    let first = get_or list 0 0 in
    let early = later_from c.args.ranges.now c.args.from c.args.to first c.requires.between.after (sym (c.requires.later.listed first) ∙ first_listed list some) in
    c.in_ok-make_rooms.ensures.ready c.args.version t (omega (arith, early, low)) high

pub mark_others-requires-clause-within : goal.mark_others-requires-clause-within
mark_others-requires-clause-within g c = λ k d h.
    let i = c.self.inside in
    let r = c.requires.between.within k d h in
    let are = c.mark_later.ensures in
    let cycles = seen_cycles (state_at i.states) i.due (lists i.versions.items) c.args.self.now c.self.view_is in
    let width = sym (c.requires.whole 0 (omega (arith, c.requires.some, c.requires.to))) ∙ seen_length (state_at i.states) i.due (lists i.versions.items) c.args.self.now c.self.view_is 0 (omega (arith, c.requires.some, c.requires.to, cycles)) in (
      r.0,
      omega (arith, r.1, are.cycles, c.requires.to, cycles),
      omega (arith, r.2, are.width, width),
    )

pub mark_others-requires-clause-ready : goal.mark_others-requires-clause-ready
mark_others-requires-clause-ready g c = λ k d h t low high.
    let i = c.self.inside in
    let rooms = c.in_ok-make_rooms.ensures in
    let cycles = seen_cycles (state_at i.states) i.due (lists i.versions.items) c.args.self.now c.self.view_is in
    let layout = layout_versions (state_at i.states) i.due (lists i.versions.items) (lists c.make_rooms.new.versions.items) (bounded_by i.states i.due c.self.invariant.0) c.self.invariant.1 rooms.len rooms.lens in
    let to : t < c.args.to = omega (arith, high, (c.requires.between.within k d h).1) in
    ready_kept c.args.version i.due c.mark_later.new.due c.make_rooms.new.versions.items c.mark_later.new.versions.items _ layout c.mark_later.ensures t (omega (arith, to, c.requires.to, cycles)) (rooms.ready c.args.version t (omega (arith, low, c.requires.between.after k d h)) to)

pub returns-clause-marked : goal.returns-clause-marked
returns-clause-marked g c = λ t d.
    let i = c.self.inside in
    let rooms = c.in_ok-make_rooms.ensures in
    let vs = c.make_rooms.new.versions.items in
    let bounded = bounded_by i.states i.due c.self.invariant.0 in
    let layout = layout_versions (state_at i.states) i.due (lists i.versions.items) (lists vs) bounded c.self.invariant.1 rooms.len rooms.lens in
    let view_is = same_versions (state_at i.states) i.due (lists i.versions.items) (lists vs) bounded c.self.invariant.1 rooms.len rooms.lens c.args.self.now c.self.view_is (λ u e m. rooms.same u e) in
    let both = marked_then c.args.version i.due c.mark_later.new.due c.mark_others.new.due vs c.mark_later.new.versions.items c.mark_others.new.versions.items (λ t e. has c.args.list.now e && (leb 1 t && ltb t c.args.to)) (λ t e. is_marked_else c.args.ranges.now c.args.to t e) (λ t e. is_marked c.args.ranges.now t e) c.mark_later.ensures c.mark_others.ensures (λ t e. ap (λ b. (b && (leb 1 t && ltb t c.args.to)) || is_marked_else c.args.ranges.now c.args.to t e) (c.requires.later.listed e) ∙ sym (marked_apart c.args.to t e c.args.ranges.now)) in
    held_are (state_at i.states) c.args.version i.due c.mark_others.new.due vs c.mark_others.new.versions.items _ c.args.self.now bounded layout view_is both t d

pub returns-clause-lens : goal.returns-clause-lens
returns-clause-lens g c =
    let i = c.self.inside in
    let rooms = c.in_ok-make_rooms.ensures in
    let vs = c.make_rooms.new.versions.items in
    let bounded = bounded_by i.states i.due c.self.invariant.0 in
    let layout = layout_versions (state_at i.states) i.due (lists i.versions.items) (lists vs) bounded c.self.invariant.1 rooms.len rooms.lens in
    let view_is = same_versions (state_at i.states) i.due (lists i.versions.items) (lists vs) bounded c.self.invariant.1 rooms.len rooms.lens c.args.self.now c.self.view_is (λ u e m. rooms.same u e) in
    let both = marked_then c.args.version i.due c.mark_later.new.due c.mark_others.new.due vs c.mark_later.new.versions.items c.mark_others.new.versions.items (λ t e. has c.args.list.now e && (leb 1 t && ltb t c.args.to)) (λ t e. is_marked_else c.args.ranges.now c.args.to t e) (λ t e. is_marked c.args.ranges.now t e) c.mark_later.ensures c.mark_others.ensures (λ t e. ap (λ b. (b && (leb 1 t && ltb t c.args.to)) || is_marked_else c.args.ranges.now c.args.to t e) (c.requires.later.listed e) ∙ sym (marked_apart c.args.to t e c.args.ranges.now)) in (
      len_are (state_at i.states) c.args.version i.due c.mark_others.new.due vs c.mark_others.new.versions.items _ c.args.self.now bounded layout view_is both,
      λ t. lens_are (state_at i.states) c.args.version i.due c.mark_others.new.due vs c.mark_others.new.versions.items _ c.args.self.now bounded layout view_is both t,
    )
