use Rattle.std.proofs.Common.{◌∙◌, sym, arith}
use Rattle.due_cells.specs.Seen.{Seen}
use Rattle.grid_law.specs.Rules.{Differ}
use Rattle.cell_table.proofs.Held.{held_edited}
use Rattle.due_cells.proofs.Reading.{index_along, near_along}
use Rattle.cell_table.proofs.Touched.{is_table_touched, touched_from_marks}
use Rattle.cell_table.proofs.table.Table.follow.Goals as goal

pub invariant_of-self : goal.invariant_of-self
invariant_of-self g c =
    let R = g.G.Grid.rules in
    let i = c.self.inside in
    let v : Seen g.row.G-State.Denot g.row.G-Slots.Denot = record { slots = i.slots; horizon = i.horizon; clock = i.clock; rows = i.cells } in
    let count = c.components-count.ensures in
    let differ : Differ R v.slots c.args.next c.args.listed.now = rw (← c.self.view_is) at c.requires.differ in
    record {
      table = is_table_touched R g.G.Grid.laws v c.self.invariant.table c.args.next c.args.listed.now differ c.args.horizon c.retouch.new.cells (λ t k h m. c.in-Ok.ensures.ok.at t k h (rw count m) ∙ touched_from_marks R v c.args.listed.now c.args.marks.now c.args.horizon c.self.invariant.table.whole.cycles (rw (← c.self.view_is) at c.requires.at) t k h m) c.in-Ok.ensures.ok.len (λ t h. c.in-Ok.ensures.ok.whole t h ∙ count);
      index = index_along R g.G.Grid.laws v.slots c.args.next i.readers differ.shape c.self.invariant.index;
      near = near_along R g.G.Grid.laws v.slots c.args.next i.neighbours differ.shape c.self.invariant.near;
      states = held_edited R v c.args.next c.args.listed.now c.args.horizon i.held c.min-self-inside.result c.retouch.new.cells c.self.invariant.within (omega (arith, c.min-self-inside.ensures)) (omega (arith, c.min-self-inside.ensures)) (sym (g.G.Grid.laws.shape_components v.slots c.args.next differ.shape)) c.self.invariant.states (λ t k h m. c.in-Ok.ensures.ok.at t k h (rw count m) ∙ touched_from_marks R v c.args.listed.now c.args.marks.now c.args.horizon c.self.invariant.table.whole.cycles (rw (← c.self.view_is) at c.requires.at) t k h m);
      within = omega (arith, c.min-self-inside.ensures);
    }
