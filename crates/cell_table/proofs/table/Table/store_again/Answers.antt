use Rattle.std.proofs.Common.{ℕ, ◌≤◌, ◌<◌, ◌∙◌, arith, length}
use Rattle.cell_table.specs.Consistent.{current_of}
use Rattle.cell_table.proofs.Held.{held_stored}
use Rattle.cell_table.proofs.Stores.{is_table_after}
use Rattle.cell_table.proofs.table.Table.store_again.Goals as goal

pub invariant_of-self-in-Ok : goal.invariant_of-self-in-Ok
invariant_of-self-in-Ok g c =
    let i = c.self.inside in
    let x = current_of g.G.Grid.rules i.slots i.cells c.args.cell.cycle c.args.cell.component in
    let s = c.in-Ok.ensures.ok x (rw (← c.self.view_is) at c.requires.again.holds) in
    let below : (t : ℕ) → t ≤ i.horizon → t < length i.cells = λ t h. omega (arith, c.self.invariant.table.whole.cycles) in
    record {
      table = is_table_after g.G.Grid.rules g.G.Grid.laws i.slots i.horizon i.cells c.repeat_in.new.cells c.self.invariant.table c.args.cell.cycle c.args.cell.component x c.args.changed c.clock_after-clock.result (rw (← c.self.view_is) at c.requires.changes).0 (λ t1 c1 h k. s.at t1 c1 (below t1 h) k) (rw (← c.self.view_is) at c.requires.computed) s.len (λ t1 h. s.lens t1 ∙ c.self.invariant.table.whole.components t1 h);
      index = c.self.invariant.index;
      near = c.self.invariant.near;
      states = held_stored g.G.Grid.rules i.slots i.horizon i.held i.cells c.repeat_in.new.cells c.args.cell.cycle c.args.cell.component x c.args.changed c.clock_after-clock.result c.self.invariant.within c.self.invariant.states (λ t1 c1 h k. s.at t1 c1 (below t1 h) k);
      within = c.self.invariant.within;
    }
