use Rattle.std.proofs.Common.{◌≡◌, ◌+◌, ◌∙◌, ◌&&◌, ◌||◌, sym, ap, arith, eqb, leb, ltb, is_some}
use Rattle.due_cells.specs.Inputs.{inputs_of}
use Rattle.due_cells.specs.Ranges.{is_marked}
use Rattle.due_cells.proofs.Joined.{range_on}
use Rattle.cell_table.proofs.table.Table.add_ready.Goals as goal

pub loop-cycle-preserved : goal.loop-cycle-preserved
loop-cycle-preserved g c =
    let inv = c.loop-cycle.invariant in
    let cycle = c.loop-cycle.cycle in
    let range = c.args.range in
    let ready = c.has_inputs-ready.result in
    record {
      at = λ t d.
          c.in_ok-add_where.ensures.at t d
          ∙ ap (λ b. b || (((eqb d range.component) && (leb cycle t && ltb t (cycle + 1))) && ready)) (inv.at t d)
          ∙ range_on (is_marked c.args.ranges.now.items t d) (eqb d range.component) t range.from cycle (cycle + 1) (is_some (inputs_of g.G.Grid.rules c.args.self.now.slots c.args.self.now.rows t range.component)) ready c.loop-cycle.auto.cycle (omega arith) (λ k l. ap (λ u. is_some (inputs_of g.G.Grid.rules c.args.self.now.slots c.args.self.now.rows u range.component)) (let e : t ≡ cycle = omega (arith, k, l) in e) ∙ sym c.has_inputs-ready.ensures);
      within = λ n count all fits.
          c.in_ok-add_where.ensures.within n count (inv.within n count all fits) (omega arith, omega (arith, fits.1, c.loop-cycle-test.true), fits.2);
    }
