use Rattle.std.proofs.Common.{◌≡◌, ◌∙◌, ◌<◌, arith, subst}
use Rattle.grid_law.specs.Run.{run}
use Rattle.due_cells.proofs.WideRows.{one_more}
use Rattle.due_cells.proofs.along.loaded.Goals as goal

pub loop-component-preserved : goal.loop-component-preserved
loop-component-preserved g c =
    let R = g.G.Grid.rules in
    let s = c.args.slots.now in
    let t = c.args.cycle in
    let n = c.loop-component.component in
    let inside : n < R.components s = subst (λ m. n < m) c.components-count.ensures c.loop-component-test.true in
    record {
      stands = c.load_one.ensures.stands;
      states = one_more R s (λ d. g.M.WholeRow.state c.load_one.new.row d ≡ run R s t d) n
          (λ d h. c.load_one.ensures.others d (omega (arith, h, inside)) (λ e. omega (arith, h, e)) ∙ c.loop-component.invariant.states d h)
          (c.load_one.ensures.loaded c.if-not-load_one.false);
    }
