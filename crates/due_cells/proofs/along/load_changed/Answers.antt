use Rattle.std.proofs.Common.{◌≡◌, ◌+◌, ◌<◌, ◌∙◌, sym, ap, arith}
use Rattle.std.proofs.lemmas.Bool.{true≢false}
use Rattle.grid_law.specs.Run.{run}
use Rattle.cell_states.specs.Filling.{is_awake}
use Rattle.cell_states.proofs.Cases.{at_or_other}
use Rattle.cell_states.proofs.Looking.{by_reached}
use Rattle.due_cells.proofs.along.load_changed.Goals as goal

pub loop-component-preserved : goal.loop-component-preserved
loop-component-preserved g c =
    let inv = c.loop-component.invariant in
    let R = g.G.Grid.rules in
    let s = c.args.slots.now in
    let t = c.args.cycle in
    let W = g.M.WholeRow in
    let marks = c.args.changed.now in
    let next = c.loop-component.next in
    let cur = c.in-Some.component in
    let found = c.in-Some.ensures in
    let e = c.load_one.ensures in
    let row1 = c.load_one.new.row in
    record {
      within = omega (arith, found.1);
      stands = e.stands;
      states = λ d. at_or_other (λ d. d < R.components s → d < cur + 1 → W.state row1 d ≡ run R s t d) cur d
          (λ h k. e.loaded c.if-not-load_one.false)
          (λ n h k. e.others d h n ∙ by_reached next d marks _ _ (inv.states d h) (λ l. found.0.2 d l (omega (arith, n, k))) (inv.same d h));
      same = λ d h a. e.others d h (λ p. absurd (true≢false (sym found.0.1 ∙ ap (is_awake marks) (sym p) ∙ a))) ∙ inv.same d h a;
    }

pub returns : goal.returns
returns g c = λ _.
    let inv = c.loop-component.invariant in
    record {
      stands_so = inv.stands;
      states = λ d h. by_reached c.loop-component.next d c.args.changed.now _ _ (inv.states d h) (λ l. c.in_default.ensures d l) (inv.same d h);
    }
