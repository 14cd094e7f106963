use Rattle.std.proofs.Common.{◌≡◌, ℕ, ◌+◌, ◌<◌, ◌∙◌, sym, ap, arith, true}
use Rattle.std.proofs.lemmas.Bool.{true≢false}
use Rattle.cell_states.specs.Filling.{is_awake}
use Rattle.cell_states.specs.Readied.{IsReadied}
use Rattle.cell_states.proofs.Cases.{at_or_other}
use Rattle.cell_states.proofs.ChangedRows.{below, reached}
use Rattle.cell_states.proofs.Readied.{readied_along}
use Rattle.cell_states.proofs.states.whole.ready_all.Goals as goal

pub loop-component-preserved : goal.loop-component-preserved
loop-component-preserved g c =
    let inv = c.loop-component.invariant in
    let e = c.ready_cell.ensures in
    let at_cur = c.in-Some.ensures in
    let cur = c.in-Some.component in
    let t = c.args.cycle in
    let set = c.args.set.now in
    let value = λ (d : ℕ). g.G.Grid.codec.memory (g.M.WholeRow.state c.args.row.now d) in
    let m = c.loop-component.memories in
    let m1 = c.ready_cell.new.memories in
    let r = c.loop-component.ready.items in
    let r1 = c.ready_cell.new.ready.items in
    let marks = c.loop-component.changes in
    let marks1 = c.ready_cell.new.changes in
    record {
      within = omega (arith, at_cur.1);
      each = e.each;
      same = λ d. e.others.same d ∙ inv.same d;
      ready = λ d. at_or_other (λ d. d < cur + 1 → is_awake set d ≡ true → IsReadied m1 r1 marks1 t d (value d)) cur d (λ h a. c.in_ok-ready_cell.ensures.ready)
          (λ n h a. readied_along cur m m1 r r1 marks marks1 e.others t d (value d) n (inv.ready d (below c.loop-component.next cur d set n h a at_cur.0.2) a));
      unmarked = λ d a. e.others.marked d (λ p. absurd (true≢false (sym at_cur.0.1 ∙ ap (is_awake set) (sym p) ∙ a))) ∙ inv.unmarked d a;
      later = λ d h. e.others.marked d (λ p. absurd (omega (arith, h, p))) ∙ inv.later d (omega (arith, h, at_cur.0.0));
    }

pub returns-clause-ready : goal.returns-clause-ready
returns-clause-ready g c = λ d a. c.loop-component.invariant.ready d (reached c.loop-component.next d c.args.set.now a (c.in_default.ensures d)) a
