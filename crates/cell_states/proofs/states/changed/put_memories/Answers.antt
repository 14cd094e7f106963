use Rattle.std.proofs.Common.{◌≡◌, ℕ, ◌+◌, ◌<◌, ◌∙◌, sym, ap, arith, true, None, slice_index_or}
use Rattle.std.proofs.lemmas.Bool.{true≢false}
use Rattle.change_lists.specs.Changes.{Changes, standing, held_at as memory_at}
use Rattle.cell_states.specs.Filling.{is_awake}
use Rattle.cell_states.specs.Ready.{value_in}
use Rattle.cell_states.proofs.Cases.{at_or_other}
use Rattle.cell_states.proofs.Changed.{value_along, ready_along}
use Rattle.cell_states.proofs.ChangedRows.{below, reached}
use Rattle.cell_states.proofs.states.changed.put_memories.Goals as goal

pub put_ready-requires-clause-ready : goal.put_ready-requires-clause-ready
put_ready-requires-clause-ready g c =
    let inv = c.loop-component.invariant in
    let found = c.in-Some.ensures in
    let cur = c.in-Some.component in
    ready_along c.args.memories.now c.loop-component.memories cur c.args.cycle _ _ (inv.rest cur found.0.0) (inv.left cur found.0.0) (c.requires.ready cur found.0.1)

pub loop-component-preserved : goal.loop-component-preserved
loop-component-preserved g c =
    let inv = c.loop-component.invariant in
    let e = c.put_ready.ensures in
    let found = c.in-Some.ensures in
    let cur = c.in-Some.component in
    let t = c.args.cycle in
    let m0 = c.args.memories.now in
    let m1 = c.put_ready.new.memories in
    let r0 = c.args.ready.now.items in
    let at = λ (d : ℕ) (u : ℕ) (n : d ≡ cur → ⊥). ap (λ (x : Changes g.row.M.Denot). standing x.begun u None) (e.other.others d n) in
    record {
      within = omega (arith, found.1);
      width = e.other.width ∙ inv.width;
      len = e.len ∙ inv.len;
      put = λ d. at_or_other (λ d. d < cur + 1 → is_awake c.args.changes.now d ≡ true → memory_at m1 d t ≡ value_in m0 d t (slice_index_or r0 d None)) cur d (λ h a. e.here ∙ value_along m0 c.loop-component.memories cur t _ _ (inv.rest cur found.0.0) (inv.left cur found.0.0)) (λ n h a. at d t n ∙ inv.put d (below c.loop-component.next cur d c.args.changes.now n h a found.0.2) a);
      cycles = λ d u. at_or_other (λ d. u < c.args.end → (u ≡ t → ⊥) → memory_at m1 d u ≡ memory_at m0 d u) cur d (λ h k. e.other.cycles u h k ∙ inv.cycles cur u h k) (λ n h k. at d u n ∙ inv.cycles d u h k);
      rest = λ d h. e.other.others d (λ p. absurd (omega (arith, h, p))) ∙ inv.rest d (omega (arith, h, found.0.0));
      left = λ d h. e.other_ready d (λ p. absurd (omega (arith, h, p))) ∙ inv.left d (omega (arith, h, found.0.0));
      others = λ d a. e.other.others d (λ p. absurd (true≢false (sym found.0.1 ∙ ap (is_awake c.args.changes.now) (sym p) ∙ a))) ∙ inv.others d a;
    }

pub returns-clause-put : goal.returns-clause-put
returns-clause-put g c = λ d a. c.loop-component.invariant.put d (reached c.loop-component.next d c.args.changes.now a (c.in_default.ensures d)) a

pub returns-clause-others : goal.returns-clause-others
returns-clause-others g c = λ d u a. ap (λ (x : Changes g.row.M.Denot). standing x.begun u None) (c.loop-component.invariant.others d a)
