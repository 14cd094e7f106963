use Rattle.std.proofs.Common.{◌≡◌, ℕ, ◌+◌, ◌-◌, ◌<◌, ◌≤◌, ◌∙◌, sym, ap, arith, true, None}
use Rattle.std.proofs.lemmas.Bool.{true≢false}
use Rattle.change_lists.specs.Changes.{Changes, list_at, standing, held_at as memory_at}
use Rattle.cell_states.specs.Filling.{is_awake}
use Rattle.cell_states.proofs.Cases.{at_or_other}
use Rattle.cell_states.proofs.Changed.{before_is}
use Rattle.cell_states.proofs.ChangedRows.{below, reached}
use Rattle.cell_states.proofs.states.changed.go_on_changed.Goals as goal

pub loop-c-preserved : goal.loop-c-preserved
loop-c-preserved g c =
    let inv = c.loop-c.invariant in
    let e = c.go_on.ensures in
    let found = c.in-Some.ensures in
    let cur = c.in-Some.c in
    let m0 = c.args.memories.now in
    let m1 = c.go_on.new.self in
    let at = λ (d : ℕ) (u : ℕ) (n : d ≡ cur → ⊥). ap (λ (x : Changes g.row.M.Denot). standing x.begun u None) (e.others d n) in
    let was = λ (u : ℕ). ap (λ (x : Changes g.row.M.Denot). standing x.begun u None) (inv.rest cur found.0.0) in
    record {
      within = omega (arith, found.1);
      width = e.width ∙ inv.width;
      repeated = λ d u. at_or_other (λ d. d < cur + 1 → is_awake c.args.changes.now d ≡ true → c.args.from ≤ u → u < c.args.to → memory_at m1 d u ≡ memory_at m0 d (c.args.from - 1)) cur d (λ h a k l. e.written.here u k l ∙ before_is (list_at c.loop-c.memories cur) c.args.from c.requires.cycle.later ∙ was (c.args.from - 1)) (λ n h a k l. at d u n ∙ inv.repeated d u (below c.loop-c.next cur d c.args.changes.now n h a found.0.2) a k l);
      earlier = λ d u. at_or_other (λ d. u < c.args.from → memory_at m1 d u ≡ memory_at m0 d u) cur d (λ h. e.written.earlier u h ∙ inv.earlier cur u h) (λ n h. at d u n ∙ inv.earlier d u h);
      behind = λ d u. at_or_other (λ d. c.args.to ≤ u → u < c.args.end → memory_at m1 d u ≡ memory_at m0 d u) cur d (λ h k. e.written.later u h k ∙ inv.behind cur u h k) (λ n h k. at d u n ∙ inv.behind d u h k);
      rest = λ d h. e.others d (λ p. absurd (omega (arith, h, p))) ∙ inv.rest d (omega (arith, h, found.0.0));
      others = λ d a. e.others d (λ p. absurd (true≢false (sym found.0.1 ∙ ap (is_awake c.args.changes.now) (sym p) ∙ a))) ∙ inv.others d a;
    }

pub returns-clause-repeated : goal.returns-clause-repeated
returns-clause-repeated g c = λ d u a k l. c.loop-c.invariant.repeated d u (reached c.loop-c.next d c.args.changes.now a (c.in_default.ensures d)) a k l

pub returns-clause-others : goal.returns-clause-others
returns-clause-others g c = λ d u a. ap (λ (x : Changes g.row.M.Denot). standing x.begun u None) (c.loop-c.invariant.others d a)
