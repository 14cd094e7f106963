use Rattle.std.proofs.Common.{◌≡◌, ◌+◌, ◌<◌, ◌≤◌, ◌∙◌, sym, arith, true, false}
use Rattle.change_lists.specs.Changes.{held_at as memory_at}
use Rattle.cell_states.specs.Filling.{is_awake}
use Rattle.cell_states.proofs.Cases.{at_or_other}
use Rattle.cell_states.proofs.states.sets.find_changed.Goals as goal

pub loop-c-preserved : goal.loop-c-preserved
loop-c-preserved g c =
    let inv = c.loop-c.invariant in
    let e = c.add_begun_in.ensures in
    let m = c.args.memories.now in
    let cur = c.loop-c.c in
    let marks1 = c.add_begun_in.new.marks in
    let low = c.range-low.result.0 in
    record {
      len = e.len ∙ inv.len;
      more = λ d. at_or_other (λ d. is_awake c.loop-cycle.marks d ≡ true → is_awake marks1 d ≡ true) cur d (λ a. e.more (inv.more cur a)) (λ n a. e.others d n ∙ inv.more d a);
      memory = λ d. at_or_other (λ d. low ≤ d → d < cur + 1 → is_awake marks1 d ≡ false → memory_at m d c.args.to ≡ memory_at m d c.args.from) cur d (λ l h a. e.here a) (λ n l h a. inv.memory d l (omega (arith, n, h)) (sym (e.others d n) ∙ a));
    }
