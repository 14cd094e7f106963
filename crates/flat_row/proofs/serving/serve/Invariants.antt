use Rattle.std.proofs.Common.{◌≡◌, ℕ, ◌-◌, ◌<◌, ◌≤◌, true}
use Rattle.flat_row.specs.Masks.{has}
use Rattle.flat_row.specs.Ends.{Wrote}
use Rattle.flat_row.proofs.Ending.{PartlyServed}
use Rattle.flat_row.proofs.serving.serve.Given as goal

abbrev pub invariant-loop-m : goal.invariant-loop-m
invariant-loop-m l = record {
  within : l.next ≤ 64;
  partly : PartlyServed l.modules l.next l.initial.level l.level l.initial.words.items l.words.items l.answers;
  wrote : Wrote l.wrote l.initial.words.items l.words.items;
  among : (m : ℕ) → m < 64 → has l.wrote m ≡ true → has l.modules m ≡ true;
}

abbrev pub decreases-loop-m : goal.decreases-loop-m
decreases-loop-m l = 64 - l.next
