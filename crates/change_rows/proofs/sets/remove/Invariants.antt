use Rattle.std.proofs.Common.{◌≡◌, ℕ, ◌<◌, ◌≤◌, ◌/◌, length, ◌&&◌, not}
use Rattle.change_rows.specs.Marks.{is_in}
use Rattle.change_rows.proofs.sets.remove.Given as goal

abbrev pub invariant-loop-w : goal.invariant-loop-w
invariant-loop-w l = record {
  len : length l.set ≡ length l.initial.set;
  done : (c : ℕ) → c / 64 < l.w → is_in l.set c ≡ (is_in l.initial.set c && not (is_in l.other c));
  rest : (c : ℕ) → l.w ≤ c / 64 → is_in l.set c ≡ is_in l.initial.set c;
}
