use Rattle.std.proofs.Common.{◌≡◌, ℕ, ◌+◌, ◌*◌, ◌<◌, ◌≤◌, ◌||◌}
use Rattle.cell_marks.specs.Bits.{bit_in}
use Rattle.cell_marks.proofs.words.join_four.Given as goal

abbrev pub invariant-loop-at : goal.invariant-loop-at
invariant-loop-at l = record {
  done : (k : ℕ) → k < 64 * l.at → bit_in l.four k ≡ (bit_in l.initial.four k || bit_in l.other (64 * l.from + k));
  rest : (k : ℕ) → 64 * l.at ≤ k → bit_in l.four k ≡ bit_in l.initial.four k;
}
