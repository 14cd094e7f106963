use Rattle.std.proofs.Common.{◌≡◌, ℕ, ◌*◌, ◌<◌, ◌||◌}
use Rattle.cell_marks.specs.Bits.{bit_in}
use Rattle.cell_marks.proofs.words.is_union_in.Given as goal

abbrev pub invariant-loop-k : goal.invariant-loop-k
invariant-loop-k l = (c : ℕ) → c < 64 * l.k → c < l.n → (bit_in l.one c || bit_in l.other c) ≡ bit_in l.union c
