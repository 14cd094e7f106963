use Rattle.std.proofs.Common.{◌≡◌, ℕ, ◌*◌, ◌<◌, ◌≤◌, ◌&&◌, not, length, min}
use Rattle.cell_marks.specs.Bits.{bit_in, bits_of}
use Rattle.cell_marks.specs.Marked.{count_in}
use Rattle.cell_marks.proofs.words.remove_in.Given as goal

abbrev pub invariant-loop-word : goal.invariant-loop-word
invariant-loop-word l = record {
  len : length l.words ≡ length l.initial.words;
  done : (c : ℕ) → c < 64 * l.word → bit_in l.words c ≡ (bit_in l.initial.words c && not (bit_in l.other c));
  rest : (c : ℕ) → 64 * l.word ≤ c → bit_in l.words c ≡ bit_in l.initial.words c;
  counted : l.count ≡ count_in (bits_of l.words (min l.n (64 * l.word)));
  few : l.count ≤ 64 * l.word;
}
