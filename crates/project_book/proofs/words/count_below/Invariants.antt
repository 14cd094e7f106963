use Rattle.std.proofs.Common.{◌-◌, ◌<◌, ◌≤◌, length, slice_index_or}
use Rattle.project_book.specs.declared.words.FirstWord.{FirstWord}
use Rattle.project_book.proofs.words.count_below.Given as goal

abbrev pub invariant-loop-low : goal.invariant-loop-low
invariant-loop-low l = record {
  ordered : l.low ≤ l.high;
  within : l.high ≤ length l.words;
  below : (d : FirstWord) → 0 < l.low → (slice_index_or l.words (l.low - 1) d).address < l.address;
  from : (d : FirstWord) → l.high < length l.words → l.address ≤ (slice_index_or l.words l.high d).address;
}

abbrev pub decreases-loop-low : goal.decreases-loop-low
decreases-loop-low l = l.high - l.low
