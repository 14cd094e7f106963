use Rattle.std.proofs.Common.{◌≡◌, ◌≤◌, ◌<◌, ◌+◌, ℕ, min, length, slice_index, vec_len}
use Rattle.lab_tasks.proofs.hot.add_counts.Given as goal

abbrev pub invariant-loop-index : goal.invariant-loop-index
invariant-loop-index l = record {
  processors : vec_len l.counts.processors ≡ length l.own;
  references : vec_len l.counts.references ≡ length l.own;
  one : (n : ℕ) → n < l.index → slice_index l.counts.processors.items n ≡ slice_index l.initial.counts.processors.items n + min (slice_index l.own n) 1;
  more : (n : ℕ) → n < l.index → slice_index l.counts.references.items n ≡ slice_index l.initial.counts.references.items n + slice_index l.own n;
  left_one : (n : ℕ) → l.index ≤ n → slice_index l.counts.processors.items n ≡ slice_index l.initial.counts.processors.items n;
  left_more : (n : ℕ) → l.index ≤ n → slice_index l.counts.references.items n ≡ slice_index l.initial.counts.references.items n;
}
