use Rattle.std.proofs.Common.{◌≡◌, ◌≤◌, ◌<◌, ◌⊎◌, ℕ, slice_index}
use Rattle.lab_tasks.proofs.hot.hottest.Given as goal

abbrev pub invariant-loop-number : goal.invariant-loop-number
invariant-loop-number l = record {
  least : (n : ℕ) → n < l.number → (slice_index l.counts.processors.items n < l.most.processors)
      ⊎ ((slice_index l.counts.processors.items n ≡ l.most.processors) × (slice_index l.counts.references.items n ≤ l.most.references));
  there : 0 < l.most.processors → (l.most.number < l.number) × (l.most.processors ≡ slice_index l.counts.processors.items l.most.number)
      × (l.most.references ≡ slice_index l.counts.references.items l.most.number)
      × ((n : ℕ) → n < l.most.number → (slice_index l.counts.processors.items n < l.most.processors)
      ⊎ ((slice_index l.counts.processors.items n ≡ l.most.processors) × (slice_index l.counts.references.items n < l.most.references)));
}
