use Rattle.std.proofs.Common.{◌≡◌, ◌-◌, ◌≤◌, length, vec_len}
use Rattle.lab_tasks.specs.Counts.{is_of, references, referrers}
use Rattle.lab_tasks.proofs.Hottest.{Naming}
use Rattle.lab_tasks.proofs.hot.hottest_of.Given as goal

abbrev pub invariant-naming : goal.invariant-naming
invariant-naming l = record {
  few : length l.hots.items ≤ 8;
  long : vec_len l.counts.references ≡ vec_len l.counts.processors;
  named : Naming (λ n. referrers l.project (is_of l.project l.fn.parts n)) (λ n. references l.project (is_of l.project l.fn.parts n))
      l.counts.processors.items l.counts.references.items l.hots.items;
}

abbrev pub decreases-naming : goal.decreases-naming
decreases-naming l = 8 - length l.hots.items
