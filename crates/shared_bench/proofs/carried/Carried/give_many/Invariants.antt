use Rattle.std.proofs.Common.{◌≡◌, ◌+◌, ◌≤◌, true, All, length, vec_len, vec_capacity}
use Rattle.std.specs.Vec.Iter.{into_iter_items, into_iter_len}
use Rattle.bench_core.specs.Shown.{project_of}
use Rattle.bench_core.specs.Stands.{HasHistory}
use Rattle.shared_bench.specs.Rule.{spent_of}
use Rattle.shared_bench.specs.Answers.{IsGivenSpent}
use Rattle.shared_bench.proofs.Lots.{LeadsTo}
use Rattle.shared_bench.proofs.carried.Carried.give_many.Given as goal

abbrev pub invariant-loop-done : goal.invariant-loop-done
invariant-loop-done l = record {
  left : into_iter_len l.done-iterator ≡ length (into_iter_items l.done-iterator);
  leads : LeadsTo l.initial.self l.fn.lot.items l.answers.items l.self (into_iter_items l.done-iterator);
  room : vec_len l.answers + into_iter_len l.done-iterator ≤ vec_capacity l.answers;
  capacity : vec_capacity l.answers ≡ vec_capacity l.initial.answers;
  journal : l.self.journal ≡ l.initial.self.journal;
  project : project_of l.self ≡ project_of l.initial.self;
  kept : spent_of l.initial.self ≡ true → spent_of l.self ≡ true;
  spent : All (λ given. IsGivenSpent given → spent_of l.self ≡ true) l.answers.items;
  history : HasHistory l.self;
}
