use Rattle.std.proofs.Common.{◌≡◌, ℕ, ◌<◌, ◌≤◌, length}
use Rattle.change_lists.specs.Changes.{IsCut, list_at}
use Rattle.change_lists.proofs.lists.Lists.truncate.Given as goal

abbrev pub invariant-loop-c : goal.invariant-loop-c
invariant-loop-c g l = record {
  width : length l.self-inside.lists.items ≡ length l.initial.self-inside.lists.items;
  low : l.self-inside.low ≡ l.initial.self-inside.low;
  high : l.self-inside.high ≡ l.initial.self-inside.high;
  done : (c : ℕ) → c < l.c → IsCut (list_at l.initial.self-inside.lists.items c) (list_at l.self-inside.lists.items c) l.n;
  rest : (c : ℕ) → l.c ≤ c → list_at l.self-inside.lists.items c ≡ list_at l.initial.self-inside.lists.items c;
}
