use Rattle.std.proofs.Common.{◌≡◌, ℕ, [], length}
use Rattle.change_lists.specs.Changes.{list_at}
use Rattle.change_lists.proofs.lists.Lists.new.Given as goal

abbrev pub invariant-loop-c : goal.invariant-loop-c
invariant-loop-c g l = record {
  width : length l.lists.items ≡ l._c;
  nothing : (c : ℕ) → list_at l.lists.items c ≡ [];
}
