use Rattle.std.proofs.Common.{◌≡◌, ℕ, ◌<◌, ◌≤◌, length, slice_index_or}
use Rattle.cell_states.specs.Near.{near_at}
use Rattle.cell_states.specs.Versions.{version_by}
use Rattle.cell_states.proofs.versions.follow.Given as goal

abbrev pub invariant-loop-c : goal.invariant-loop-c
invariant-loop-c l = record {
  len : length l.each ≡ length l.initial.each;
  done : (c : ℕ) → c < l.c → slice_index_or l.each c 0 ≡ version_by l.changes (near_at l.near c) l.clock (slice_index_or l.initial.each c 0) (length l.changes);
  rest : (c : ℕ) → l.c ≤ c → slice_index_or l.each c 0 ≡ slice_index_or l.initial.each c 0;
}
