use Rattle.std.proofs.Common.{◌≡◌, ℕ, length, take, slice_index_or, if◌then◌else◌}
use Rattle.cell_states.specs.Near.{has}
use Rattle.cell_states.proofs.versions.put_all.Given as goal

abbrev pub invariant-loop-place : goal.invariant-loop-place
invariant-loop-place l = record {
  len : length l.each ≡ length l.initial.each;
  at : (c : ℕ) → slice_index_or l.each c 0 ≡ (if has (take l.place-index l.places) c then l.version else slice_index_or l.initial.each c 0);
}
