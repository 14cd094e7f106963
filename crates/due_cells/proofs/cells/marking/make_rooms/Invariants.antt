use Rattle.std.proofs.Common.{◌≡◌, ℕ, ◌<◌, ◌≤◌, [], length, slice_index_or}
use Rattle.cell_states.specs.Versions.{lists, version_at}
use Rattle.due_cells.specs.Marking.{IsReady}
use Rattle.due_cells.proofs.cells.marking.make_rooms.Given as goal

abbrev pub invariant-loop-t : goal.invariant-loop-t
invariant-loop-t l = record {
  len : length (lists l.versions.items) ≡ length (lists l.initial.versions.items);
  lens : (u : ℕ) → length (slice_index_or (lists l.versions.items) u []) ≡ length (slice_index_or (lists l.initial.versions.items) u []);
  same : (u c : ℕ) → version_at (lists l.versions.items) u c ≡ version_at (lists l.initial.versions.items) u c;
  ready : (v u : ℕ) → l.from ≤ u → u < l.t → IsReady v l.due l.versions.items u;
}
