use Rattle.std.proofs.Common.{◌≡◌, ◌≤◌, ◌&&◌, count_by}
use Rattle.std.specs.List.{range_with_len}
use Rattle.due_cells.specs.Seen.{due_at}
use Rattle.due_cells.specs.Cones.{is_in}
use Rattle.due_cells.proofs.cone.Members.due_among.Given as goal

abbrev pub invariant-loop-c : goal.invariant-loop-c
invariant-loop-c g l = record {
  value : l.count ≡ count_by (λ c. is_in l.self c && due_at l.cells l.cycle c) (range_with_len 0 l.c);
  few : l.count ≤ l.c;
}
