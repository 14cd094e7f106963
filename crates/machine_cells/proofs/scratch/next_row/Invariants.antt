use Rattle.std.proofs.Common.{◌≡◌, map, take}
use Rattle.std.specs.Arc.{arc_value}
use Rattle.machine_cells.specs.Cycle.{cycle}
use Rattle.machine_cells.proofs.scratch.next_row.Given as goal

abbrev pub invariant-loop-c : goal.invariant-loop-c
invariant-loop-c l = map arc_value l.next.items ≡ take l.c (cycle l.project (map arc_value l.row))
