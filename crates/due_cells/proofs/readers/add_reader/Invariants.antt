use Rattle.std.proofs.Common.{take}
use Rattle.due_cells.proofs.Reading.{IsAdded}
use Rattle.due_cells.proofs.readers.add_reader.Given as goal

abbrev pub invariant-loop-c : goal.invariant-loop-c
invariant-loop-c l = IsAdded l.initial.lists.items l.lists.items (take l.c-index l.near) l.k
