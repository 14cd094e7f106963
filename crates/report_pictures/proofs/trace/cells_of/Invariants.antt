use Rattle.std.proofs.Common.{◌≡◌, ◌+◌, map}
use Rattle.omega_net.specs.Wires.{below}
use Rattle.report_pictures.specs.TracePictures.{cell_at, first_of}
use Rattle.report_pictures.proofs.trace.cells_of.Given as goal

abbrev pub invariant-loop-column : goal.invariant-loop-column
invariant-loop-column l = l.cells.items ≡ map (λ column. cell_at l.carriers l.spans l.place (first_of l.spans + column)) (below l.column)
