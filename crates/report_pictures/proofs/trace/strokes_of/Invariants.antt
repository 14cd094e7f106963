use Rattle.std.proofs.Common.{◌≡◌, ◌+◌, map}
use Rattle.omega_net.specs.Wires.{below}
use Rattle.report_pictures.specs.TracePictures.{first_of, stroke_at}
use Rattle.report_pictures.proofs.trace.strokes_of.Given as goal

abbrev pub invariant-loop-column : goal.invariant-loop-column
invariant-loop-column l = l.strokes.items ≡ map (λ column. stroke_at l.tag l.spans (first_of l.spans + column)) (below l.column)
