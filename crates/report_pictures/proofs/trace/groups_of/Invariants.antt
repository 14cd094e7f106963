use Rattle.std.proofs.Common.{◌≡◌, map}
use Rattle.omega_net.specs.Wires.{below}
use Rattle.report_pictures.specs.TracePictures.{from_last, group_of}
use Rattle.report_pictures.proofs.trace.groups_of.Given as goal

abbrev pub invariant-loop-row : goal.invariant-loop-row
invariant-loop-row l = l.groups.items ≡ map (λ row. group_of l.shape l.carriers l.spans (from_last l.places row)) (below l.row)
