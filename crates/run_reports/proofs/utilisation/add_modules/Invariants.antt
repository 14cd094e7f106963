use Rattle.std.proofs.Common.{◌≡◌, ◌++◌, map}
use Rattle.omega_net.specs.Wires.{below}
use Rattle.run_reports.specs.Utilisation.{served_by}
use Rattle.run_reports.proofs.utilisation.add_modules.Given as goal

abbrev pub invariant-loop-module : goal.invariant-loop-module
invariant-loop-module l = l.all.items ≡ l.initial.all.items ++ map (served_by l.shape) (below l.«module»)
