use Rattle.std.proofs.Common.{◌≡◌, suc}
use Rattle.std.specs.List.{flat_map}
use Rattle.omega_net.specs.Wires.{below}
use Rattle.machine_cells.specs.Run.{run}
use Rattle.machine_cells.specs.Runs.{state_in}
use Rattle.run_reports.specs.References.{references_of}
use Rattle.run_reports.proofs.reference.references.Given as goal

abbrev pub invariant-loop-proc : goal.invariant-loop-proc
invariant-loop-proc l = l.all.items ≡ flat_map (references_of l.project (state_in (run l.project)) (suc l.project.horizon)) (below l.proc)
