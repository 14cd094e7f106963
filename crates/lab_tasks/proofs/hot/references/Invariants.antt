use Rattle.std.proofs.Common.{◌≡◌, ◌≤◌, ◌*◌, sum_by}
use Rattle.omega_net.specs.Wires.{below}
use Rattle.lab_tasks.specs.Counts.{any, script_times, times_of}
use Rattle.lab_tasks.proofs.hot.references.Given as goal

abbrev pub invariant-loop-proc : goal.invariant-loop-proc
invariant-loop-proc l = (l.times ≡ sum_by (times_of l.project any) (below l.proc)) × (l.times ≤ script_times * l.proc)
