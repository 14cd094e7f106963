use Rattle.std.proofs.Common.{◌≡◌}
use Rattle.std.specs.List.{list_any}
use Rattle.omega_net.specs.Wires.{below}
use Rattle.lab_tasks.specs.Elsewhere.{script_refers}
use Rattle.lab_tasks.proofs.other_net.refers.Given as goal

abbrev pub invariant-loop-proc : goal.invariant-loop-proc
invariant-loop-proc l = l.found ≡ list_any (script_refers l.project l.net) (below l.proc)
