use Rattle.std.proofs.Common.{◌≡◌}
use Rattle.std.specs.List.{list_any}
use Rattle.omega_net.specs.Wires.{below}
use Rattle.project_book.specs.Project.{entry_at}
use Rattle.lab_tasks.specs.Elsewhere.{refers_by}
use Rattle.lab_tasks.proofs.other_net.script_refers.Given as goal

abbrev pub invariant-loop-index : goal.invariant-loop-index
invariant-loop-index l = l.found ≡ list_any (λ i. refers_by l.net (entry_at l.project l.proc i)) (below l.index)
