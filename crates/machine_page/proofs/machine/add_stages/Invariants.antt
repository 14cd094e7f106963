use Rattle.std.proofs.Common.{◌≡◌, ◌++◌, string_bytes}
use Rattle.std.specs.List.{flat_map}
use Rattle.omega_net.specs.Wires.{below}
use Rattle.project_book.specs.Project.{combines_at}
use Rattle.machine_page.specs.Machines.{on_text}
use Rattle.machine_page.proofs.machine.add_stages.Given as goal

abbrev pub invariant-loop-stage : goal.invariant-loop-stage
invariant-loop-stage l = string_bytes l.text ≡ string_bytes l.initial.text ++ flat_map (λ stage. on_text (combines_at l.project stage)) (below l.stage)
