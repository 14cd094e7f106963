use Rattle.std.proofs.Common.{◌≡◌, ◌++◌, string_bytes}
use Rattle.std.specs.List.{flat_map}
use Rattle.omega_net.specs.Wires.{below}
use Rattle.project_book.specs.Project.{combines_at}
use Rattle.lab_tasks.specs.ProjectTexts.{comma, flag_text}
use Rattle.lab_tasks.proofs.convert.add_flags.Given as goal

abbrev pub invariant-loop-stage : goal.invariant-loop-stage
invariant-loop-stage l =
    string_bytes l.text ≡ string_bytes l.initial.text ++ flat_map (λ stage. comma stage ++ flag_text (combines_at l.project stage)) (below l.stage)
