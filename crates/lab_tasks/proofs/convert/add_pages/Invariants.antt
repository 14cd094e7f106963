use Rattle.std.proofs.Common.{◌≡◌, ◌++◌, string_bytes}
use Rattle.std.specs.List.{flat_map}
use Rattle.omega_net.specs.Wires.{below}
use Rattle.lab_tasks.specs.ProjectTexts.{page_text}
use Rattle.lab_tasks.proofs.convert.add_pages.Given as goal

abbrev pub invariant-loop-page : goal.invariant-loop-page
invariant-loop-page l = string_bytes l.text ≡ string_bytes l.initial.text ++ flat_map (page_text l.project) (below l.page)
