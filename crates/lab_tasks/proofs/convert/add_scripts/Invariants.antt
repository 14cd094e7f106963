use Rattle.std.proofs.Common.{◌≡◌, ◌++◌, string_bytes}
use Rattle.std.specs.List.{flat_map}
use Rattle.omega_net.specs.Wires.{below}
use Rattle.lab_tasks.specs.ProjectTexts.{script_text}
use Rattle.lab_tasks.proofs.convert.add_scripts.Given as goal

abbrev pub invariant-loop-proc : goal.invariant-loop-proc
invariant-loop-proc l = string_bytes l.text ≡ string_bytes l.initial.text ++ flat_map (script_text l.project) (below l.proc)
