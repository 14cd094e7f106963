use Rattle.std.proofs.Common.{◌≡◌, ◌++◌, string_bytes}
use Rattle.std.specs.List.{flat_map}
use Rattle.omega_net.specs.Numbers.{component_of}
use Rattle.omega_net.specs.Wires.{below}
use Rattle.machine_page.specs.Machines.{name_text}
use Rattle.machine_page.proofs.machine.add_names.Given as goal

abbrev pub invariant-loop-number : goal.invariant-loop-number
invariant-loop-number l = string_bytes l.text ≡ string_bytes l.initial.text ++ flat_map (λ c. name_text (component_of l.shape c)) (below l.number)
