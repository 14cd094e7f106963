use Rattle.std.proofs.Common.{◌≡◌, ◌++◌, string_bytes}
use Rattle.std.specs.List.{flat_map}
use Rattle.omega_net.specs.Wires.{below}
use Rattle.machine_page.specs.Machines.{wire_text}
use Rattle.machine_page.proofs.machine.add_stage_wires.Given as goal

abbrev pub invariant-loop-line : goal.invariant-loop-line
invariant-loop-line l = string_bytes l.text ≡ string_bytes l.initial.text ++ flat_map (λ line. wire_text l.shape (record { net = l.net; stage = l.stage; line = line })) (below l.line)
