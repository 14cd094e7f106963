use Rattle.std.proofs.Common.{◌≡◌, ◌++◌, string_bytes}
use Rattle.std.specs.List.{flat_map}
use Rattle.omega_net.specs.Wires.{below}
use Rattle.machine_page.specs.Machines.{stage_wires}
use Rattle.machine_page.proofs.machine.add_net_wires.Given as goal

abbrev pub invariant-loop-stage : goal.invariant-loop-stage
invariant-loop-stage l = string_bytes l.text ≡ string_bytes l.initial.text ++ flat_map (λ stage. stage_wires l.shape l.net stage) (below l.stage)
