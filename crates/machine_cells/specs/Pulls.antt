-- What a component is handed, where the messages still stand in the states near it.
use Rattle.std.specs.Prelude.{[], ◌∷◌}
use Rattle.std.specs.Option.{option_copied}
use Rattle.omega_net.specs.declared.message.Traffic.{Traffic}
use Rattle.mem_module.specs.declared.step.ModuleTraffic.{ModuleTraffic}
use Rattle.machine_cells.specs.declared.pulls.SwitchPulls.{SwitchPulls}
use Rattle.machine_cells.specs.declared.pulls.ModulePulls.{ModulePulls}

-- the messages that a switch is handed
abbrev pub traffic : SwitchPulls → Traffic
traffic p = record {
  requests = option_copied p.requests.0 ∷ option_copied p.requests.1 ∷ [];
  replies = option_copied p.replies.0 ∷ option_copied p.replies.1 ∷ [];
  requests_leave = p.requests_leave.0 ∷ p.requests_leave.1 ∷ [];
  replies_leave = p.replies_leave.0 ∷ p.replies_leave.1 ∷ [];
}

-- the messages that a module is handed
abbrev pub module_traffic : ModulePulls → ModuleTraffic
module_traffic p = record {
  requests = option_copied p.requests.0 ∷ option_copied p.requests.1 ∷ [];
  replies_leave = p.replies_leave.0 ∷ p.replies_leave.1 ∷ [];
}
