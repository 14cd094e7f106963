-- What a switch and a module are handed where nothing comes and nothing leaves, and what is told of a state that stays.
use Rattle.std.specs.Prelude.{◌≡◌, [], ◌∷◌, Option, None, Some, false}
use Rattle.omega_net.specs.declared.message.Traffic.{Traffic}
use Rattle.mem_module.specs.declared.step.ModuleTraffic.{ModuleTraffic}

abbrev pub quiet : Traffic
quiet = record { requests = None ∷ None ∷ []; replies = None ∷ None ∷ []; requests_leave = false ∷ false ∷ []; replies_leave = false ∷ false ∷ [] }

abbrev pub quiet_module : ModuleTraffic
quiet_module = record { requests = None ∷ None ∷ []; replies_leave = false ∷ false ∷ [] }

-- the next state, or nothing where it is the own one
abbrev pub IsNextOf : {X : Type 0} → X → X → Option X → Type 0
IsNextOf own next None = own ≡ next
IsNextOf own next (Some x) = x ≡ next
