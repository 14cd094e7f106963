-- The neighbours of a component: itself, then towards the processors by input, then towards the modules by output.
use Rattle.std.specs.Prelude.{ℕ, zero, suc, List, [], Contains, ◌∷◌, Option, None, Some}
use Rattle.omega_net.specs.declared.component.Net.TheVariants.{Low, Comb}
use Rattle.omega_net.specs.declared.component.Component.{Component}
use Rattle.omega_net.specs.declared.component.Component.TheVariants.{Proc, Module, Switch}
use Rattle.omega_net.specs.Numbers.{number_of, component_of}
use Rattle.omega_net.specs.Wires.{upper_end, lower_end, wire_of_proc, wire_of_module, wire_into, wire_out}

-- the components beside one; a processor and a module meet each other on both networks where there is no switch
abbrev pub beside_proc : ℕ → ℕ → List Component
beside_proc zero p = Module p ∷ []
beside_proc (suc n) p = lower_end (suc n) (wire_of_proc Low p) ∷ lower_end (suc n) (wire_of_proc Comb p) ∷ []

abbrev pub beside_module : ℕ → ℕ → List Component
beside_module zero m = Proc m ∷ []
beside_module (suc n) m = upper_end (wire_of_module (suc n) Low m) ∷ upper_end (wire_of_module (suc n) Comb m) ∷ []

abbrev pub beside : ℕ → Component → List Component
beside k (Proc p) = beside_proc k p
beside k (Module m) = beside_module k m
beside k (Switch net s j) =
    upper_end (wire_into k net s j 0) ∷ upper_end (wire_into k net s j 1) ∷ lower_end k (wire_out net s j 0) ∷ lower_end k (wire_out net s j 1) ∷ []

abbrev pub numbers_of : ℕ → List Component → List ℕ
numbers_of k [] = []
numbers_of k (c ∷ cs) = number_of k c ∷ numbers_of k cs

-- `near`, of a component that there is
abbrev pub near_of : ℕ → Option Component → List ℕ
near_of k None = []
near_of k (Some c) = numbers_of k (c ∷ beside k c)

-- and of its number
abbrev pub near : ℕ → ℕ → List ℕ
near k c = near_of k (component_of k c)

-- a component is near each component that is near it
abbrev pub NearIsMutual : Type 0
NearIsMutual = (k c d : ℕ) → Contains (near k c) d → Contains (near k d) c
