-- The numbers of components, in a machine of 2^k processors.
use Rattle.std.specs.Prelude.{ℕ, ◌+◌, ◌-◌, ◌*◌, ◌/◌, ◌%◌, ◌^◌, ◌<◌, nat_lt, if◌then◌else◌, Option, None, Some}
use Rattle.omega_net.specs.declared.component.Net.{Net}
use Rattle.omega_net.specs.declared.component.Net.TheVariants.{Low, Comb}
use Rattle.omega_net.specs.declared.component.Component.{Component}
use Rattle.omega_net.specs.declared.component.Component.TheVariants.{Proc, Module, Switch}

-- the lines of a network, which are its processors and its modules
abbrev pub lines : ℕ → ℕ
lines k = 2 ^ k

-- the switches of a stage
abbrev pub half : ℕ → ℕ
half k = 2 ^ k / 2

abbrev pub components : ℕ → ℕ
components k = 2 * lines k + 2 * (k * half k)

-- the number of a network's first switch
abbrev pub first_switch : ℕ → Net → ℕ
first_switch k Low = 2 * lines k
first_switch k Comb = 2 * lines k + k * half k

abbrev pub number_of : ℕ → Component → ℕ
number_of k (Proc p) = p
number_of k (Module m) = lines k + m
number_of k (Switch net stage index) = first_switch k net + stage * half k + index

-- whether a machine of 2^k processors has it
abbrev pub Exists : ℕ → Component → Type 0
Exists k (Proc p) = p < lines k
Exists k (Module m) = m < lines k
Exists k (Switch net stage index) = (stage < k) × (index < half k)

abbrev pub switch_at : ℕ → Net → ℕ → Component
switch_at k net d = Switch net (d / half k) (d % half k)

-- the component of a number, if there is one
abbrev pub component_of : ℕ → ℕ → Option Component
component_of k n =
    if nat_lt n (lines k) then Some (Proc n)
    else (if nat_lt n (first_switch k Low) then Some (Module (n - lines k))
    else (if nat_lt n (first_switch k Comb) then Some (switch_at k Low (n - first_switch k Low))
    else (if nat_lt n (components k) then Some (switch_at k Comb (n - first_switch k Comb)) else None)))
