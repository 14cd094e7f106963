-- The numbers of components that are named in commands.
use Rattle.std.specs.Prelude.{ℕ, ◌+◌, ◌&&◌, nat_lt, if◌then◌else◌, List, Option, option_map}
use Rattle.omega_net.specs.declared.component.Net.{Net}
use Rattle.omega_net.specs.declared.component.Component.TheVariants as Is
use Rattle.omega_net.specs.declared.name.Name.{Name}
use Rattle.omega_net.specs.declared.name.Name.TheVariants.{Proc, Module, Switch}
use Rattle.omega_net.specs.Names.{name_of}
use Rattle.omega_net.specs.Numbers.{lines, half, components, number_of}

abbrev pub proc_number : ℕ → ℕ → ℕ
proc_number k p = if nat_lt p (lines k) then p else components k

abbrev pub module_number : ℕ → ℕ → ℕ
module_number k m = if nat_lt m (lines k) then lines k + m else components k

abbrev pub switch_number : ℕ → Net → ℕ → ℕ → ℕ
switch_number k net s j = if nat_lt s k && nat_lt j (half k) then number_of k (Is.Switch net s j) else components k

-- the number of the component that a name is; the first number that no component has, where the machine doesn't have it
abbrev pub number_named : ℕ → Name → ℕ
number_named k (Proc p) = proc_number k p
number_named k (Module m) = module_number k m
number_named k (Switch net s j) = switch_number k net s j

-- of a word that is a name
abbrev pub component_named : ℕ → List ℕ → Option ℕ
component_named k word = option_map (number_named k) (name_of word)
