-- Components' names as they are read: `pI`, `mI`, `lS.J` and `cS.J`, with any numbers.
use Rattle.std.specs.Prelude.{◌≡◌, ℕ, ◌+◌, ◌^◌, ◌<◌, ◌==◌, Bool, List, take, drop, position, [], ◌∷◌, Option, None, Some, option_map, if◌then◌else◌}
use Rattle.line_words.specs.Numbers.{number_of}
use Rattle.omega_net.specs.declared.component.Net.{Net}
use Rattle.omega_net.specs.declared.component.Net.TheVariants.{Low, Comb}
use Rattle.omega_net.specs.declared.component.Component.{Component}
use Rattle.omega_net.specs.declared.component.Component.TheVariants as Is
use Rattle.omega_net.specs.Texts.{component_text}
use Rattle.omega_net.specs.declared.name.Name.{Name}
use Rattle.omega_net.specs.declared.name.Name.TheVariants.{Proc, Module, Switch}

abbrev pub is_dot : ℕ → Bool
is_dot b = b == 46

-- the switch of a stage and an index, where both are numbers
abbrev pub switch_of : Net → Option ℕ → Option ℕ → Option Name
switch_of net (Some stage) (Some index) = Some (Switch net stage index)
switch_of net _ _ = None

-- the switch of the numbers on both sides of a dot, if there is one
abbrev pub switch_split : Net → List ℕ → Option ℕ → Option Name
switch_split net text None = None
switch_split net text (Some dot) = switch_of net (number_of (take dot text)) (number_of (drop (dot + 1) text))

abbrev pub switch_named : Net → List ℕ → Option Name
switch_named net text = switch_split net text (position is_dot text)

-- the name that a letter and what stands behind it are, if they are one
abbrev pub lettered : ℕ → List ℕ → Option Name
lettered letter text =
    if letter == 112 then option_map (λ n. Proc n) (number_of text)
    else (if letter == 109 then option_map (λ n. Module n) (number_of text)
    else (if letter == 108 then switch_named Low text
    else (if letter == 99 then switch_named Comb text else None)))

-- the name that a text is, if it is one
abbrev pub name_of : List ℕ → Option Name
name_of [] = None
name_of (letter ∷ text) = lettered letter text

-- the component of a name, on a machine that is large enough
abbrev pub component_named : Name → Component
component_named (Proc n) = Is.Proc n
component_named (Module n) = Is.Module n
component_named (Switch net stage index) = Is.Switch net stage index

-- the numbers of a name are of 32 bits
abbrev pub IsWritable : Name → Type 0
IsWritable (Proc n) = n < 2 ^ 32
IsWritable (Module n) = n < 2 ^ 32
IsWritable (Switch net stage index) = (stage < 2 ^ 32) × (index < 2 ^ 32)

-- a component's text is read as its name
abbrev pub NamesAreReadBack : Type 0
NamesAreReadBack = (name : Name) → IsWritable name → name_of (component_text (component_named name)) ≡ Some name
