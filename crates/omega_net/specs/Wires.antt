-- The wires of the omega networks (Lawrie 1975): a perfect shuffle before each stage of switches.
use Rattle.std.specs.Prelude.{ℕ, zero, suc, ◌+◌, ◌*◌, ◌/◌, ◌%◌, ◌^◌, ◌==◌, ◌<◌, ◌≤◌, ◌&&◌, Bool, if◌then◌else◌, List, [], ◌∷◌, ◌++◌, map}
use Rattle.std.specs.List.{flat_map}
use Rattle.omega_net.specs.declared.component.Net.{Net}
use Rattle.omega_net.specs.declared.component.Net.TheVariants.{Low, Comb}
use Rattle.omega_net.specs.declared.component.Component.{Component}
use Rattle.omega_net.specs.declared.component.Component.TheVariants.{Proc, Module, Switch}
use Rattle.omega_net.specs.declared.wire.Wire.{Wire}
use Rattle.omega_net.specs.Numbers.{lines, half}

-- whether a machine of 2^k processors has this wire
abbrev pub IsWire : ℕ → Wire → Type 0
IsWire k w = (w.stage ≤ k) × (w.line < lines k)

-- the end of a wire towards the processors
abbrev pub upper_at : Net → ℕ → ℕ → Component
upper_at net zero l = Proc l
upper_at net (suc s) l = Switch net s (l / 2)

abbrev pub upper_end : Wire → Component
upper_end w = upper_at w.net w.stage w.line

-- and the output that it leaves there
abbrev pub output_of : Wire → ℕ
output_of w = w.line % 2

-- the end of a wire towards the modules
abbrev pub lower_end : ℕ → Wire → Component
lower_end k w = if w.stage == k then Module w.line else Switch w.net w.stage (w.line % half k)

-- and the input that it meets there
abbrev pub input_of : ℕ → Wire → ℕ
input_of k w = w.line / half k

-- the wires at each kind of component
abbrev pub wire_of_proc : Net → ℕ → Wire
wire_of_proc net p = record { net = net; stage = 0; line = p }

abbrev pub wire_of_module : ℕ → Net → ℕ → Wire
wire_of_module k net m = record { net = net; stage = k; line = m }

abbrev pub wire_into : ℕ → Net → ℕ → ℕ → ℕ → Wire
wire_into k net stage index input = record { net = net; stage = stage; line = input * half k + index }

abbrev pub wire_out : Net → ℕ → ℕ → ℕ → Wire
wire_out net stage index output = record { net = net; stage = suc stage; line = 2 * index + output }

abbrev pub net_number : Net → ℕ
net_number Low = 0
net_number Comb = 1

abbrev pub same_wire : Wire → Wire → Bool
same_wire v w = (net_number v.net == net_number w.net) && (v.stage == w.stage) && (v.line == w.line)

-- the numbers below n, upwards
abbrev pub below : ℕ → List ℕ
below zero = []
below (suc n) = below n ++ n ∷ []

-- all wires: by network, by stage, by line
abbrev pub wires : ℕ → List Wire
wires k = flat_map (λ net. flat_map (λ stage. map (λ line. record { net = net; stage = stage; line = line }) (below (lines k))) (below (suc k))) (Low ∷ Comb ∷ [])

-- bit b of a number, the lowest being bit 0
abbrev pub bit : ℕ → ℕ → ℕ
bit b n = n / 2 ^ b % 2
