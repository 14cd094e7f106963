-- Routes (Lawrie 1975): at each stage the line's bits rotate left, and the lowest becomes a bit of the module.
use Rattle.std.specs.Prelude.{◌≡◌, ℕ, zero, suc, ◌+◌, ◌-◌, ◌*◌, ◌%◌, ◌<◌, ◌≤◌}
use Rattle.omega_net.specs.declared.component.Net.{Net}
use Rattle.omega_net.specs.declared.component.Component.{Component}
use Rattle.omega_net.specs.declared.component.Component.TheVariants.{Proc, Module, Switch}
use Rattle.omega_net.specs.declared.wire.Wire.{Wire}
use Rattle.omega_net.specs.Numbers.{lines}
use Rattle.omega_net.specs.Wires.{bit, upper_end, lower_end, wire_of_proc, wire_of_module, wire_into, wire_out}

-- the k bits of a line, rotated left by one, with this lowest bit
abbrev pub rotated : ℕ → ℕ → ℕ → ℕ
rotated k l lowest = 2 * l % lines k + lowest

-- the line of the request from p for m before stage s
abbrev pub line_at : ℕ → ℕ → ℕ → ℕ → ℕ
line_at k p m zero = p
line_at k p m (suc s) = rotated k (line_at k p m s) (bit (k - 1 - s) m)

-- the bit of a module or of a processor by which stage s chooses an output, or an input
abbrev pub stage_bit : ℕ → ℕ → ℕ → ℕ
stage_bit k s n = bit (k - 1 - s) n

-- the wire behind a wire's lower end, towards module m; the wire itself where it ends at a module
abbrev pub onward_from : ℕ → ℕ → Wire → Component → Wire
onward_from k m w (Switch net s j) = wire_out net s j (stage_bit k s m)
onward_from k m w _ = w

abbrev pub onward : ℕ → ℕ → Wire → Wire
onward k m w = onward_from k m w (lower_end k w)

-- the wire before a wire's upper end, towards processor p; the wire itself where it ends at a processor
abbrev pub homeward_from : ℕ → ℕ → Wire → Component → Wire
homeward_from k p w (Switch net s j) = wire_into k net s j (stage_bit k s p)
homeward_from k p w _ = w

abbrev pub homeward : ℕ → ℕ → Wire → Wire
homeward k p w = homeward_from k p w (upper_end w)

-- the wire that a request from p for m is on after so many stages
abbrev pub forth : ℕ → Net → ℕ → ℕ → ℕ → Wire
forth k net p m zero = wire_of_proc net p
forth k net p m (suc s) = onward k m (forth k net p m s)

-- the wire that a reply of m to p is on after so many stages
abbrev pub back : ℕ → Net → ℕ → ℕ → ℕ → Wire
back k net p m zero = wire_of_module k net m
back k net p m (suc s) = homeward k p (back k net p m s)

-- in a machine of 2^k processors: requests from p for m go along the lines of their route to m, and replies back along the same
pub record IsRoute (k : ℕ) (net : Net) (p m : ℕ) : Type 0 where
  pub along : (s : ℕ) → s ≤ k → forth k net p m s ≡ record { net = net; stage = s; line = line_at k p m s }
  pub ends : lower_end k (forth k net p m k) ≡ Module m
  pub back_along : (s : ℕ) → s ≤ k → back k net p m (k - s) ≡ forth k net p m s
  pub back_ends : upper_end (back k net p m k) ≡ Proc p

abbrev pub RoutesArrive : Type 0
RoutesArrive = (k : ℕ) (net : Net) (p m : ℕ) → p < lines k → m < lines k → IsRoute k net p m
