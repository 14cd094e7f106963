-- Labels: the line of a wire, rotated so that a stage joins the same two labels before and behind it.
use Rattle.std.specs.Prelude.{◌≡◌, ℕ, ◌+◌, ◌-◌, ◌*◌, ◌/◌, ◌%◌, ◌^◌, ◌<◌, ◌≤◌}
use Rattle.omega_net.specs.declared.component.Net.{Net}
use Rattle.omega_net.specs.declared.wire.Wire.{Wire}
use Rattle.omega_net.specs.Numbers.{lines, half}
use Rattle.omega_net.specs.Wires.{bit, wire_into, wire_out}

-- the k bits of a number rotated right by r
abbrev pub rotated_right : ℕ → ℕ → ℕ → ℕ
rotated_right k r n = n / 2 ^ r + n % 2 ^ r * 2 ^ (k - r)

-- the label of a wire: its line rotated right by its stage
abbrev pub label : ℕ → Wire → ℕ
label k w = rotated_right k w.stage w.line

-- the line before a stage that has a label
abbrev pub line_of : ℕ → ℕ → ℕ → ℕ
line_of k stage x = rotated_right k (k - stage) x

-- the wire before a stage that has a label
abbrev pub wire_at : ℕ → Net → ℕ → ℕ → Wire
wire_at k net stage x = record { net = net; stage = stage; line = line_of k stage x }

-- the label of port i of the switch that has label x, at a stage that decides by bit q: x with that bit
abbrev pub port : ℕ → ℕ → ℕ → ℕ
port q i x = x - bit q x * 2 ^ q + i * 2 ^ q

-- the label of port 0 of a switch
abbrev pub switch_label : ℕ → ℕ → ℕ → ℕ
switch_label k stage index = rotated_right k stage index

-- in a machine of 2^k processors, before each stage and behind the last: lines and labels name each other; processors and modules are
-- their own labels; a switch has two labels, which differ in the bit by which its stage decides, and each is that of the wire
-- into it and of the wire out of it by the port of that bit
pub record LabelsName (k : ℕ) : Type 0 where
  pub within : (s l : ℕ) → s ≤ k → l < lines k → rotated_right k s l < lines k
  pub lines_back : (s l : ℕ) → s ≤ k → l < lines k → line_of k s (rotated_right k s l) ≡ l
  pub labels_back : (s x : ℕ) → s ≤ k → x < lines k → rotated_right k s (line_of k s x) ≡ x
  pub processors : (l : ℕ) → rotated_right k 0 l ≡ l
  pub modules : (l : ℕ) → l < lines k → rotated_right k k l ≡ l
  pub first : (s j : ℕ) → s < k → j < half k → bit (k - 1 - s) (switch_label k s j) ≡ 0
  pub into : (net : Net) (s j i : ℕ) → s < k → j < half k → i < 2 → label k (wire_into k net s j i) ≡ switch_label k s j + i * 2 ^ (k - 1 - s)
  pub out : (net : Net) (s j o : ℕ) → s < k → j < half k → o < 2 → label k (wire_out net s j o) ≡ switch_label k s j + o * 2 ^ (k - 1 - s)
  pub input : (s l : ℕ) → s < k → l < lines k → bit (k - 1 - s) (rotated_right k s l) ≡ l / half k

abbrev pub EachIsNamed : Type 0
EachIsNamed = (k : ℕ) → LabelsName k
