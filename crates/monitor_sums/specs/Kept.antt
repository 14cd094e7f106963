-- What is kept of a run: what each cell counts.
use Rattle.std.specs.Prelude.{◌≡◌, ℕ, ◌<◌, ◌≤◌, List, [], slice_index_or}
use Rattle.omega_net.specs.Numbers.{components}
use Rattle.monitor_sums.specs.declared.counted.Counted.{Counted}
use Rattle.monitor_sums.specs.Counts.{counted, nothing}
use Rattle.monitor_sums.specs.Sums.{States}

-- what is kept of a component's cells, by cycle, and for how many cycles there is room
pub record Row : Type 0 where
  pub counts : List Counted
  pub room : ℕ

-- a component that counts nothing, with room for so many cycles
abbrev pub blank : ℕ → Row
blank room = record { counts = []; room = room }

-- a machine of 2^k processors, the last cycle that is counted, and what is kept of each component's cells
pub record Kept : Type 0 where
  pub k : ℕ
  pub last : ℕ
  pub cells : List Row

-- what is kept of a component; where nothing is, there is no room
abbrev pub row_at : List Row → ℕ → Row
row_at cells c = slice_index_or cells c (blank 0)

-- what is kept of a cell; where nothing is, it counts nothing
abbrev pub kept_at : List Row → ℕ → ℕ → Counted
kept_at cells t c = slice_index_or (row_at cells c).counts t nothing

-- `stands`: what is kept of each cell that is counted is what the map's state counts
abbrev pub StandsFor : Kept → States → Type 0
StandsFor kept at = (t c : ℕ) → t ≤ kept.last → c < components kept.k → kept_at kept.cells t c ≡ counted (at t c)
