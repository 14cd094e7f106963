-- The run of a grid, simulated from cycle 0.
use Rattle.std.specs.Prelude.{ℕ, zero, suc, ◌-◌, ◌==◌, if◌then◌else◌, List, [], map}
use Rattle.grid_law.specs.Rules.{Rules}

module _ {State Slots Slot : Type 0} (R : Rules State Slots Slot) (s : Slots) where
  -- the state of each component at each cycle: the starts, then the steps of the near states one cycle earlier
  abbrev pub run : ℕ → ℕ → State
  run zero c = R.start s c
  run (suc t) c = R.step s (map (run t) (R.near s c)) c

  -- the states of the run that a cell is computed from; cycle 0 has none
  abbrev pub run_inputs : ℕ → ℕ → List State
  run_inputs t c = if t == 0 then [] else map (run (t - 1)) (R.near s c)
