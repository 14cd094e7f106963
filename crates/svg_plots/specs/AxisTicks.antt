-- The ticks of an axis between two numbers.
use Rattle.std.specs.Prelude.{ℕ, ◌+◌, ◌-◌, ◌*◌, ◌/◌, ◌&&◌, nat_le, max, if◌then◌else◌, List, [], ◌∷◌}
use Rattle.std.specs.List.{flat_map}
use Rattle.svg_plots.specs.declared.tick.Tick.{Tick}
use Rattle.svg_plots.specs.Ticks.{step_of}
use Rattle.svg_plots.specs.Timelines.{ticks}

-- a number that is within two others has a tick; a value is ten for each one
abbrev pub tick_within : ℕ → ℕ → ℕ → List Tick
tick_within from to n = if nat_le from n && nat_le n to then record { value = n * 10; number = n } ∷ [] else []

-- those within two numbers that are multiples of a step of 1, 2 or 5 times a power of ten
abbrev pub step_between : ℕ → ℕ → ℕ
step_between from to = max (step_of (to - from) 8) 1

abbrev pub ticks_between : ℕ → ℕ → List Tick
ticks_between from to = flat_map (λ place. tick_within from to ((from / step_between from to + place) * step_between from to)) ticks
