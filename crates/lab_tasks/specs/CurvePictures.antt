-- What the pictures of curves share.
use Rattle.std.specs.Prelude.{ℕ, ◌+◌, ◌*◌, min, List, length, take, drop, map}
use Rattle.omega_net.specs.Wires.{below}
use Rattle.svg_plots.specs.declared.tick.Tick.{Tick}
use Rattle.lab_tasks.specs.Tables.{processors_of}

-- so many elements of a list, behind so many times as many
abbrev pub from_place : {A : Type 0} → ℕ → ℕ → List A → List A
from_place n each xs = drop (min (length xs) (n * each)) xs

abbrev pub part_of : {A : Type 0} → ℕ → ℕ → List A → List A
part_of n each xs = take (min (length (from_place n each xs)) each) (from_place n each xs)

-- a tick at each power of two up to 2^k; values are logarithms in hundredths
abbrev pub doubling_at : ℕ → Tick
doubling_at power = record { value = power * 100; number = processors_of power }

abbrev pub doublings : ℕ → List Tick
doublings k = map doubling_at (below (k + 1))
