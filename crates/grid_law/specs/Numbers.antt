-- The slots of a line: a list of places, each with two settings.
use Rattle.std.specs.Prelude.{ℕ, List, slice_index_or, slice_set, codes}
use Rattle.grid_law.specs.declared.numbers.Number.{Number}
use Rattle.grid_law.specs.declared.numbers.SlotFault.{SlotFault}
use Rattle.grid_law.specs.declared.numbers.SlotFault.TheVariants.{NoSuchSlot, Memory}
use Rattle.grid_law.specs.declared.numbers.LineSlot.{LineSlot}
use Rattle.grid_law.specs.declared.numbers.LineSlot.TheVariants.{Seed, Add}

-- the settings of a place
abbrev pub number_at : List Number → ℕ → Number
number_at numbers c = slice_index_or numbers c (record { seed = 0; add = 0 })

-- the place that a slot belongs to
abbrev pub place_of : LineSlot → ℕ
place_of (Seed c) = c
place_of (Add c) = c

-- the value of a slot
abbrev pub slot_value : List Number → LineSlot → ℕ
slot_value numbers (Seed c) = (number_at numbers c).seed
slot_value numbers (Add c) = (number_at numbers c).add

-- the numbers with another value in one slot
abbrev pub slot_set : List Number → LineSlot → ℕ → List Number
slot_set numbers (Seed c) value = slice_set numbers c (record { seed = value; add = (number_at numbers c).add })
slot_set numbers (Add c) value = slice_set numbers c (record { seed = (number_at numbers c).seed; add = value })

-- the text of a fault
abbrev pub fault_text : SlotFault → List ℕ
fault_text NoSuchSlot = codes "no such slot"
fault_text Memory = codes "no memory"
