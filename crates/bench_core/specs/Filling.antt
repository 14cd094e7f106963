-- Maps where some cells hold what another map has for them.
use Rattle.std.specs.Prelude.{ℕ, ◌==◌, ◌&&◌, nat_le, nat_lt, if◌then◌else◌, List}
use Rattle.cell_states.specs.declared.cell.CellRange.{CellRange}
use Rattle.due_cells.specs.Ranges.{is_marked}
use Rattle.monitor_sums.specs.Sums.{States}

-- the cells of a component at the cycles from one on to before another
abbrev pub filled_in : States → States → ℕ → ℕ → ℕ → States
filled_in at next c from to u d = if (d == c) && (nat_le from u && nat_lt u to) then next u d else at u d

-- those of the first n components
abbrev pub filled_to : States → States → ℕ → ℕ → ℕ → States
filled_to at next n from to u d = if nat_lt d n && (nat_le from u && nat_lt u to) then next u d else at u d

-- the cells of these ranges
abbrev pub filled_over : States → States → List CellRange → States
filled_over at next ranges u d = if is_marked ranges u d then next u d else at u d
