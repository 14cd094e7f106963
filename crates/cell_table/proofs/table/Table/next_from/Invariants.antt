use Rattle.std.proofs.Common.{◌≡◌, ℕ, ◌<◌, false}
use Rattle.cell_table.specs.Cells.{IsThere, AtOrAfter}
use Rattle.cell_table.specs.Claims.{is_claimable}
use Rattle.cell_table.proofs.table.Table.next_from.Given as goal

abbrev pub invariant-loop-cycle : goal.invariant-loop-cycle
invariant-loop-cycle g l = (t c : ℕ) → IsThere g.G.Grid.rules l.self t c → AtOrAfter l.from.cycle l.from.component t c → t < l.cycle → is_claimable g.G.Grid.rules l.self t c ≡ false
