use Rattle.std.proofs.Common.{◌≡◌, ℕ, ◌-◌, ◌<◌, false, unwrap_or, []}
use Rattle.change_rows.specs.Cells.{found}
use Rattle.change_rows.specs.Marks.{is_in}
use Rattle.change_rows.specs.Rows.{words_at}
use Rattle.row_tests.proofs.sourced.are_kept.Given as goal

abbrev pub invariant-loop-c : goal.invariant-loop-c
invariant-loop-c l = (d : ℕ) → d < l.c → is_in l.given.moved.items d ≡ false → (0 < l.t) × (unwrap_or (found l.given.own d) [] ≡ words_at l.rows.rows (l.t - 1) d)
