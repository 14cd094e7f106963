use Rattle.std.proofs.Common.{◌≡◌, ℕ, ◌<◌, []}
use Rattle.change_rows.specs.Rows.{words_at}
use Rattle.row_tests.proofs.sourced.is_blank.Given as goal

abbrev pub invariant-loop-c : goal.invariant-loop-c
invariant-loop-c l = (d : ℕ) → d < l.c → words_at l.rows.rows l.t d ≡ []
