use Rattle.std.proofs.Common.{◌≡◌, ℕ, ◌<◌, true, length}
use Rattle.cell_states.specs.Filling.{is_awake}
use Rattle.cell_states.proofs.no_row.NoRowWholeRow.written.Given as goal

abbrev pub invariant-loop-c : goal.invariant-loop-c
invariant-loop-c g l = record {
  len : length l.written ≡ length l.initial.written;
  marks : (d : ℕ) → d < l.c → is_awake l.written d ≡ true;
}
