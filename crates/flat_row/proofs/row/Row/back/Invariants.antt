use Rattle.std.proofs.Common.{◌≡◌, length}
use Rattle.flat_row.specs.Leaving.{AllBack}
use Rattle.flat_row.proofs.row.Row.back.Given as goal

abbrev pub invariant-loop-stage : goal.invariant-loop-stage
invariant-loop-stage l = record {
  leave : length l.leave ≡ 6;
  turns : length l.turns ≡ 6;
  all : AllBack l.project l.self l.net l.stage l.leave l.turns;
}
