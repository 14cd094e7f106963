use Rattle.std.proofs.Common.{◌≡◌, ◌++◌, take, string_bytes}
use Rattle.std.specs.List.{flat_map}
use Rattle.run_reports.specs.Utilisation.{busy_row}
use Rattle.run_reports.proofs.utilisation.add_rows.Given as goal

abbrev pub invariant-loop-sum : goal.invariant-loop-sum
invariant-loop-sum l = string_bytes l.text ≡ string_bytes l.initial.text ++ flat_map (λ s. busy_row l.shape l.cycles s.gauge s.sum) (take l.sum-index l.sums)
