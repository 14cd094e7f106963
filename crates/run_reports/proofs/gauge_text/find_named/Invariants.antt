use Rattle.std.proofs.Common.{◌≡◌, drop}
use Rattle.std.specs.Prelude.{bytes_eq}
use Rattle.std.specs.List.{find}
use Rattle.run_reports.specs.GaugeTexts.{gauge_text}
use Rattle.run_reports.proofs.gauge_text.find_named.Given as goal

abbrev pub invariant-loop-gauge : goal.invariant-loop-gauge
invariant-loop-gauge l = find (λ g. bytes_eq (gauge_text l.shape g) l.word) (drop l.gauge-index l.all) ≡ find (λ g. bytes_eq (gauge_text l.shape g) l.word) l.all
