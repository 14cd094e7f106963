use Rattle.std.proofs.Common.{◌≡◌, ◌++◌, take, string_bytes}
use Rattle.std.specs.List.{flat_map}
use Rattle.run_reports.specs.FullTexts.{full_row}
use Rattle.run_reports.proofs.full_report.add_rows.Given as goal

abbrev pub invariant-loop-first : goal.invariant-loop-first
invariant-loop-first l = string_bytes l.text ≡ string_bytes l.initial.text ++ flat_map (full_row l.shape l.cycle) (take l.first-index l.firsts)
