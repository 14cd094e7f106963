use Rattle.std.proofs.Common.{◌≡◌, ◌++◌, take, string_bytes}
use Rattle.std.specs.List.{flat_map}
use Rattle.run_reports.specs.Series.{bin_row}
use Rattle.run_reports.proofs.series.add_bin_rows.Given as goal

abbrev pub invariant-loop-bin : goal.invariant-loop-bin
invariant-loop-bin l = string_bytes l.text ≡ string_bytes l.initial.text ++ flat_map bin_row (take l.bin-index l.bins)
