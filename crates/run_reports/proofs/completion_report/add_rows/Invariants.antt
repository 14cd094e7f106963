use Rattle.std.proofs.Common.{◌≡◌, ◌++◌, take, string_bytes}
use Rattle.std.specs.List.{flat_map}
use Rattle.run_reports.specs.CompletionTexts.{completion_row}
use Rattle.run_reports.proofs.completion_report.add_rows.Given as goal

abbrev pub invariant-loop-completion : goal.invariant-loop-completion
invariant-loop-completion l = string_bytes l.text ≡ string_bytes l.initial.text ++ flat_map completion_row (take l.completion-index l.completions)
