use Rattle.std.proofs.Common.{◌≡◌, ◌++◌, take, string_bytes}
use Rattle.run_reports.specs.TraceTexts.{further_text}
use Rattle.run_reports.proofs.trace_report.add_further.Given as goal

abbrev pub invariant-loop-span : goal.invariant-loop-span
invariant-loop-span l = string_bytes l.text ≡ string_bytes l.initial.text ++ further_text l.shape l.tag (take l.span-index l.spans)
