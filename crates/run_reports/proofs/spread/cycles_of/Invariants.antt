use Rattle.std.proofs.Common.{◌≡◌, take}
use Rattle.run_reports.specs.Completions.{cycles_of}
use Rattle.run_reports.proofs.spread.cycles_of.Given as goal

abbrev pub invariant-loop-completion : goal.invariant-loop-completion
invariant-loop-completion l = l.cycles.items ≡ cycles_of l.event (take l.completion-index l.completions)
