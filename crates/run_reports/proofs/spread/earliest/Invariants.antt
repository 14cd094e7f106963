use Rattle.std.proofs.Common.{◌≡◌, take}
use Rattle.run_reports.specs.Completions.{earliest}
use Rattle.run_reports.proofs.spread.earliest.Given as goal

abbrev pub invariant-loop-cycle : goal.invariant-loop-cycle
invariant-loop-cycle l = l.earliest ≡ earliest (take l.cycle-index l.cycles)
