use Rattle.std.proofs.Common.{◌≡◌, take}
use Rattle.run_reports.specs.Completions.{latest}
use Rattle.run_reports.proofs.spread.latest.Given as goal

abbrev pub invariant-loop-cycle : goal.invariant-loop-cycle
invariant-loop-cycle l = l.latest ≡ latest (take l.cycle-index l.cycles)
