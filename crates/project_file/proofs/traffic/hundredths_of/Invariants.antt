use Rattle.std.proofs.Common.{◌≡◌, ◌-◌}
use Rattle.project_file.specs.Traffic.{sought}
use Rattle.project_file.proofs.traffic.hundredths_of.Given as goal

abbrev pub invariant-tried : goal.invariant-tried
invariant-tried l = sought l.share 1 100 ≡ sought l.share l.rate (101 - l.rate)
