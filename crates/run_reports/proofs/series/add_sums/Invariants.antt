use Rattle.std.proofs.Common.{◌≡◌, ◌++◌, codes, take, string_bytes}
use Rattle.std.specs.Prelude.{decimal}
use Rattle.std.specs.List.{flat_map}
use Rattle.run_reports.proofs.series.add_sums.Given as goal

abbrev pub invariant-loop-sum : goal.invariant-loop-sum
invariant-loop-sum l = string_bytes l.text ≡ string_bytes l.initial.text ++ flat_map (λ s. codes "," ++ decimal s) (take l.sum-index l.sums)
