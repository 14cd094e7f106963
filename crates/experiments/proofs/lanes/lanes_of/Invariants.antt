use Rattle.std.proofs.Common.{◌≡◌, ◌≤◌, ◌+◌, ◌*◌, sum, drop}
use Rattle.experiments.proofs.lanes.lanes_of.Given as goal

abbrev pub invariant-loop-count : goal.invariant-loop-count
invariant-loop-count l = record {
  sum : l.lanes + sum (drop l.count-index l.counts) ≡ sum l.counts;
  small : l.lanes ≤ 4294967295 * l.count-index;
}
