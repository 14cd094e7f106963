use Rattle.std.proofs.Common.{◌-◌, ◌≤◌}
use Rattle.comb_switch.specs.CombSwitch.{arrives}
use Rattle.flat_row.specs.Combining.{meeting}
use Rattle.flat_row.proofs.Crossed.{PartlyMet}
use Rattle.flat_row.proofs.crossing.cross_forth.Given as goal

abbrev pub invariant-loop-y : goal.invariant-loop-y
invariant-loop-y l = record {
  within : l.next ≤ 64;
  partly : PartlyMet (meeting l.crossing.settings.bit) (arrives l.crossing.settings) l.crossing.settings.bit l.crossing.from l.crossing.to l.crossing.leave l.next l.initial.levels.items l.levels.items l.initial.waits l.waits;
}

abbrev pub decreases-loop-y : goal.decreases-loop-y
decreases-loop-y l = 64 - l.next
