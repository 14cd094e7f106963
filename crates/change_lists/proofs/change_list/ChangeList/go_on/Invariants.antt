use Rattle.std.proofs.Common.{◌≡◌, ◌-◌, ◌<◌, ◌≤◌, [], false}
use Rattle.change_lists.specs.Changes.{standing_before, begins, IsWritten}
use Rattle.change_lists.proofs.change_list.ChangeList.go_on.Given as goal

abbrev pub invariant-loop-at : goal.invariant-loop-at
invariant-loop-at g l = record {
  later : l.from < l.at;
  within : l.at ≤ l.to;
  written : IsWritten l.fn.self.begun l.self.begun l.from l.at l.end (standing_before l.fn.self.begun l.from) l.again;
  nothing : l.fn.self.begun ≡ [] → l.self.begun ≡ [];
  begins : begins l.self.begun l.from ≡ false;
}

abbrev pub decreases-loop-at : goal.decreases-loop-at
decreases-loop-at g l = l.to - l.at
