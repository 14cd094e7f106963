use Rattle.std.proofs.Common.{◌≡◌, ℕ, ◌-◌, ◌<◌, ◌≤◌}
use Rattle.flat_row.specs.Row.{queue_of}
use Rattle.flat_row.specs.Moving.{SameShape, moved_straight}
use Rattle.flat_row.proofs.Carrying.{upto}
use Rattle.flat_row.proofs.moving.move_straight.Given as goal

abbrev pub invariant-loop-x : goal.invariant-loop-x
invariant-loop-x g l = record {
  within : l.next ≤ 64;
  shape : SameShape l.initial.levels.items l.levels.items;
  queues : (m z : ℕ) → z < 64 → queue_of l.levels.items m z ≡ moved_straight (upto l.leave l.next) l.from l.to l.initial.levels.items m z;
}

abbrev pub decreases-loop-x : goal.decreases-loop-x
decreases-loop-x g l = 64 - l.next
