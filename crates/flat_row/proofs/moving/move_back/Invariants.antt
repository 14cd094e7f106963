use Rattle.std.proofs.Common.{◌≡◌, ℕ, ◌+◌, ◌<◌}
use Rattle.flat_row.specs.Row.{queue_of}
use Rattle.flat_row.specs.Moving.{SameShape}
use Rattle.flat_row.proofs.Backing.{partly_back}
use Rattle.flat_row.proofs.moving.move_back.Given as goal

abbrev pub invariant-loop-stage : goal.invariant-loop-stage
invariant-loop-stage g l = record {
  shape : SameShape l.initial.levels.items l.levels.items;
  queues : (m z : ℕ) → m < l.shape + 1 → z < 64 → queue_of l.levels.items m z ≡ partly_back g.T.Routed.route l.shape l.leave l.initial.levels.items l.stage m z;
}
