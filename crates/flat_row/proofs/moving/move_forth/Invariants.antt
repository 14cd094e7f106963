use Rattle.std.proofs.Common.{◌≡◌, ℕ, ◌+◌, ◌-◌, ◌<◌}
use Rattle.flat_row.specs.Row.{queue_of}
use Rattle.flat_row.specs.Moving.{SameShape}
use Rattle.flat_row.proofs.Forthing.{partly}
use Rattle.flat_row.proofs.moving.move_forth.Given as goal

abbrev pub invariant-loop-done : goal.invariant-loop-done
invariant-loop-done g l = record {
  shape : SameShape l.fn.levels.items l.levels.items;
  queues : (m z : ℕ) → m < l.shape + 2 → z < 64 → queue_of l.levels.items m z ≡ partly g.T.Routed.route l.shape l.leave l.enter l.fn.levels.items (l.shape - l.done) m z;
}
