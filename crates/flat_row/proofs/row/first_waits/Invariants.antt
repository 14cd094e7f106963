use Rattle.std.proofs.Common.{◌≡◌, replicate}
use Rattle.flat_row.specs.Row.{first_buffers}
use Rattle.flat_row.proofs.row.first_waits.Given as goal

abbrev pub invariant-loop-s : goal.invariant-loop-s
invariant-loop-s l = l.waits.items ≡ replicate l._s (first_buffers l.shape)
