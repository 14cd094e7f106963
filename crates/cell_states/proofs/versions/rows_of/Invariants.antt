use Rattle.std.proofs.Common.{◌≡◌, replicate}
use Rattle.cell_states.specs.Versions.{lists}
use Rattle.cell_states.proofs.versions.rows_of.Given as goal

abbrev pub invariant-loop-t : goal.invariant-loop-t
invariant-loop-t l = lists l.rows.items ≡ replicate l._t (replicate l.count l.version)
