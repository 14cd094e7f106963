use Rattle.std.proofs.Common.{◌≡◌, ◌≤◌, replicate, vec_capacity}
use Rattle.cell_states.proofs.versions.spread.Given as goal

abbrev pub invariant-loop-c : goal.invariant-loop-c
invariant-loop-c l = (l.each.items ≡ replicate l._c l.version) × (vec_capacity l.each ≡ vec_capacity l.initial.each) × (l.count ≤ vec_capacity l.each)
