use Rattle.std.proofs.Common.{ℕ, ◌<◌}
use Rattle.grid_law.specs.Codec.{IsTold}
use Rattle.cell_states.proofs.states.whole.are_told.Given as goal

abbrev pub invariant-loop-c : goal.invariant-loop-c
invariant-loop-c g l = (d : ℕ) → d < l.c → IsTold g.G.Grid.codec (g.M.WholeRow.state l.row d)
