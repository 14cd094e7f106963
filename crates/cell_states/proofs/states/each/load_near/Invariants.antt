use Rattle.std.proofs.Common.{◌≡◌, ◌+◌, take, All, slice_index_or}
use Rattle.cell_states.specs.NextWords.{HoldsWords}
use Rattle.cell_states.proofs.states.each.load_near.Given as goal

abbrev pub invariant-loop-component : goal.invariant-loop-component
invariant-loop-component g l = record {
  held : HoldsWords g.G.Grid.rules g.G.Grid.codec g.M.WholeRow.stands g.M.WholeRow.state l.slots l.held;
  passed : All (λ d. slice_index_or l.held.at.items d 0 ≡ l.cycle + 1) (take l.component-index l.near);
}
