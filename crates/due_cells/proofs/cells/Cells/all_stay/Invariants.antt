use Rattle.std.proofs.Common.{◌≡◌, ◌-◌, take, All}
use Rattle.due_cells.specs.Seen.{held_at}
use Rattle.due_cells.proofs.cells.Cells.all_stay.Given as goal

abbrev pub invariant-loop-component : goal.invariant-loop-component
invariant-loop-component g l =
    All (λ c. (held_at l.self (l.cycle - 1) c).state ≡ (held_at l.self l.cycle c).state) (take l.component-index l.near)
