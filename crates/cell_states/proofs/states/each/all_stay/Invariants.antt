use Rattle.std.proofs.Common.{◌≡◌, ◌-◌, take, All}
use Rattle.change_rows.specs.Rows.{words_at}
use Rattle.change_lists.specs.Changes.{held_at as memory_at}
use Rattle.cell_states.proofs.states.each.all_stay.Given as goal

abbrev pub invariant-loop-component : goal.invariant-loop-component
invariant-loop-component g l =
    All (λ c. (words_at l.rows.rows (l.cycle - 1) c ≡ words_at l.rows.rows l.cycle c) × (memory_at l.memories c (l.cycle - 1) ≡ memory_at l.memories c l.cycle)) (take l.component-index l.near)
