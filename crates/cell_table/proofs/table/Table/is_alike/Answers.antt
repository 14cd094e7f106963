use Rattle.std.proofs.Common.{◌≡◌, ◌-◌, ◌∙◌, ap, subst, true, All}
use Rattle.std.proofs.lemmas.List.{get_or-set_same}
use Rattle.due_cells.specs.Seen.{Seen, held_at}
use Rattle.cell_table.specs.Settling.{NoneDueBefore}
use Rattle.cell_table.specs.Cells.{IsThere}
use Rattle.cell_states.specs.Filling.{is_awake}
use Rattle.cell_table.proofs.Alike.{is_kept, is_changed}
use Rattle.cell_table.proofs.table.Table.is_alike.Goals as goal

pub returns-then-not-holds_as_before-clause-alike : goal.returns-then-not-holds_as_before-clause-alike
returns-then-not-holds_as_before-clause-alike g c = λ _.
    let R = g.G.Grid.rules in
    let i = c.self.inside in
    let v : Seen g.row.G-State.Denot g.row.G-Slots.Denot = record { slots = i.slots; horizon = i.horizon; clock = i.clock; rows = i.cells } in
    let s = c.args.cell.cycle in
    let d = c.args.cell.component in
    let there : IsThere R v s d = rw (← c.self.view_is) at c.requires.there in
    let none : NoneDueBefore R v s 0 = rw (← c.self.view_is) at c.requires.none in
    let near : c.near-near.result.now ≡ R.near i.slots d = rw (← c.self.view_is) at c.near-near.ensures in
    let stay = subst (All (λ m. (held_at i.cells (s - 1 - 1) m).state ≡ (held_at i.cells (s - 1) m).state)) near (c.all_stay.ensures c.if-not-all_stay.false) in
    let set : is_awake c.set.new.self d ≡ true = ap (λ xs. is_awake xs d) c.set.ensures ∙ get_or-set_same c.args.changes.now d _ _ c.requires.width in
    rw (← c.self.view_is) (is_changed R g.G.Grid.laws v c.self.invariant.table s d there c.requires.later none stay c.holds_as_before.result (rw (← c.self.view_is) at c.holds_as_before.ensures.holds) (is_awake c.set.new.self d) set c.if-not-holds_as_before.true)

pub returns-else-not-holds_as_before-clause-alike : goal.returns-else-not-holds_as_before-clause-alike
returns-else-not-holds_as_before-clause-alike g c = λ _.
    let R = g.G.Grid.rules in
    let i = c.self.inside in
    let v : Seen g.row.G-State.Denot g.row.G-Slots.Denot = record { slots = i.slots; horizon = i.horizon; clock = i.clock; rows = i.cells } in
    let s = c.args.cell.cycle in
    let d = c.args.cell.component in
    let there : IsThere R v s d = rw (← c.self.view_is) at c.requires.there in
    let none : NoneDueBefore R v s 0 = rw (← c.self.view_is) at c.requires.none in
    let near : c.near-near.result.now ≡ R.near i.slots d = rw (← c.self.view_is) at c.near-near.ensures in
    let stay = subst (All (λ m. (held_at i.cells (s - 1 - 1) m).state ≡ (held_at i.cells (s - 1) m).state)) near (c.all_stay.ensures c.if-not-all_stay.false) in
    rw (← c.self.view_is) (is_kept R g.G.Grid.laws v c.self.invariant.table s d there c.requires.later none stay c.holds_as_before.result (rw (← c.self.view_is) at c.holds_as_before.ensures.holds) (is_awake c.args.changes.now d) c.requires.unmarked c.if-not-holds_as_before.false)
