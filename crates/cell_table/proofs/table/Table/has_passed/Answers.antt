use Rattle.std.proofs.Common.{◌≡◌, ℕ, ◌-◌, ◌≤◌, arith, Some, false, [], ◌∷◌}
use Rattle.grid_law.specs.Run.{run}
use Rattle.due_cells.specs.Seen.{held_at}
use Rattle.cell_table.proofs.Begun.{not_read}
use Rattle.cell_table.proofs.table.Table.has_passed.Goals as goal

pub returns-in-Passed : goal.returns-in-Passed
returns-in-Passed g c = λ _ t after le.
    let R = g.G.Grid.rules in
    let v = c.args.self.now in
    let k = c.args.own.cycle in
    let d = c.args.own.component in
    let held = c.requires.held c.if-not-turns.false in
    let none : (n u : ℕ) → (held_at v.rows k d).state ≡ Some (run R v.slots n d) → n ≤ u → R.reads v.slots (run R v.slots u d ∷ []) d c.args.slot.now ≡ false = rw (← c.self.view_is) (c.turn.ensures.passed c.in-Passed.is) in
    not_read R g.G.Grid.laws v c.args.slot.now held t d (omega (arith, after)) (omega (arith, le)) c.requires.there (none k (t - 1) (held k d (record { cycle = omega (arith, after, le); component = c.requires.there })) (omega (arith, after)))
