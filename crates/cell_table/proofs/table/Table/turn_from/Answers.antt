use Rattle.std.proofs.Common.{◌≡◌, ℕ, ◌+◌, ◌-◌, ◌<◌, ◌≤◌, ◌/◌, ◌⊎◌, inl, inr, arith, Some, false, [], ◌∷◌}
use Rattle.std.proofs.lemmas.Bool.{cases_lt}
use Rattle.grid_law.specs.Run.{run}
use Rattle.due_cells.specs.Seen.{held_at}
use Rattle.cell_table.specs.Touches.{cell_reads_one}
use Rattle.cell_table.proofs.Begun.{not_read}
use Rattle.cell_table.proofs.table.Table.turn_from.Goals as goal

pub loop-low-preserved-in-Ahead : goal.loop-low-preserved-in-Ahead
loop-low-preserved-in-Ahead g c =
    let R = g.G.Grid.rules in
    let v = c.args.self.now in
    let d = c.args.component in
    let inv = c.loop-low.invariant in
    let low = c.loop-low.low in
    let cycle = low + (c.loop-low.high - low) / 2 in
    let below : cycle < c.loop-low.high = omega (arith, c.loop-low-test.true) in
    let behind : low ≤ cycle = omega arith in
    let none : (n u : ℕ) → (held_at v.rows (cycle - 1) d).state ≡ Some (run R v.slots n d) → u ≤ n → R.reads v.slots (run R v.slots u d ∷ []) d c.args.slot.now ≡ false = rw (← c.self.view_is) (c.turn.ensures.ahead c.in-Ahead.is) in
    let at : (t : ℕ) → low ≤ t → t < cycle + 1 → cell_reads_one R v.slots v.rows c.args.slot.now t d ≡ false = λ t h k.
    not_read R g.G.Grid.laws v c.args.slot.now c.requires.held t d (omega (arith, h, inv.from, c.requires.later)) (omega (arith, k, below, inv.high, c.requires.last)) c.requires.there (none (cycle - 1) (t - 1) (c.requires.held (cycle - 1) d (record { cycle = omega (arith, below, inv.high, c.requires.last); component = c.requires.there })) (omega (arith, k))) in
    record {
      from = omega (arith, inv.from, behind);
      order = omega (arith, below);
      high = inv.high;
      none = λ t h k. by_place t (cases_lt t low) (inv.none t h) (λ l. at t l k);
    }
  where
    by_place : {P : Type 0} (t : ℕ) {low : ℕ} → (t < low) ⊎ (low ≤ t) → (t < low → P) → (low ≤ t → P) → P
    by_place t (inl h) before after = before h
    by_place t (inr h) before after = after h
