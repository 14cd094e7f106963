use Rattle.std.proofs.Common.{ℕ, ◌+◌, ◌∙◌, sym, ap, subst, arith, List, replicate}
use Rattle.due_cells.specs.Seen.{Held, fresh}
use Rattle.cell_table.specs.Consistent.{IsTable}
use Rattle.cell_table.proofs.Tables.{is_table_new}
use Rattle.cell_table.proofs.table.Table.new_plain.Goals as goal

pub invariant_of-result : goal.invariant_of-result
invariant_of-result g c =
    let R = g.G.Grid.rules in
    let s = c.args.slots in
    let h = c.args.horizon in
    record {
      table = subst (λ (rows : List (List (Held g.row.G-State.Denot))). IsTable R s h rows)
          (sym (c.in-Ok.ensures ∙ ap (λ (n : ℕ). replicate (h + 1) (replicate n (fresh {State = g.row.G-State.Denot} c.args.clock))) c.components-count.ensures))
          (is_table_new R s h c.args.clock);
      index = c.in-Ok-new.ensures;
      near = c.in-Ok-new-2.ensures;
      states = λ t d l. absurd (omega (arith, l));
      within = omega arith;
    }
