use Rattle.std.proofs.Common.{◌≡◌, ℕ, ◌&&◌, ◌||◌, ◌==◌, nat_le, nat_lt, is_some, All}
use Rattle.due_cells.specs.Ranges.{is_marked, IsWithin}
use Rattle.due_cells.specs.Inputs.{inputs_of}
use Rattle.cell_table.proofs.table.Table.add_ready.Given as goal

abbrev pub invariant-loop-cycle : goal.invariant-loop-cycle
invariant-loop-cycle g l = record {
  at : (t c : ℕ) → is_marked l.ranges.items t c
      ≡ (is_marked l.initial.ranges.items t c || (((c == l.fn.range.component) && (nat_le l.fn.range.from t && nat_lt t l.cycle)) && is_some (inputs_of g.G.Grid.rules l.self.slots l.self.rows t l.fn.range.component)));
  within : (n count : ℕ) → All (IsWithin n count) l.initial.ranges.items → IsWithin n count l.fn.range → All (IsWithin n count) l.ranges.items;
}
