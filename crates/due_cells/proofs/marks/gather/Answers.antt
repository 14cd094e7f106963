use Rattle.std.proofs.Common.{◌∙◌, ◌&&◌, ◌||◌, ap, eqb, get_or, length}
use Rattle.cell_states.specs.Near.{has}
use Rattle.cell_states.specs.Filling.{is_awake}
use Rattle.due_cells.specs.Ranges.{is_later}
use Rattle.due_cells.proofs.MarkedRow.{or_assoc, none_range, later_range_more}
use Rattle.due_cells.proofs.marks.gather.Goals as goal

pub loop-range-preserved : goal.loop-range-preserved
loop-range-preserved c =
    let inv = c.loop-range.invariant in
    let one = c.in_ok-gather_one.ensures in
    let i = c.loop-range.range-index in
    let xs = c.args.ranges.now in
    record {
      len = c.gather_one.ensures.len ∙ inv.len;
      marked = λ k. one.marked k ∙ ap (λ b. b || (is_later c.args.to (get_or xs i none_range) && eqb k (get_or xs i none_range).component)) (inv.marked k) ∙ or_assoc (is_awake c.args.row.now k) _ _ ∙ ap (λ b. is_awake c.args.row.now k || b) (later_range_more xs i c.args.to k c.loop-range-test.true);
      listed = λ k. one.listed k ∙ ap (λ b. b || (is_later c.args.to (get_or xs i none_range) && eqb k (get_or xs i none_range).component)) (inv.listed k) ∙ or_assoc (has c.args.list.now.items k) _ _ ∙ ap (λ b. has c.args.list.now.items k || b) (later_range_more xs i c.args.to k c.loop-range-test.true);
      there = λ h. one.there (length c.args.row.now) (c.requires i none_range c.loop-range-test.true) (inv.there h);
    }
