use Rattle.std.proofs.Common.{◌≡◌, ◌-◌, ◌<◌, ◌∙◌, ◌&&◌, ◌||◌, sym, ap, subst, arith, get_or, length}
use Rattle.cell_states.specs.declared.cell.CellRange.{CellRange}
use Rattle.due_cells.specs.Ranges.{GoesOn, covers, is_marked}
use Rattle.cell_states.proofs.Rooms.{same_get}
use Rattle.due_cells.proofs.MarkedRow.{and_true, covers_joined, marked_joined, none_range}
use Rattle.due_cells.proofs.marks.add_where.Goals as goal

pub returns-then-goes_on-clause-at : goal.returns-then-goes_on-clause-at
returns-then-goes_on-clause-at c = λ t d.
    let items = c.args.ranges.now.items in
    let range = c.args.range in
    let i = c.len-count.result - 1 in
    let last = get_or items i none_range in
    let there : i < length items = omega (arith, c.len-count.ensures, c.if-count-gt0.true) in
    let goes_on : GoesOn last range = subst (λ r. GoesOn r range) (c.index.ensures ∙ same_get items i _ none_range there) (c.goes_on.ensures.0 c.if-goes_on.true) in
    let is_last : c.index_mut.result.now ≡ last = c.index_mut.ensures.value ∙ same_get items i _ none_range there in
    marked_joined t d items i range _ there (ap (λ (l : CellRange). covers (record { component = l.component; from = l.from; to = range.to }) t d) is_last ∙ covers_joined last range t d goes_on)
    ∙ ap (λ b. is_marked items t d || b) (and_true (covers range t d) ∙ ap (λ b. covers range t d && b) (sym c.if-not-reads.false))
