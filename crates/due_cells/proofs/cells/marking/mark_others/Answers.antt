use Rattle.std.proofs.Common.{◌+◌, ◌&&◌, not, get_or, take}
use Rattle.due_cells.specs.Ranges.{covers, is_later, is_marked_else}
use Rattle.due_cells.proofs.Marking.{ranges_more}
use Rattle.due_cells.proofs.MarkedRow.{none_range}
use Rattle.due_cells.proofs.MarkedCells.{marked_then}
use Rattle.due_cells.proofs.cells.marking.mark_others.Goals as goal

pub loop-range-preserved : goal.loop-range-preserved
loop-range-preserved c =
    let xs = c.args.ranges.now in
    let i = c.loop-range.range-index in
    let to = c.args.to in
    marked_then c.args.version c.args.due.now c.loop-range.due c.mark_other.new.due c.args.versions.now.items c.loop-range.versions.items c.mark_other.new.versions.items (λ t d. is_marked_else (take i xs) to t d) (λ t d. not (is_later to (get_or xs i none_range)) && covers (get_or xs i none_range) t d) (λ t d. is_marked_else (take (i + 1) xs) to t d) c.loop-range.invariant c.mark_other.ensures (λ t d. ranges_more xs i to t d none_range c.loop-range-test.true)
