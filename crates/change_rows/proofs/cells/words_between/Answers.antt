use Rattle.std.proofs.Common.{arith}
use Rattle.change_rows.proofs.Appending.{starts_order}
use Rattle.change_rows.proofs.cells.words_between.Goals as goal

pub slice_bounds-result-count : goal.slice_bounds-result-count
slice_bounds-result-count c = omega (arith, c.start_in-start.ensures, c.start_in-end.ensures, starts_order c.args.heads.now c.args.words.now c.requires.packed c.args.from c.args.to c.requires.order c.requires.there)

pub slice_bounds-result-start : goal.slice_bounds-result-start
slice_bounds-result-start c = omega (arith, c.start_in-start.ensures, c.start_in-end.ensures, starts_order c.args.heads.now c.args.words.now c.requires.packed c.args.from c.args.to c.requires.order c.requires.there)
