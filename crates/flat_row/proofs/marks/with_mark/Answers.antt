use Rattle.std.proofs.Common.{◌∙◌, ap, cond, sym}
use Rattle.flat_row.specs.Masks.{has}
use Rattle.std.specs.Prelude.{◌==◌}
use Rattle.flat_row.proofs.Marking.{with_label, without_label}
use Rattle.flat_row.proofs.marks.with_mark.Goals as goal

pub returns-then-mark : goal.returns-then-mark
returns-then-mark c = λ y within. with_label c.args.set c.args.x c.requires y within ∙ ap (λ m. cond (y == c.args.x) m (has c.args.set y)) (sym c.if-mark.true)

pub returns-else-mark : goal.returns-else-mark
returns-else-mark c = λ y within. without_label c.args.set c.args.x c.requires y within ∙ ap (λ m. cond (y == c.args.x) m (has c.args.set y)) (sym c.if-mark.false)
