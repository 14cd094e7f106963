use Rattle.std.proofs.Common.{◌∙◌, sym}
use Rattle.flat_row.proofs.Marking.{all_labels, no_labels}
use Rattle.flat_row.proofs.level.all_or_none.Goals as goal

pub returns-then-mark : goal.returns-then-mark
returns-then-mark c = λ x within. all_labels x within ∙ sym c.if-mark.true

pub returns-else-mark : goal.returns-else-mark
returns-else-mark c = λ x within. no_labels x within ∙ sym c.if-mark.false
