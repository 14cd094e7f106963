use Rattle.std.proofs.Common.{◌∙◌, sym}
use Rattle.edit_templates.proofs.Counts.{length-range}
use Rattle.edit_templates.proofs.choices.Choices.count.Goals as goal

pub returns-in-Range : goal.returns-in-Range
returns-in-Range c = rw c.in-Range.is (c.numbers.ensures.count ∙ sym (length-range c.in-Range.span))
