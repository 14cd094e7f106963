use Rattle.std.proofs.Common.{◌∙◌}
use Rattle.flat_row.proofs.Marking.{shown_alike}
use Rattle.flat_row.proofs.level.empty_marks.Goals as goal

pub returns : goal.returns
returns g c = λ x within. shown_alike _ c.shown_by-shown.result c.all_or_none.ensures c.all_or_none-2.ensures c.all_or_none-3.ensures c.all_or_none-4.ensures x within ∙ c.shown_by-shown.ensures
