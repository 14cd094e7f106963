use Rattle.std.proofs.Common.{◌∙◌, sym}
use Rattle.std.proofs.lemmas.Bool.{eqb-true}
use Rattle.due_cells.proofs.Counts.{due_alone}
use Rattle.due_cells.proofs.cells.Cells.is_due_alone.Goals as goal

pub returns : goal.returns
returns g c h t d other =
    due_alone c.args.self.now c.args.cycle (sym c.due_total.ensures ∙ eqb-true c.due_total.result c.from.result h ∙ c.from.ensures ∙ c.due_count.ensures) t d other
