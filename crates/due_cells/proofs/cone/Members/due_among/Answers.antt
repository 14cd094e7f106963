use Rattle.std.proofs.Common.{◌∙◌, sym, length}
use Rattle.due_cells.specs.Seen.{row_at}
use Rattle.due_cells.specs.Cones.{is_in}
use Rattle.due_cells.proofs.Cones.{none_due_among}
use Rattle.due_cells.proofs.cone.Members.due_among.Goals as goal

pub returns-then-due_count-eq0-clause-value : goal.returns-then-due_count-eq0-clause-value
returns-then-due_count-eq0-clause-value g c =
    sym (none_due_among (row_at c.args.cells.now c.args.cycle) (is_in c.args.self.now) (length c.args.self.now.marks) (sym c.due_count.ensures ∙ c.if-due_count-eq0.true))
