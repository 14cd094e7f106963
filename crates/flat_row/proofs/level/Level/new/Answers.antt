use Rattle.std.proofs.Common.{sym, subst}
use Rattle.flat_row.specs.Queues.{AreMarked}
use Rattle.flat_row.proofs.Marking.{all_empty}
use Rattle.flat_row.proofs.level.Level.new.Goals as goal

pub invariant_of-result : goal.invariant_of-result
invariant_of-result g c =
    subst (λ queues. AreMarked g.T.Routed.route c.args.rule queues c.empty_marks-marks.result) (sym c.in_ok-queues.ensures)
    (all_empty g.T.Routed.route c.args.rule c.args.lines c.empty_marks-marks.result c.requires.there c.empty_marks-marks.ensures)
