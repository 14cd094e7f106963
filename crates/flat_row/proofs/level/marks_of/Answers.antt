use Rattle.std.proofs.Common.{arith}
use Rattle.flat_row.proofs.Marking.{none_marked, one_marked, all_marked}
use Rattle.flat_row.proofs.level.marks_of.Goals as goal

pub loop-x-init : goal.loop-x-init
loop-x-init g c = none_marked g.T.Routed.route c.args.rule c.args.queues.now c.empty_marks-marks.result c.empty_marks-marks.ensures

pub loop-x-preserved : goal.loop-x-preserved
loop-x-preserved g c =
    one_marked g.T.Routed.route c.args.rule c.args.queues.now c.loop-x.x c.loop-x.marks c.with_shown-marks.result c.index-queues-x.result c.as_slice.result.now c.shown_by-shown.result c.loop-x.invariant
    (omega (arith, c.loop-x-test.true)) c.index-queues-x.is c.as_slice.ensures.value c.shown_by-shown.ensures c.with_shown-marks.ensures

pub returns : goal.returns
returns g c = all_marked g.T.Routed.route c.args.rule c.args.queues.now c.loop-x.x c.loop-x.marks c.requires (omega (arith, c.loop-x-test.false, c.loop-x.auto.x-end)) c.loop-x.invariant
