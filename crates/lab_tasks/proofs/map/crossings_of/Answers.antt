use Rattle.std.proofs.Common.{◌+◌, [], arith}
use Rattle.svg_plots.proofs.Each.{each_kept}
use Rattle.lab_tasks.specs.MapPictures.{crossing_of}
use Rattle.lab_tasks.proofs.map.crossings_of.Goals as goal

pub loop-at-preserved : goal.loop-at-preserved
loop-at-preserved c =
    each_kept (crossing_of c.args.window) [] c.args.firsts.now c.loop-at.at 1 (1 + c.loop-at.at) _ c.loop-at.crossings.items _ c.loop-at-test.true (omega arith) c.loop-at.invariant c.in_ok-add_crossing.ensures
