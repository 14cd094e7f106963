use Rattle.std.proofs.Common.{arith}
use Rattle.svg_plots.specs.CellMaps.{key_drawn}
use Rattle.svg_plots.proofs.Each.{each_item}
use Rattle.svg_plots.proofs.map.draw_keys.Goals as goal

pub loop-at-preserved : goal.loop-at-preserved
loop-at-preserved c =
    each_item (key_drawn c.args.map.now c.args.layout) c.args.picture.now c.args.keys.now c.loop-at.at 0 c.loop-at.at c.index-keys-at.result _ _ c.loop-at-test.true (omega arith) c.index-keys-at.is c.loop-at.invariant c.in_ok-draw_key.ensures
