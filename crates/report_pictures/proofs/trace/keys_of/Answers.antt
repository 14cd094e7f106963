use Rattle.std.proofs.Common.{[], arith}
use Rattle.svg_plots.proofs.Each.{each_kept}
use Rattle.report_pictures.specs.TracePictures.{key_of}
use Rattle.report_pictures.proofs.trace.keys_of.Goals as goal

pub loop-place-preserved : goal.loop-place-preserved
loop-place-preserved c =
    each_kept (key_of c.args.tag) [] c.args.carriers.now c.loop-place.place 0 c.loop-place.place _ c.loop-place.keys.items _
    c.loop-place-test.true (omega arith) c.loop-place.invariant c.in_ok-add_key.ensures
