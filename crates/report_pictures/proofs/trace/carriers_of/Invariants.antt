use Rattle.std.proofs.Common.{◌≡◌, take}
use Rattle.report_pictures.specs.TracePictures.{carriers_of}
use Rattle.report_pictures.proofs.trace.carriers_of.Given as goal

abbrev pub invariant-loop-span : goal.invariant-loop-span
invariant-loop-span l = l.tags.items ≡ carriers_of l.fn.tag (take l.span-index l.spans)
