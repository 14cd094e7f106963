use Rattle.std.proofs.Common.{◌≡◌, take}
use Rattle.report_pictures.specs.TracePictures.{places_of}
use Rattle.report_pictures.proofs.trace.places_of.Given as goal

abbrev pub invariant-loop-span : goal.invariant-loop-span
invariant-loop-span l = l.places.items ≡ places_of (take l.span-index l.spans)
