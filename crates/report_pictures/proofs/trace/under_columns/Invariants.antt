use Rattle.std.proofs.Common.{◌≡◌, map, take}
use Rattle.report_pictures.specs.TracePictures.{column_tick}
use Rattle.report_pictures.proofs.trace.under_columns.Given as goal

abbrev pub invariant-loop-tick : goal.invariant-loop-tick
invariant-loop-tick l = l.ticks.items ≡ map (column_tick l.first) (take l.tick-index l.all)
