use Rattle.std.proofs.Common.{◌≡◌, ◌++◌, take}
use Rattle.svg_plots.specs.Lists.{each}
use Rattle.report_pictures.specs.SeriesPictures.{mark_at}
use Rattle.report_pictures.proofs.curves.add_marks.Given as goal

abbrev pub invariant-loop-number : goal.invariant-loop-number
invariant-loop-number l = l.curves.items ≡ l.initial.curves.items ++ each (mark_at l.name l.place) (take l.number l.middles)
