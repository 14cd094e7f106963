use Rattle.std.proofs.Common.{◌≡◌, take}
use Rattle.svg_plots.specs.Lists.{each_from}
use Rattle.lab_tasks.specs.MapPictures.{crossing_of}
use Rattle.lab_tasks.proofs.map.crossings_of.Given as goal

abbrev pub invariant-loop-at : goal.invariant-loop-at
invariant-loop-at l = l.crossings.items ≡ each_from (crossing_of l.window) 1 (take l.at l.firsts)
