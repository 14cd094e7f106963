use Rattle.std.proofs.Common.{◌≡◌, ◌++◌, take}
use Rattle.svg_plots.specs.Lists.{each}
use Rattle.svg_plots.specs.Writings.{note_drawn}
use Rattle.svg_plots.proofs.writings.draw_notes.Given as goal

abbrev pub invariant-loop-at : goal.invariant-loop-at
invariant-loop-at l = l.picture ≡ l.initial.picture ++ each (note_drawn l.top) (take l.at l.notes)
