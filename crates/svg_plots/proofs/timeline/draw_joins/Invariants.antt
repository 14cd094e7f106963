use Rattle.std.proofs.Common.{◌≡◌, ◌++◌, take}
use Rattle.std.specs.List.{flat_map}
use Rattle.svg_plots.specs.Timelines.{join_elements}
use Rattle.svg_plots.proofs.timeline.draw_joins.Given as goal

abbrev pub invariant-loop-join : goal.invariant-loop-join
invariant-loop-join l = l.picture ≡ l.initial.picture ++ flat_map (join_elements l.columns) (take l.join-index l.joins)
