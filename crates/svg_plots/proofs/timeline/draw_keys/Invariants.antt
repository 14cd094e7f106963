use Rattle.std.proofs.Common.{◌≡◌, ◌++◌, take}
use Rattle.std.specs.List.{flat_map}
use Rattle.svg_plots.specs.Timelines.{key_elements}
use Rattle.svg_plots.proofs.timeline.draw_keys.Given as goal

abbrev pub invariant-loop-key : goal.invariant-loop-key
invariant-loop-key l = l.picture ≡ l.initial.picture ++ flat_map (key_elements l.name) (take l.key-index l.keys)
