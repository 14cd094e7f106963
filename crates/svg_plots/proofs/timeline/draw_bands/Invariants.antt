use Rattle.std.proofs.Common.{◌≡◌, ◌++◌, take}
use Rattle.std.specs.List.{flat_map}
use Rattle.svg_plots.specs.Timelines.{band_elements}
use Rattle.svg_plots.proofs.timeline.draw_bands.Given as goal

abbrev pub invariant-loop-band : goal.invariant-loop-band
invariant-loop-band l = l.picture ≡ l.initial.picture ++ flat_map (band_elements l.name) (take l.band-index l.bands)
