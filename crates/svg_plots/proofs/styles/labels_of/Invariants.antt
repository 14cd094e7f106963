use Rattle.std.proofs.Common.{◌≡◌, map, take}
use Rattle.svg_plots.proofs.styles.labels_of.Given as goal

abbrev pub invariant-loop-text : goal.invariant-loop-text
invariant-loop-text l = l.labels.items ≡ map (λ text. text.now) (take l.text-index l.texts)
