use Rattle.std.proofs.Common.{map, take}
use Rattle.std.specs.List.{AllZip}
use Rattle.lab_tasks.specs.Gauged.{IsGauge}
use Rattle.lab_tasks.proofs.series.all_gauges.Given as goal

abbrev pub invariant-loop-word : goal.invariant-loop-word
invariant-loop-word l = AllZip (IsGauge l.shape) (map (λ word. word.now) (take l.word-index l.words)) l.all.items
