use Rattle.std.proofs.Common.{map, take}
use Rattle.std.specs.List.{AllZip}
use Rattle.lab_tasks.specs.PlotPictures.{IsColumn}
use Rattle.lab_tasks.proofs.plot.columns_in.Given as goal

abbrev pub invariant-loop-word : goal.invariant-loop-word
invariant-loop-word l = AllZip (IsColumn l.names) (map (λ word. word.now) (take l.word-index l.words)) l.all.items
