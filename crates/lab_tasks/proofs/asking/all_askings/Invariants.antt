use Rattle.std.proofs.Common.{map, take}
use Rattle.std.specs.List.{AllZip}
use Rattle.lab_tasks.specs.Askings.{IsAsked}
use Rattle.lab_tasks.proofs.asking.all_askings.Given as goal

abbrev pub invariant-loop-word : goal.invariant-loop-word
invariant-loop-word l = AllZip (IsAsked l.project) (map (λ word. word.now) (take l.word-index l.words)) l.all.items
