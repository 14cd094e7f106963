use Rattle.std.proofs.Common.{◌≡◌, ◌++◌, length}
use Rattle.std.specs.Prelude.{option_map}
use Rattle.lab_tasks.specs.Numbers.{list_of}
use Rattle.lab_tasks.proofs.numbers.list_in.Given as goal

abbrev pub invariant-parts : goal.invariant-parts
invariant-parts l = list_of l.text ≡ option_map (λ ns. l.numbers.items ++ ns) (list_of l.rest)

abbrev pub decreases-parts : goal.decreases-parts
decreases-parts l = length l.rest
