-- The first and the last cycle that words give, and why they give none.
use Rattle.std.specs.Prelude.{◌≤◌, ◌<◌, ℕ, List, [], Option, codes, unwrap_or}
use Rattle.project_book.specs.Project.{Project}
use Rattle.lab_tasks.specs.declared.end.End.{End}
use Rattle.lab_tasks.specs.Ends.{RefusesBackwards}
use Rattle.lab_tasks.specs.Numbers.{IsTold, IsUntold}
use Rattle.lab_tasks.specs.Plans.{InTurn}

-- the cycle at `--from`, the first one without a word, and the cycle at `--to`, the last one without a word
abbrev pub IsFirst : Project → Option (List ℕ) → ℕ → Type 0
IsFirst P from n = IsTold from 0 0 P.horizon n

abbrev pub IsLast : Project → Option (List ℕ) → ℕ → Type 0
IsLast P to n = IsTold to P.horizon 0 P.horizon n

-- these, where they don't end before they begin
pub record AreCycles (P : Project) (from to : Option (List ℕ)) (first last : ℕ) : Type 0 where
  pub begins : IsFirst P from first
  pub ends : IsLast P to last
  pub forward : first ≤ last

-- why there are none: the first word that is refused, or cycles whose two words are told
abbrev pub AreNoCycles : Project → Option (List ℕ) → Option (List ℕ) → End → Type 0
AreNoCycles P from to end =
    InTurn (IsUntold (codes "--from") from 0 P.horizon end) (IsFirst P from) (λ first.
    InTurn (IsUntold (codes "--to") to 0 P.horizon end) (IsLast P to) (λ last.
    (last < first) × RefusesBackwards (codes "--to") (unwrap_or to []) end))
