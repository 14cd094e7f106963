-- Two files compared: what is made of them, and why it isn't.
use Rattle.std.specs.Prelude.{◌≡◌, ◌⊎◌, ℕ, min, List, ◌++◌, Ok, Err, codes, decimal}
use Rattle.project_book.specs.Project.{Project}
use Rattle.project_file.specs.declared.fault.ProjectFault.{ProjectFault}
use Rattle.project_file.specs.Faults.{number_of}
use Rattle.project_file.specs.Filed.{filed}
use Rattle.lab_tasks.specs.declared.end.End.{End}
use Rattle.lab_tasks.specs.declared.end.End.TheVariants as end
use Rattle.lab_tasks.specs.declared.outcome.Outcome.{Outcome}
use Rattle.lab_tasks.specs.declared.plan.MapPlan.{MapPlan}
use Rattle.lab_tasks.specs.declared.words.CompareWords.{CompareWords}
use Rattle.lab_tasks.specs.ComparedMaps.{IsComparedDrawn}
use Rattle.lab_tasks.specs.Done.{IsNotMade}
use Rattle.lab_tasks.specs.Ends.{Refuses}
use Rattle.lab_tasks.specs.Outcomes.{IsGiven}
use Rattle.lab_tasks.specs.Plans.{IsMap, IsNoMap}
use Rattle.lab_tasks.specs.Words.{text_of}

-- the picture of both runs, of machines of one size, up to the earlier of their horizons
abbrev pub IsComparedText : CompareWords → List ℕ → Project → List ℕ → Type 0
IsComparedText words other P text =
    (Q : Project) × (plan : MapPlan) × (filed other ≡ Ok Q) × (Q.k ≡ P.k) × IsMap P.k (min P.horizon Q.horizon) words.map plan
    × IsComparedDrawn P Q plan text

abbrev pub IsComparison : CompareWords → List ℕ → List ℕ → Outcome → Type 0
IsComparison words bytes other outcome =
    (P : Project) × (text : List ℕ) × (filed bytes ≡ Ok P) × IsComparedText words other P text × IsGiven (text_of words.map.out) text outcome

-- why there is none: the second file is no project, or one of a machine of another size, or words of `map` are refused
abbrev pub IsNoOther : List ℕ → List ℕ → End → Type 0
IsNoOther file other e =
    (f : ProjectFault) × (filed other ≡ Err f) × Refuses (codes "--compare") file 4 (codes "is refused as a project: " ++ decimal (number_of f)) e

abbrev pub IsOtherSize : List ℕ → ℕ → ℕ → End → Type 0
IsOtherSize file k other e = (other ≡ k → ⊥) × Refuses (codes "--compare") file 7 (codes "is not of k " ++ decimal k) e

abbrev pub IsNoPair : CompareWords → Project → Project → End → Type 0
IsNoPair words P Q e =
    IsOtherSize words.other.now P.k Q.k e ⊎ ((Q.k ≡ P.k) × IsNoMap P.k (min P.horizon Q.horizon) words.map e)

abbrev pub IsNoComparedText : CompareWords → List ℕ → Project → End → Type 0
IsNoComparedText words other P e =
    (e ≡ end.Memory) ⊎ (IsNoOther words.other.now other e ⊎ ((Q : Project) × (filed other ≡ Ok Q) × IsNoPair words P Q e))

abbrev pub IsNoComparison : CompareWords → List ℕ → List ℕ → End → Type 0
IsNoComparison words bytes other e = IsNotMade bytes (λ P. IsNoComparedText words other P e) e
