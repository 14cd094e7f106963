-- The differences of two runs, queue by queue.
use Rattle.std.proofs.Common.{◌≡◌, ◌⊎◌, inl, inr, ℕ, List, [], ◌∷◌, ◌++◌, map, refl, sym, ap, ap₂, ◌∙◌, append-nil}
use Rattle.run_reports.specs.declared.full_queues.PartQueue.{PartQueue}
use Rattle.lab_tasks.specs.declared.map_rows.RowGroup.{RowGroup}
use Rattle.lab_tasks.specs.ComparedMaps.{differences}
use Rattle.lab_tasks.specs.ComparedRows.{all_differences}
use Rattle.lab_tasks.specs.MapRows.{queues_in}

-- what is made is all, once one of both lists has no more
none_first : (d : ℕ) (bs : List ℕ) → differences d [] bs ≡ []
unfolding differences
none_first d bs = refl

none_second : (d : ℕ) (us : List ℕ) → differences d us [] ≡ []
unfolding differences
none_second d [] = refl
none_second d (a ∷ us) = refl

pub differences_end : (d : ℕ) (all made us bs : List ℕ) → (us ≡ []) ⊎ (bs ≡ []) → all ≡ made ++ differences d us bs → made ≡ all
differences_end d all made us bs (inl none) is =
    sym (is ∙ ap (λ (xs : List ℕ). made ++ differences d xs bs) none ∙ ap (λ (xs : List ℕ). made ++ xs) (none_first d bs) ∙ append-nil made)
differences_end d all made us bs (inr none) is =
    sym (is ∙ ap (λ (xs : List ℕ). made ++ differences d us xs) none ∙ ap (λ (xs : List ℕ). made ++ xs) (none_second d us) ∙ append-nil made)

all_none_first : (d : ℕ) (bs : List (List ℕ)) → all_differences d [] bs ≡ []
unfolding all_differences
all_none_first d bs = refl

all_none_second : (d : ℕ) (us : List (List ℕ)) → all_differences d us [] ≡ []
unfolding all_differences
all_none_second d [] = refl
all_none_second d (a ∷ us) = refl

pub all_differences_end : (d : ℕ) (all made us bs : List (List ℕ)) → (us ≡ []) ⊎ (bs ≡ []) → all ≡ made ++ all_differences d us bs → made ≡ all
all_differences_end d all made us bs (inl none) is =
    sym (is ∙ ap (λ (xs : List (List ℕ)). made ++ all_differences d xs bs) none ∙ ap (λ (xs : List (List ℕ)). made ++ xs) (all_none_first d bs) ∙ append-nil made)
all_differences_end d all made us bs (inr none) is =
    sym (is ∙ ap (λ (xs : List (List ℕ)). made ++ all_differences d us xs) none ∙ ap (λ (xs : List (List ℕ)). made ++ xs) (all_none_second d us) ∙ append-nil made)

-- those of lists that have the lengths of some queues in two runs
compared_are : (d : ℕ) (f g : PartQueue → List ℕ) (qs : List PartQueue) → all_differences d (map f qs) (map g qs) ≡ map (λ q. differences d (f q) (g q)) qs
unfolding all_differences
compared_are d f g [] = refl
compared_are d f g (q ∷ qs) = ap (λ (rest : List (List ℕ)). differences d (f q) (g q) ∷ rest) (compared_are d f g qs)

pub compared_rows : (f g : PartQueue → List ℕ) (made d : ℕ) (wanted gs : List RowGroup) (qs : List PartQueue) (ones others numbers : List (List ℕ))
    → gs ≡ wanted → qs ≡ queues_in gs → ones ≡ map f qs → others ≡ map g qs → made ≡ d → numbers ≡ all_differences made ones others
    → numbers ≡ map (λ q. differences d (f q) (g q)) (queues_in wanted)
compared_rows f g made d wanted gs qs ones others numbers groups queues first second depth are =
    are ∙ ap₂ (λ (us bs : List (List ℕ)). all_differences made us bs) first second ∙ compared_are made f g qs
    ∙ ap₂ (λ (n : ℕ) (ks : List PartQueue). map (λ q. differences n (f q) (g q)) ks) depth (queues ∙ ap queues_in groups)
