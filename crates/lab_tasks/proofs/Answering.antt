-- Answers in columns, one more.
use Rattle.std.proofs.Common.{◌≡◌, ℕ, Bool, true, ◌+◌, ◌<◌, List, [], ◌∷◌, ◌++◌, length, map, take, get_or, refl, sym, ap, subst, ◌∙◌, append_assoc}
use Rattle.std.specs.Prelude.{Option, Some, MatchBool}
use Rattle.std.specs.List.{flat_map, AllZip}
use Rattle.std.proofs.lemmas.List.{take_more, append-nil, map_push}
use Rattle.std.proofs.lemmas.Grind.{flat_map-append}
use Rattle.omega_net.specs.Wires.{below}
use Rattle.project_book.specs.Project.{Project}
use Rattle.run_reports.specs.declared.condition.Window.{Window}
use Rattle.lab_tasks.specs.declared.answered.Form.{Form}
use Rattle.lab_tasks.specs.declared.answered.Says.{Says}
use Rattle.lab_tasks.specs.declared.answered.Says.TheVariants as says
use Rattle.lab_tasks.specs.declared.asking.Asking.{Asking}
use Rattle.lab_tasks.specs.declared.asking.LatencyAsk.{LatencyAsk}
use Rattle.lab_tasks.specs.Answered.{cells_of}
use Rattle.lab_tasks.specs.Tellings.{reaches, AreTold, IsLatencySaid, IsSaid, IsSummary, Tells}
use Rattle.lab_tasks.proofs.Listing.{map_after}
use Rattle.lab_tasks.proofs.WordByWord.{zip-push}

-- one cell more
pub cell-next : (f : ℕ → Option (List ℕ)) (n : ℕ) (begin old new : List (List ℕ)) (cell : List ℕ) → map Some old ≡ map Some begin ++ map f (below n)
    → new ≡ old ++ cell ∷ [] → Some cell ≡ f n → map Some new ≡ map Some begin ++ map f (below (n + 1))
cell-next f n begin old new cell before pushed is =
    map_after f n (map Some begin) (map Some old) (map Some new) (Some cell) before (ap (map Some) pushed ∙ map_push Some old cell) is

-- nothing is told yet
pub told_none : (form : Form) (P : Project) (cells : List (List ℕ)) → AreTold form P [] cells cells
told_none form P cells = ([], tt, sym (append-nil (map Some cells)))

-- what is said to one more
pub told_next : (form : Form) (P B : Project) (askings : List Asking) (i : ℕ) (d : Asking) (said : Says) (words old new : List (List ℕ))
    → i < length askings → B ≡ P → AreTold form P (take i askings) words old → IsSaid B (get_or askings i d) said
    → map Some new ≡ map Some old ++ cells_of form (get_or askings i d) said → AreTold form P (take (i + 1) askings) words new
told_next form P B askings i d said words old new lt same before is written =
    let what = get_or askings i d in
    let part : List (Option (List ℕ)) = cells_of form what said in
    let parts : List (List (Option (List ℕ))) = before.0 in
    let told : Tells form P what part = (said, subst (λ (Q : Project). IsSaid Q what said) same is, refl) in (
      parts ++ part ∷ [],
      subst (λ (some : List Asking). AllZip (Tells form P) some (parts ++ part ∷ [])) (sym (take_more askings i d lt))
          (zip-push (Tells form P) (take i askings) parts what part before.1 told),
      written ∙ ap (λ (t : List (Option (List ℕ))). t ++ part) before.2
          ∙ append_assoc (map Some words) (flat_map (λ (t : List (Option (List ℕ))). t) parts) part
          ∙ ap (λ (t : List (Option (List ℕ))). map Some words ++ t)
          (ap (λ (t : List (Option (List ℕ))). flat_map (λ (u : List (Option (List ℕ))). u) parts ++ t) (sym (append-nil part))
          ∙ sym (flat_map-append (λ (u : List (Option (List ℕ))). u) parts (part ∷ []))),
    )

-- the figures of cycles that a project has
pub summary_told : (P : Project) (ask : LatencyAsk) (w : Window) (said : Says) → reaches P w ≡ true → IsSummary P ask w said → IsLatencySaid P ask w said
summary_told P ask w said e is = subst (λ (b : Bool). MatchBool b (IsSummary P ask w said) (said ≡ says.Bad 2)) (sym e) is
