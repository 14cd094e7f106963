-- What is reached where most components are marked: these, and the others near which one is.
use Rattle.std.proofs.Common.{◌≡◌, ℕ, zero, suc, ◌<◌, ◌≤◌, ◌∙◌, sym, ap, refl, arith, Bool, true, false, eqb, eq-eqb, ◌&&◌, ◌||◌, not, ◌⊎◌, inl, inr, List, [], ◌∷◌, length, replicate}
use Rattle.std.specs.Cmp.{both_ways}
use Rattle.std.specs.List.{list_any}
use Rattle.std.proofs.Math.Bool.{or-false}
use Rattle.std.proofs.lemmas.Bool.{false≢true, eqb-true, and_parts, or_cases, or_left, or_right}
use Rattle.std.proofs.lemmas.List.{get_or-replicate}
use Rattle.cell_states.specs.Near.{has}
use Rattle.cell_states.specs.Filling.{is_awake}
use Rattle.cell_states.specs.Versions.{any_changes}
use Rattle.cell_states.proofs.Whole.{awake_within}
use Rattle.due_cells.proofs.Gathered.{any_of_one}

-- one of the numbers passes
any_has : (p : ℕ → Bool) (ms : List ℕ) (m : ℕ) → has ms m ≡ true → p m ≡ true → list_any p ms ≡ true
any_has p [] m h a = absurd (false≢true h)
any_has p (k ∷ ms) m h a = by_place (or_cases (eqb k m) (has ms m) h) (λ e. any_has p ms m e a)
  where
    by_place : (eqb k m ≡ true) ⊎ (has ms m ≡ true) → (has ms m ≡ true → list_any p ms ≡ true) → list_any p (k ∷ ms) ≡ true
    by_place (inl e) rest = or_left (p k) (list_any p ms) (ap p (eqb-true k m e) ∙ a)
    by_place (inr e) rest = or_right (p k) (list_any p ms) (rest e)

module _ (changes : List Bool) (near : List ℕ) where
  asked_of : (ms : List ℕ) (n : ℕ) → length changes ≤ n → ((c : ℕ) → c < n → has ms c ≡ true → has near c ≡ true) → list_any (is_awake changes) ms ≡ true → any_changes changes near n ≡ true
  asked_of [] n wide same h = absurd (false≢true h)
  asked_of (m ∷ ms) n wide same h = by_place (or_cases (is_awake changes m) (list_any (is_awake changes) ms) h) (asked_of ms n wide (λ c l e. same c l (or_right (eqb m c) (has ms c) e)))
    where
      by_place : (is_awake changes m ≡ true) ⊎ (list_any (is_awake changes) ms ≡ true) → (list_any (is_awake changes) ms ≡ true → any_changes changes near n ≡ true) → any_changes changes near n ≡ true
      by_place (inl a) rest = let l : m < n = omega (arith, wide, awake_within changes m a) in any_of_one changes near m n l a (same m l (or_left (eqb m m) (has ms m) (eq-eqb m m refl)))
      by_place (inr e) rest = rest e

  of_asked : (ms : List ℕ) (n : ℕ) → ((c : ℕ) → c < n → has near c ≡ true → has ms c ≡ true) → any_changes changes near n ≡ true → list_any (is_awake changes) ms ≡ true
  of_asked ms zero same h = absurd (false≢true h)
  of_asked ms (suc n) same h = by_place (or_cases (is_awake changes n && has near n) (any_changes changes near n) h) (of_asked ms n (λ c l. same c (omega (arith, l))))
    where
      by_place : ((is_awake changes n && has near n) ≡ true) ⊎ (any_changes changes near n ≡ true) → (any_changes changes near n ≡ true → list_any (is_awake changes) ms ≡ true) → list_any (is_awake changes) ms ≡ true
      by_place (inl e) rest = let both = and_parts (is_awake changes n) (has near n) e in any_has (is_awake changes) ms n (same n (omega arith) both.1) both.0
      by_place (inr e) rest = rest e

  -- a list that has the same near ones tells the same
  any_near : (ms : List ℕ) (n : ℕ) → length changes ≤ n → ((c : ℕ) → c < n → has ms c ≡ has near c) → list_any (is_awake changes) ms ≡ any_changes changes near n
  any_near ms n wide same =
      both_ways (list_any (is_awake changes) ms) (any_changes changes near n)
      (asked_of ms n wide (λ c l e. sym (same c l) ∙ e))
      (of_asked ms n (λ c l e. same c l ∙ e))

  -- a component that has itself near, and is marked or asked of
  pub any_or_itself : (ms : List ℕ) (k n : ℕ) → length changes ≡ n → k < n → ((c : ℕ) → c < n → has ms c ≡ has near c) → has near k ≡ true → (is_awake changes k || list_any (is_awake changes) ms) ≡ any_changes changes near n
  any_or_itself ms k n wide h same own =
      ap (λ b. is_awake changes k || b) (any_near ms n (omega (arith, wide)) same)
      ∙ both_ways (is_awake changes k || any_changes changes near n) (any_changes changes near n)
      (λ e. by_place (or_cases (is_awake changes k) (any_changes changes near n) e))
      (or_right (is_awake changes k) (any_changes changes near n))
    where
      by_place : (is_awake changes k ≡ true) ⊎ (any_changes changes near n ≡ true) → any_changes changes near n ≡ true
      by_place (inl a) = any_of_one changes near k n h a own
      by_place (inr e) = e

-- all marks, without those that changed, and of the rest those that are woken, and then those that changed
pub woken_or_marked : (all rest kept new changes : List Bool) (w : Bool) (n k : ℕ) → k < n → all ≡ replicate n true → is_awake rest k ≡ (is_awake all k && not (is_awake changes k)) → is_awake kept k ≡ (is_awake rest k && w) → is_awake new k ≡ (is_awake kept k || is_awake changes k) → is_awake new k ≡ (is_awake changes k || w)
woken_or_marked all rest kept new changes w n k h whole removed woken added =
    added
    ∙ ap (λ b. b || is_awake changes k) (woken ∙ ap (λ b. b && w) (removed ∙ ap (λ b. b && not (is_awake changes k)) (ap (λ row. is_awake row k) whole ∙ get_or-replicate n k true false h)))
    ∙ by_mark (is_awake changes k)
  where
    by_mark : (b : Bool) → ((not b && w) || b) ≡ (b || w)
    by_mark true = refl
    by_mark false = or-false w
