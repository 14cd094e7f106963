-- Versions that all components have, and rows that are marked whole.
use Rattle.std.proofs.Common.{◌≡◌, ℕ, zero, suc, ◌+◌, ◌<◌, ◌≤◌, ◌∙◌, sym, ap, refl, arith, Bool, true, false, cond, eq-eqb, ◌&&◌, ◌||◌, ◌⊎◌, inl, inr, List, [], ◌∷◌, length, replicate, get_or}
use Rattle.std.proofs.lemmas.Bool.{cases_lt, and_from, or_left, or_right}
use Rattle.std.proofs.lemmas.List.{length-replicate, get_or-replicate}
use Rattle.std.proofs.lemmas.List.Sums.{sum_by-cons}
use Rattle.cell_marks.specs.Marked.{is_set, count_in}
use Rattle.cell_states.specs.Near.{has}
use Rattle.cell_states.specs.Filling.{is_awake}
use Rattle.cell_states.specs.Versions.{any_changes}

pub no_words : (xs : List ℕ) → length xs ≡ 0 → xs ≡ []
no_words [] e = refl
no_words (x ∷ xs) e = absurd (omega (arith, e))

pub all_have : (olds : List ℕ) (count all version : ℕ) → olds ≡ replicate count all → all ≡ version → (c : ℕ) → c < length olds → get_or olds c 0 ≡ version
all_have olds count all version e f c h =
    ap (λ vs. get_or vs c 0) e ∙ get_or-replicate count c all 0 (omega (arith, h, ap length e, length-replicate count all)) ∙ f

-- a row of which each component is counted
count_few : (row : List Bool) → count_in row ≤ length row
count_few [] = omega arith
count_few (m ∷ row) = by_first m (sum_by-cons (λ (b : Bool). cond b 1 0) m row) (count_few row)
  where
    by_first : (b : Bool) → count_in (m ∷ row) ≡ cond b 1 0 + count_in row → count_in row ≤ length row → count_in (m ∷ row) ≤ suc (length row)
    by_first true e h = omega (arith, e, h)
    by_first false e h = omega (arith, e, h)

pub all_counted : (row : List Bool) (c : ℕ) → count_in row ≡ length row → c < length row → is_set row c ≡ true
all_counted [] c e h = absurd (omega (arith, h))
all_counted (m ∷ row) c e h = by_first m (sym (sum_by-cons (λ (b : Bool). cond b 1 0) m row) ∙ e) c h (λ d. all_counted row d)
  where
    by_first : (b : Bool) → cond b 1 0 + count_in row ≡ suc (length row) → (c : ℕ) → c < suc (length row) → ((d : ℕ) → count_in row ≡ length row → d < length row → is_set row d ≡ true) → is_set (b ∷ row) c ≡ true
    by_first false f c l rest = absurd (omega (arith, f, count_few row))
    by_first true f zero l rest = refl
    by_first true f (suc c) l rest = rest c (omega (arith, f)) (omega (arith, l))

-- where one changes that has itself near, one of the components near it does
pub any_of_one : (changes : List Bool) (near : List ℕ) (k n : ℕ) → k < n → is_awake changes k ≡ true → has near k ≡ true → any_changes changes near n ≡ true
any_of_one changes near k zero h a own = absurd (omega (arith, h))
any_of_one changes near k (suc n) h a own = by_place (cases_lt k n) (λ l. any_of_one changes near k n l a own)
  where
    by_place : (k < n) ⊎ (n ≤ k) → (k < n → any_changes changes near n ≡ true) → any_changes changes near (suc n) ≡ true
    by_place (inl l) before = or_right (is_awake changes n && has near n) (any_changes changes near n) (before l)
    by_place (inr l) before = let e : k ≡ n = omega (arith, h, l) in or_left (is_awake changes n && has near n) (any_changes changes near n) (and_from (is_awake changes n) (has near n) (ap (is_awake changes) (sym e) ∙ a) (ap (has near) (sym e) ∙ own))

-- what is near a component has it
pub is_first : (near rest : List ℕ) (k : ℕ) → near ≡ k ∷ rest → has near k ≡ true
is_first near rest k e = ap (λ ms. has ms k) e ∙ ap (λ b. b || has rest k) (eq-eqb k k refl)
