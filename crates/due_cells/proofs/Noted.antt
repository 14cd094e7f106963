-- What is held after stores that are noted, and what the marks of readers tell.
use Rattle.std.proofs.Common.{◌≡◌, ℕ, zero, suc, ◌+◌, ◌<◌, ◌≤◌, ◌∙◌, sym, ap, subst, refl, arith, Bool, true, false, cond, ◌&&◌, ◌||◌, ◌⊎◌, inl, inr, List, [], ◌∷◌, ◌++◌, length, take, replicate}
use Rattle.std.proofs.Math.Bool.{or-false}
use Rattle.std.proofs.lemmas.Bool.{cases_lt}
use Rattle.std.proofs.lemmas.List.{get_or-replicate, get_or_append_left}
use Rattle.std.proofs.Math.Seq.{get_or-append_seam}
use Rattle.std.proofs.lemmas.List.Sums.{sum_by-cons}
use Rattle.cell_marks.specs.Marked.{is_set, count_in, row_at, any_marks}
use Rattle.grid_law.specs.Rules.{Rules}
use Rattle.due_cells.specs.Seen.{Held, held_at, marked}
use Rattle.cell_states.specs.Versions.{any_changes, version_by}
use Rattle.cell_states.specs.Near.{has}
use Rattle.cell_states.specs.Filling.{is_awake}
use Rattle.due_cells.specs.Woken.{differing, woken}
use Rattle.cell_states.proofs.Since.{count_next}
use Rattle.due_cells.specs.Noted.{noted}

or_true : (a b : Bool) → (a || (true || b)) ≡ true
or_true true b = refl
or_true false b = refl

module _ {State Slots Slot : Type 0} (R : Rules State Slots Slot) (s : Slots) (rows : List (List (Held State))) (changes : List Bool) (t : ℕ) where
  abbrev differs : ℕ → ℕ → Bool
  differs t k = is_awake changes k

  counted : (n : ℕ) → n ≤ length changes → differing differs t n ≡ count_in (take n changes)
  counted zero h = refl
  counted (suc n) h = by_test (is_awake changes n) (count_next changes n (omega (arith, h))) (counted n (omega (arith, h)))
    where
      by_test : (b : Bool) → count_in (take (suc n) changes) ≡ count_in (take n changes) + cond b 1 0 → differing differs t n ≡ count_in (take n changes) → cond b (differing differs t n + 1) (differing differs t n) ≡ count_in (take (suc n) changes)
      by_test true e before = omega (arith, e, before)
      by_test false e before = omega (arith, e, before)

  pub woken_noted : (clock c : ℕ) (near : List ℕ) (n : ℕ) → n ≤ length changes → ((k : ℕ) → k < n → has near k ≡ has (R.near s c) k) → woken R s rows differs clock t n c ≡ noted (held_at rows (t + 1) c) changes near clock n
  woken_noted clock c near zero h same = ap (λ b. record { state = (held_at rows (t + 1) c).state; is_due = b; version = (held_at rows (t + 1) c).version }) (sym (or-false (held_at rows (t + 1) c).is_due))
  woken_noted clock c near (suc n) h same =
      ap (λ b. cond (is_awake changes n && b) (marked (woken R s rows differs clock t n c) (clock + (differing differs t n + 1))) (woken R s rows differs clock t n c)) (sym (same n (omega arith)))
      ∙ by_test (is_awake changes n && has near n) (woken_noted clock c near n (omega (arith, h)) (λ k l. same k (omega (arith, l)))) (counted n (omega (arith, h)))
    where
      k : Held State
      k = held_at rows (t + 1) c

      by_test : (b : Bool) → woken R s rows differs clock t n c ≡ noted k changes near clock n → differing differs t n ≡ count_in (take n changes) → cond b (marked (woken R s rows differs clock t n c) (clock + (differing differs t n + 1))) (woken R s rows differs clock t n c) ≡ record { state = k.state; is_due = k.is_due || (b || any_changes changes near n); version = cond b (clock + (count_in (take n changes) + 1)) (version_by changes near clock k.version n) }
      by_test true e f =
          ap (λ (x : Held State). marked x (clock + (differing differs t n + 1))) e
          ∙ ap (λ v. record { state = k.state; is_due = true; version = clock + (v + 1) }) f
          ∙ ap (λ b. record { state = k.state; is_due = b; version = clock + (count_in (take n changes) + 1) }) (sym (or_true k.is_due (any_changes changes near n)))
      by_test false e f = e

-- the marks that some list of readers gives are those of the components near one that changed
pub any_read : (changes : List Bool) (masks : List (List Bool)) (near : List ℕ) (k n : ℕ) → ((c : ℕ) → c < n → is_set (row_at masks c) k ≡ has near c) → any_marks changes masks k n ≡ any_changes changes near n
any_read changes masks near k zero same = refl
any_read changes masks near k (suc n) same =
    ap (λ b. (is_awake changes n && b) || any_marks changes masks k n) (same n (omega arith))
    ∙ ap (λ b. (is_awake changes n && has near n) || b) (any_read changes masks near k n (λ c h. same c (omega (arith, h))))

-- a row without a mark
pub none_counted : (row : List Bool) (c : ℕ) → count_in row ≡ 0 → is_set row c ≡ false
none_counted [] c h = refl
none_counted (m ∷ row) c h = by_first m (sym (sum_by-cons (λ (b : Bool). cond b 1 0) m row) ∙ h) c (none_counted row)
  where
    by_first : (b : Bool) → cond b 1 0 + count_in row ≡ 0 → (c : ℕ) → ((c : ℕ) → count_in row ≡ 0 → is_set row c ≡ false) → is_set (b ∷ row) c ≡ false
    by_first true e c rest = absurd (omega (arith, e))
    by_first false e zero rest = refl
    by_first false e (suc c) rest = rest c (omega (arith, e))

-- one row of marks more
pub each_more : (P : ℕ → List Bool → Type 0) (masks masks1 : List (List Bool)) (row : List Bool) (n : ℕ) → length masks ≡ n → masks1 ≡ masks ++ row ∷ [] → ((c : ℕ) → c < n → P c (row_at masks c)) → P n row → (c : ℕ) → c < n + 1 → P c (row_at masks1 c)
each_more P masks masks1 row n len more each last c h = subst (λ rows. P c (row_at rows c)) (sym more) (by_place (cases_lt c n))
  where
    by_place : (c < n) ⊎ (n ≤ c) → P c (row_at (masks ++ row ∷ []) c)
    by_place (inl l) = subst (P c) (sym (get_or_append_left masks (row ∷ []) [] c (omega (arith, l, len)))) (each c l)
    by_place (inr l) =
        let e : n ≡ c = omega (arith, h, l) in
        let at : row_at (masks ++ row ∷ []) n ≡ row = ap (λ k. row_at (masks ++ row ∷ []) k) (sym len) ∙ get_or-append_seam masks row [] [] in
        subst (λ k. P k (row_at (masks ++ row ∷ []) k)) e (subst (P n) (sym at) last)

-- a row in which just some components were marked
pub woken_of : (blank row : List Bool) (list : List ℕ) (n k : ℕ) → blank ≡ replicate n false → k < n → is_awake row k ≡ (is_awake blank k || has list k) → is_set row k ≡ has list k
woken_of blank row list n k none h at = at ∙ ap (λ b. b || has list k) (ap (λ r. is_awake r k) none ∙ get_or-replicate n k false false h)
