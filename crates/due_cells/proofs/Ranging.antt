-- Ranges of the components that are marked.
use Rattle.std.proofs.Common.{◌≡◌, ℕ, ◌+◌, ◌<◌, ◌≤◌, ◌∙◌, ◌⊎◌, inl, inr, sym, ap, refl, arith, Bool, true, false, ◌||◌, ◌&&◌, nat_le, nat_lt, List, [], ◌∷◌, ◌++◌}
use Rattle.std.specs.Prelude.{◌==◌}
use Rattle.std.proofs.Math.Bool.{or-false}
use Rattle.std.proofs.lemmas.Bool.{true≢false, cases_lt, cases_eq, lt-ltb, le-ltb, eq-eqb, ne_eqb}
use Rattle.std.proofs.lemmas.List.Folds.{list_any-append}
use Rattle.cell_marks.specs.Marked.{IsFirstFrom}
use Rattle.cell_states.specs.Filling.{is_awake}
use Rattle.due_cells.specs.Ranges.{covers, is_marked}
use Rattle.cell_states.specs.declared.cell.CellRange.{CellRange}

-- where none is marked from one place on and before another, those before either are the same
pub none_between : (marks : List Bool) (n m : ℕ) → n ≤ m → ((c : ℕ) → n ≤ c → c < m → is_awake marks c ≡ false) → (d : ℕ) → (is_awake marks d && nat_lt d m) ≡ (is_awake marks d && nat_lt d n)
none_between marks n m h none d = by_mark (is_awake marks d) refl
  where
    by_place : is_awake marks d ≡ true → (d < n) ⊎ (n ≤ d) → (d < m) ⊎ (m ≤ d) → nat_lt d m ≡ nat_lt d n
    by_place a (inl l) k = lt-ltb d m (omega (arith, l, h)) ∙ sym (lt-ltb d n l)
    by_place a (inr l) (inl k) = absurd (true≢false (sym a ∙ none d l k))
    by_place a (inr l) (inr k) = le-ltb d m k ∙ sym (le-ltb d n l)

    by_mark : (b : Bool) → is_awake marks d ≡ b → (b && nat_lt d m) ≡ (b && nat_lt d n)
    by_mark true a = by_place a (cases_lt d n) (cases_lt d m)
    by_mark false a = refl

-- one range more, of the first that is marked from a place on
module _ (marks : List Bool) (ranges : List CellRange) (next c from to : ℕ) (first : IsFirstFrom marks next c) where
  pub one_more : (t d : ℕ) → is_marked ranges t d ≡ ((is_awake marks d && nat_lt d next) && (nat_le from t && nat_lt t to)) → is_marked (ranges ++ (record { component = c; from = from; to = to } ∷ [])) t d ≡ ((is_awake marks d && nat_lt d (c + 1)) && (nat_le from t && nat_lt t to))
  one_more t d old =
      list_any-append (λ range. covers range t d) ranges _
      ∙ ap (λ b. b || (((d == c) && W) || false)) old
      ∙ by_place (cases_eq d c)
    where
      W : Bool
      W = nat_le from t && nat_lt t to

      whole : (a w : Bool) → ((a && w) || (w || false)) ≡ w
      whole true true = refl
      whole true false = refl
      whole false true = refl
      whole false false = refl

      beside : (d ≡ c → ⊥) → (d < c) ⊎ (c ≤ d) → nat_lt d c ≡ nat_lt d (c + 1)
      beside ne (inl h) = lt-ltb d c h ∙ sym (lt-ltb d (c + 1) (omega (arith, h)))
      beside ne (inr h) = le-ltb d c h ∙ sym (le-ltb d (c + 1) (omega (arith, h, ne)))

      by_place : (d ≡ c) ⊎ (d ≡ c → ⊥) → (((is_awake marks d && nat_lt d next) && W) || (((d == c) && W) || false)) ≡ ((is_awake marks d && nat_lt d (c + 1)) && W)
      by_place (inl e) =
          ap (λ b. ((is_awake marks d && nat_lt d next) && W) || ((b && W) || false)) (eq-eqb d c e)
          ∙ whole (is_awake marks d && nat_lt d next) W
          ∙ sym (ap (λ b. (b && nat_lt d (c + 1)) && W) (ap (is_awake marks) e ∙ first.1) ∙ ap (λ b. b && W) (lt-ltb d (c + 1) (omega (arith, e))))
      by_place (inr ne) =
          ap (λ b. ((is_awake marks d && nat_lt d next) && W) || ((b && W) || false)) (ne_eqb d c ne)
          ∙ or-false ((is_awake marks d && nat_lt d next) && W)
          ∙ ap (λ b. b && W) (sym (none_between marks next c first.0 first.2 d) ∙ ap (λ b. is_awake marks d && b) (beside ne (cases_lt d c)))
