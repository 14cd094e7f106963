-- A range of cycles and the one behind it.
use Rattle.std.proofs.Common.{◌≡◌, ℕ, ◌<◌, ◌≤◌, sym, refl, arith, Bool, true, false, leb, ltb, ◌&&◌, ◌||◌, ◌⊎◌, inl, inr}
use Rattle.std.proofs.Math.Bool.{or-false}
use Rattle.std.proofs.lemmas.Bool.{cases_lt, lt-ltb, le-ltb}
use Rattle.std.proofs.lemmas.Grind.{common_steps}

-- a range and the one behind it
pub range_on : (m k : Bool) (t from mid to : ℕ) (x b : Bool) → from ≤ mid → mid ≤ to → (mid ≤ t → t < to → x ≡ b) → ((m || ((k && (leb from t && ltb t mid)) && x)) || ((k && (leb mid t && ltb t to)) && b)) ≡ (m || ((k && (leb from t && ltb t to)) && x))
range_on true k t from mid to x b low up same = refl
range_on false false t from mid to x b low up same = refl
range_on false true t from mid to x b low up same = by_place (cases_lt t mid) (cases_lt t to)
  where
    some : mid ≤ t → leb from t ≡ true
    some h = grind (arith, common_steps)

    late : mid ≤ t → leb mid t ≡ true
    late h = grind (arith, common_steps)

    early : t < mid → leb mid t ≡ false
    early h = grind (arith, common_steps)

    by_place : (t < mid) ⊎ (mid ≤ t) → (t < to) ⊎ (to ≤ t) → (((leb from t && ltb t mid) && x) || ((leb mid t && ltb t to) && b)) ≡ ((leb from t && ltb t to) && x)
    by_place (inl h) i = rw (lt-ltb t mid h, lt-ltb t to (omega arith), early h) (or-false ((leb from t && true) && x))
    by_place (inr h) (inl i) = rw (le-ltb t mid h, lt-ltb t to i, some h, late h) (sym (same h i))
    by_place (inr h) (inr i) = rw (le-ltb t mid h, le-ltb t to i, some h, late h) refl
