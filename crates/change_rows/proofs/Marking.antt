-- Lines of marks.
use Rattle.std.proofs.Common.{◌≡◌, ℕ, ◌+◌, ◌*◌, ◌/◌, ◌%◌, ◌<◌, ◌≤◌, ◌∙◌, ◌⊎◌, inl, inr, sym, ap, refl, arith, Bool, true, false, cond, eqb, ◌||◌, is_some, Option, Some, None, List, [], ◌∷◌, ◌++◌, ◌-◌, zero, suc, min, replicate, length, take, get_or}
use Rattle.std.specs.Option.{option_or}
use Rattle.std.proofs.Math.ListN.{set}
use lib.Bits.{bit_and}
use Rattle.std.specs.Int.{bit_at}
use Rattle.std.proofs.lemmas.Nat.Bits.{bit_at-zero, bit_at_and}
use Rattle.std.proofs.lemmas.Bool.{cases_eq, ne_eqb, cases_lt, eqb-true}
use Rattle.std.proofs.lemmas.List.{get_or-set_same, get_or-set_other, take_more, get_or_past, get_or_append_left, get_or-append_right}
use Rattle.change_rows.specs.Cells.{Held, no_cell, found, end_of, component_at}
use Rattle.change_rows.specs.Marks.{is_one, is_set, is_in}
use Rattle.change_rows.proofs.Finding.{found_append, below_end}

pub below_lines : (cells : List Held) (i c n : ℕ) → i < length cells → c ≡ component_at cells i → end_of cells ≤ 64 * n → c / 64 < n
below_lines cells i c n h e room = let low : component_at cells i < end_of cells = below_end cells i h in omega (arith, low, e, room)

some_or : (o p : Option (List ℕ)) → is_some (option_or o p) ≡ (is_some o || is_some p)
some_or None p = refl
some_or (Some x) p = refl

some_one : (b : Bool) (w : List ℕ) → is_some (cond b (Some w) None) ≡ b
some_one true w = refl
some_one false w = refl

pub found_more : (cells : List Held) (i c d : ℕ) → i < length cells → c ≡ component_at cells i → is_some (found (take (i + 1) cells) d) ≡ (is_some (found (take i cells) d) || eqb c d)
found_more cells i c d h e =
    let x = get_or cells i no_cell in
    ap (λ (v : List Held). is_some (found v d)) (take_more cells i no_cell h)
    ∙ ap is_some (found_append (take i cells) (x ∷ []) d)
    ∙ some_or (found (take i cells) d) (found (x ∷ []) d)
    ∙ ap (λ (b : Bool). is_some (found (take i cells) d) || b) (some_one (eqb x.component d) x.words ∙ ap (λ (k : ℕ). eqb k d) (sym e))

-- a line is another one of the same length
pub tall_more : (lines0 lines : List (List ℕ)) (line : List ℕ) (k : ℕ) → k < length lines → length line ≡ length (get_or lines k []) → ((w : ℕ) → length (get_or lines w []) ≡ length (get_or lines0 w [])) → (w : ℕ) → length (get_or (set lines k line) w []) ≡ length (get_or lines0 w [])
tall_more lines0 lines line k there same before w = by_place (cases_eq w k)
  where
    by_place : (w ≡ k) ⊎ (w ≡ k → ⊥) → length (get_or (set lines k line) w []) ≡ length (get_or lines0 w [])
    by_place (inl e) =
        ap (λ (j : ℕ). length (get_or (set lines k line) j [])) e ∙ ap length (get_or-set_same lines k line [] there) ∙ same
        ∙ ap (λ (j : ℕ). length (get_or lines j [])) (sym e) ∙ before w
    by_place (inr n) = ap length (get_or-set_other lines k w line [] n) ∙ before w

-- zeros more
pub zeros_set : (xs ys zs : List ℕ) (m : ℕ) → xs ≡ ys ++ replicate m 0 → ys ≡ zs → (t k : ℕ) → is_set xs t k ≡ is_set zs t k
zeros_set xs ys zs m e f t k = ap (λ (w : ℕ). is_one w k) (ap (λ (v : List ℕ). get_or v t 0) e ∙ by_place (cases_lt t (length ys)) ∙ ap (λ (v : List ℕ). get_or v t 0) f)
  where
    in_zeros : (n i z : ℕ) → get_or (replicate n z) i z ≡ z
    in_zeros zero i z = refl
    in_zeros (suc n) zero z = refl
    in_zeros (suc n) (suc i) z = in_zeros n i z

    by_place : (t < length ys) ⊎ (length ys ≤ t) → get_or (ys ++ replicate m 0) t 0 ≡ get_or ys t 0
    by_place (inl h) = get_or_append_left ys (replicate m 0) 0 t h
    by_place (inr h) = get_or-append_right ys (replicate m 0) (length ys) t 0 refl h ∙ in_zeros m (t - length ys) 0 ∙ sym (get_or_past ys t 0 h)

-- a line is another one
pub line_same : (lines0 lines : List (List ℕ)) (line : List ℕ) (w : ℕ) → w < length lines → ((t k : ℕ) → is_set line t k ≡ is_set (get_or lines w []) t k) → ((v t k : ℕ) → is_set (get_or lines v []) t k ≡ is_set (get_or lines0 v []) t k) → (v t k : ℕ) → is_set (get_or (set lines w line) v []) t k ≡ is_set (get_or lines0 v []) t k
line_same lines0 lines line w there same before v t k = by_place (cases_eq v w)
  where
    by_place : (v ≡ w) ⊎ (v ≡ w → ⊥) → is_set (get_or (set lines w line) v []) t k ≡ is_set (get_or lines0 v []) t k
    by_place (inl e) =
        ap (λ (j : ℕ). is_set (get_or (set lines w line) j []) t k) e ∙ ap (λ (l : List ℕ). is_set l t k) (get_or-set_same lines w line [] there) ∙ same t k
        ∙ ap (λ (j : ℕ). is_set (get_or lines j []) t k) (sym e) ∙ before v t k
    by_place (inr n) = ap (λ (l : List ℕ). is_set l t k) (get_or-set_other lines w v line [] n) ∙ before v t k

pub line_longer : (lines0 lines : List (List ℕ)) (line : List ℕ) (w : ℕ) → w < length lines → length (get_or lines w []) ≤ length line → ((v : ℕ) → length (get_or lines0 v []) ≤ length (get_or lines v [])) → (v : ℕ) → length (get_or lines0 v []) ≤ length (get_or (set lines w line) v [])
line_longer lines0 lines line w there more before v = by_place (cases_eq v w)
  where
    by_place : (v ≡ w) ⊎ (v ≡ w → ⊥) → length (get_or lines0 v []) ≤ length (get_or (set lines w line) v [])
    by_place (inl e) =
        let same : length (get_or (set lines w line) v []) ≡ length line = ap (λ (j : ℕ). length (get_or (set lines w line) j [])) e ∙ ap length (get_or-set_same lines w line [] there) in
        omega (arith, same, before v, more, ap (λ (j : ℕ). length (get_or lines j [])) e)
    by_place (inr n) = omega (arith, before v, ap length (get_or-set_other lines w v line [] n))

pub line_ok : (lines : List (List ℕ)) (line : List ℕ) (w n : ℕ) → w < length lines → n ≤ length line → ((v : ℕ) → v < w → n ≤ length (get_or lines v [])) → (v : ℕ) → v < w + 1 → n ≤ length (get_or (set lines w line) v [])
line_ok lines line w n there ok before v h = by_place (cases_eq v w)
  where
    by_place : (v ≡ w) ⊎ (v ≡ w → ⊥) → n ≤ length (get_or (set lines w line) v [])
    by_place (inl e) = omega (arith, ok, ap (λ (j : ℕ). length (get_or (set lines w line) j [])) e, ap length (get_or-set_same lines w line [] there))
    by_place (inr ne) = omega (arith, before v (omega arith), ap length (get_or-set_other lines w v line [] ne))

-- two words that have no bit in common
pub apart : (a b k : ℕ) → bit_and a b ≡ 0 → is_one b k ≡ true → is_one a k ≡ false
apart a b k e h =
    let both : min (bit_at a k) (bit_at b k) ≡ 0 = sym (bit_at_and a b k) ∙ ap (λ (n : ℕ). bit_at n k) e ∙ bit_at-zero k in
    ne_eqb (bit_at a k) 1 (λ q. absurd (omega (arith, q, both, eqb-true (bit_at b k) 1 h)))

-- a set without the word of a component hasn't got it
pub not_in : (set : List ℕ) (c : ℕ) → length set ≤ c / 64 → is_in set c ≡ false
not_in set c h = ap (λ (w : ℕ). is_one w (c % 64)) (get_or_past set (c / 64) 0 h) ∙ ap (λ (b : ℕ). eqb b 1) (bit_at-zero (c % 64))
