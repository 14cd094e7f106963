-- Which modules have written.
use Rattle.std.proofs.Common.{◌≡◌, ℕ, ◌<◌, Bool, true, false, cond, List, [], ◌∷◌, ◌++◌, refl, ap, sym, ◌∙◌, append_assoc, None, Some, arith, eq-eqb}
use Rattle.std.specs.Prelude.{◌==◌, ◌||◌, filter, find}
use Rattle.std.specs.Option.{option_map_or}
use Rattle.std.proofs.lemmas.Bool.{false≢true, eqb-true}
use Rattle.std.proofs.lemmas.Bool.Decides.{nat_tests}
use Rattle.mem_module.specs.declared.words.Stored.{Stored}
use Rattle.mem_module.specs.Memory.{word_at, stored, rows_below, rows_above, with_word}
use Rattle.flat_row.specs.Masks.{has, IsSetOf}
use Rattle.flat_row.specs.Ends.{Wrote, words_of}
use Rattle.flat_row.proofs.Processing.{neither}

abbrev at_row : ℕ → Stored → Bool
at_row r w = w.row == r

-- a filter that keeps none of a row
find_dropped : (t : Stored → Bool) (r : ℕ) (ws : List Stored) → ((w : Stored) → at_row r w ≡ true → t w ≡ false) → find (at_row r) (filter t ws) ≡ None
find_dropped t r [] h = refl
find_dropped t r (w ∷ ws) h = by_tests (t w) (at_row r w) refl refl (find_dropped t r ws h)
  where
    by_tests : (a b : Bool) → t w ≡ a → at_row r w ≡ b → find (at_row r) (filter t ws) ≡ None → find (at_row r) (cond a (w ∷ filter t ws) (filter t ws)) ≡ None
    by_tests true true e f ih = absurd (false≢true (sym (h w f) ∙ e))
    by_tests true false e f ih = rw f ih
    by_tests false b e f ih = ih

find_after : (r : ℕ) (xs ys : List Stored) → find (at_row r) xs ≡ None → find (at_row r) (xs ++ ys) ≡ find (at_row r) ys
find_after r [] ys e = refl
find_after r (x ∷ xs) ys e = by_test (at_row r x) refl e (find_after r xs ys)
  where
    by_test : (b : Bool) → at_row r x ≡ b → cond b (Some x) (find (at_row r) xs) ≡ None → (find (at_row r) xs ≡ None → find (at_row r) (xs ++ ys) ≡ find (at_row r) ys)
        → cond b (Some x) (find (at_row r) (xs ++ ys)) ≡ find (at_row r) ys
    by_test true f e ih = cc
    by_test false f e ih = ih e

find_before : (r : ℕ) (xs ys : List Stored) → find (at_row r) ys ≡ None → find (at_row r) (xs ++ ys) ≡ find (at_row r) xs
find_before r [] ys e = e
find_before r (x ∷ xs) ys e = ap (λ q. cond (at_row r x) (Some x) q) (find_before r xs ys e)

-- the word that was written
pub word_written : (ws : List Stored) (row word : ℕ) → word_at (with_word ws row word) row ≡ word
word_written ws row word =
    ap (λ o. option_map_or (λ w. w.word) o 0)
    (ap (find (at_row row)) (append_assoc (rows_below ws row) (stored row word) (rows_above ws row))
    ∙ find_after row (rows_below ws row) _ (find_dropped _ row ws (λ w e. let f : w.row ≡ row = eqb-true w.row row e in grind (arith, nat_tests)))
    ∙ find_before row (stored row word) (rows_above ws row) (find_dropped _ row ws (λ w e. let f : w.row ≡ row = eqb-true w.row row e in grind (arith, nat_tests))))
    ∙ by_test (word == 0) refl
  where
    by_test : (b : Bool) → (word == 0) ≡ b → option_map_or (λ w. w.word) (find (at_row row) (cond b [] (record { row = row; word = word } ∷ []))) 0 ≡ word
    by_test true e = sym (eqb-true word 0 e)
    by_test false e = rw (eq-eqb row row refl) refl

-- another word in a row makes other words
pub other_words : (ws : List Stored) (row word : ℕ) → (word ≡ word_at ws row → ⊥) → with_word ws row word ≡ ws → ⊥
other_words ws row word ne same = ne (sym (word_written ws row word) ∙ ap (λ v. word_at v row) same)

-- two passes, in which no module writes twice
module _ (low comb a b c : ℕ) (words among next : List (List Stored)) (apart : (m : ℕ) → m < 64 → has low m ≡ true → has comb m ≡ true → ⊥)
    (first : Wrote a words among) (first_in : (m : ℕ) → m < 64 → has a m ≡ true → has low m ≡ true)
    (second : Wrote b among next) (second_in : (m : ℕ) → m < 64 → has b m ≡ true → has comb m ≡ true) (is : IsSetOf (λ m. has a m || has b m) c) where
  second_out : (m : ℕ) → m < 64 → has a m ≡ true → has b m ≡ false
  second_out m s told = by_test (has b m) refl
    where
      by_test : (t : Bool) → has b m ≡ t → t ≡ false
      by_test true e = absurd (apart m s (first_in m s told) (second_in m s e))
      by_test false e = refl

  pub both_wrote : Wrote c words next
  both_wrote = record { same = same_now; other = other_now }
    where
      same_now : (m : ℕ) → m < 64 → has c m ≡ false → words_of next m ≡ words_of words m
      same_now m s out = let n = neither (has a m) (has b m) (sym (is m s) ∙ out) in second.same m s n.1 ∙ first.same m s n.0

      other_now : (m : ℕ) → m < 64 → has c m ≡ true → words_of next m ≡ words_of words m → ⊥
      other_now m s told alike = by_test (has a m) refl
        where
          by_test : (t : Bool) → has a m ≡ t → ⊥
          by_test true e = first.other m s e (sym (second.same m s (second_out m s e)) ∙ alike)
          by_test false e = second.other m s (sym (ap (λ t. t || has b m) e) ∙ sym (is m s) ∙ told) (alike ∙ sym (first.same m s e))
