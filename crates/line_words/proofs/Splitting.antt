-- Lemmas on the words of a line.
use Rattle.std.proofs.Common.{◌≡◌, ℕ, zero, suc, ◌<◌, ◌≤◌, Bool, true, false, not, cond, List, [], ◌∷◌, length, get_or, take, drop, refl, sym, ap, ◌∙◌, arith, add-zero, lt-ltb, ltb-false, length-take, length-drop, subst}
use Rattle.std.proofs.lemmas.Bool.{not-true, not-false}
use Rattle.std.proofs.lemmas.List.{drop_all, get_or-drop}
use Rattle.std.proofs.lemmas.List.Quantifiers.{position-Some}
use Rattle.std.proofs.lemmas.List.Sums.{fails_before_first}
use Rattle.std.specs.Prelude.{position, unwrap_or, Option, Some, None, nat_lt}
use Rattle.std.specs.List.{position_or_len}
use Rattle.std.specs.Prelude.{filter}
use Rattle.std.specs.List.{slice_split, onto_first}
use Rattle.line_words.specs.Words.{is_separator, is_nonempty, words_of}

skip_step : (t : Bool) (b : ℕ) (parts : List (List ℕ)) → t ≡ true → filter is_nonempty (cond t ([] ∷ parts) (onto_first b parts)) ≡ filter is_nonempty parts
skip_step true b parts e = refl
skip_step false b parts e = cc

-- separators at the front say nothing
pub words_of-skip : (n : ℕ) (xs : List ℕ) → ((k : ℕ) → k < n → is_separator (get_or xs k 0) ≡ true) → words_of (drop n xs) ≡ words_of xs
words_of-skip zero xs h = refl
words_of-skip (suc n) [] h = refl
words_of-skip (suc n) (b ∷ bs) h =
    words_of-skip n bs (λ k lt. h (suc k) (omega arith)) ∙ sym (skip_step (is_separator b) b (slice_split is_separator bs) (h zero (omega arith)))

-- the first part, and that the others are the words of the rest
pub record FirstPart (n : ℕ) (xs : List ℕ) : Type 0 where
  pub parts : List (List ℕ)
  pub first : slice_split is_separator xs ≡ take n xs ∷ parts
  pub others : filter is_nonempty parts ≡ words_of (drop n xs)

end_step : (t : Bool) (y : ℕ) (ys : List ℕ) → is_separator y ≡ t → t ≡ true → FirstPart zero (y ∷ ys)
end_step true y ys e f = record { parts = slice_split is_separator ys; first = rw e refl; others = rw e refl }
end_step false y ys e f = cc

part_step : (t : Bool) (b n : ℕ) (bs : List ℕ) → is_separator b ≡ t → t ≡ false → FirstPart n bs → FirstPart (suc n) (b ∷ bs)
part_step true b n bs e f p = cc
part_step false b n bs e f p = record { parts = p.parts; first = rw (e, p.first) refl; others = p.others }

first_part : (n : ℕ) (xs : List ℕ) → ((k : ℕ) → k < n → is_separator (get_or xs k 0) ≡ false) → n ≤ length xs
    → (n < length xs → is_separator (get_or xs n 0) ≡ true) → FirstPart n xs
first_part zero [] h le at = record { parts = []; first = refl; others = refl }
first_part zero (y ∷ ys) h le at = end_step (is_separator y) y ys refl (at (omega arith))
first_part (suc n) [] h le at = absurd (omega arith)
first_part (suc n) (b ∷ bs) h le at =
    part_step (is_separator b) b n bs refl (h zero (omega arith))
    (first_part n bs (λ k lt. h (suc k) (omega arith)) (omega arith) (λ lt. at (omega arith)))

nonempty_step : (t : Bool) (w : List ℕ) (ws : List (List ℕ)) → t ≡ true → cond t (w ∷ ws) ws ≡ w ∷ ws
nonempty_step true w ws e = refl
nonempty_step false w ws e = cc

nonempty_first : (w : List ℕ) (parts : List (List ℕ)) → 0 < length w → filter is_nonempty (w ∷ parts) ≡ w ∷ filter is_nonempty parts
nonempty_first w parts p = nonempty_step (is_nonempty w) w (filter is_nonempty parts) (lt-ltb 0 (length w) p)

-- the first word goes up to a separator or to the end
pub words_of-first : (n : ℕ) (xs : List ℕ) → ((k : ℕ) → k < n → is_separator (get_or xs k 0) ≡ false) → 0 < n → n ≤ length xs
    → (n < length xs → is_separator (get_or xs n 0) ≡ true) → words_of xs ≡ take n xs ∷ words_of (drop n xs)
words_of-first n xs h lt le at =
    let p = first_part n xs h le at in
    let some : 0 < length (take n xs) = omega (arith, length-take n xs) in
    ap (filter is_nonempty) p.first ∙ nonempty_first (take n xs) p.parts some ∙ ap (λ ws. take n xs ∷ ws) p.others

none_step : (t : Bool) (i : ℕ) (n : ℕ) → cond t (Some i) (let o : Option ℕ = None in o) ≡ None → t ≡ false
none_step true i n e = cc
none_step false i n e = refl

-- where none passes, each fails
pub position-None : (p : ℕ → Bool) (xs : List ℕ) → position p xs ≡ None → (k : ℕ) → k < length xs → p (get_or xs k 0) ≡ false
position-None p xs e k lt =
    let far : length xs ≤ position_or_len p xs = ltb-false _ _ (none_step (nat_lt (position_or_len p xs) (length xs)) (position_or_len p xs) 0 e) in
    fails_before_first p xs k 0 (omega arith)

-- a line of separators has no word
pub words_of-none : (xs : List ℕ) → position (λ b. not (is_separator b)) xs ≡ None → words_of xs ≡ []
words_of-none xs e =
    sym (words_of-skip (length xs) xs (λ k lt. not-false (is_separator (get_or xs k 0)) (position-None (λ b. not (is_separator b)) xs e k lt)))
    ∙ ap words_of (drop_all (length xs) xs (omega arith))

pub record WordEnd (n : ℕ) (xs : List ℕ) : Type 0 where
  pub before : (k : ℕ) → k < n → is_separator (get_or xs k 0) ≡ false
  pub within : n ≤ length xs
  pub at : n < length xs → is_separator (get_or xs n 0) ≡ true

word_end : (o : Option ℕ) (xs : List ℕ) → position is_separator xs ≡ o → WordEnd (unwrap_or o (length xs)) xs
word_end (Some i) xs e =
    let f = position-Some is_separator xs i 0 e in
    record { before = f.2; within = omega arith; at = λ _. f.1 }
word_end None xs e = record { before = position-None is_separator xs e; within = omega arith; at = λ lt. absurd (omega arith) }

word_nonempty : (n : ℕ) (xs : List ℕ) → WordEnd n xs → 0 < length xs → is_separator (get_or xs 0 0) ≡ false → 0 < n
word_nonempty zero xs e lt f = let g = e.at lt in cc
word_nonempty (suc n) xs e lt f = omega arith

-- the first word begins at the first byte that is no separator, and goes up to the next that is one
pub words_of-some : (xs : List ℕ) (i : ℕ) (ys : List ℕ) → position (λ b. not (is_separator b)) xs ≡ Some i → ys ≡ drop i xs
    → (e : ℕ) → e ≡ unwrap_or (position is_separator ys) (length ys) → words_of xs ≡ take e ys ∷ words_of (drop e ys)
words_of-some xs i ys at is e end =
    let f = position-Some (λ b. not (is_separator b)) xs i 0 at in
    let w0 : WordEnd (unwrap_or (position is_separator ys) (length ys)) ys = word_end (position is_separator ys) ys refl in
    let P : ℕ → Type 0 = λ n. WordEnd n ys in
    let w : WordEnd e ys = subst P (sym end) w0 in
    let some : 0 < length ys = omega (arith, ap length is, length-drop i xs) in
    let at0 : get_or ys 0 0 ≡ get_or xs i 0 = ap (λ l. get_or l 0 0) is ∙ get_or-drop i xs 0 0 ∙ ap (λ k. get_or xs k 0) (add-zero i) in
    let first : is_separator (get_or ys 0 0) ≡ false = ap is_separator at0 ∙ not-true (is_separator (get_or xs i 0)) f.1 in
    sym (words_of-skip i xs (λ k lt. not-false (is_separator (get_or xs k 0)) (f.2 k lt)))
    ∙ ap words_of (sym is) ∙ words_of-first e ys w.before (word_nonempty e ys w some first) w.within w.at
