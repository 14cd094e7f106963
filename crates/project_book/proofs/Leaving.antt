-- What a list, a script or the first words show at other places than the one that was changed.
use Rattle.std.proofs.Common.{◌≡◌, ◌≢◌, ◌⊎◌, ℕ, zero, suc, ◌<◌, ◌≤◌, ◌==◌, nat_lt, Bool, true, false, cond, List, [], ◌∷◌, ◌++◌, length, take, drop, filter, find, Option, Some, None, slice_get, slice_set, arith, refl, ap, sym, ◌∙◌, inl, inr}
use Rattle.std.specs.Option.{option_or, option_map_or}
use Rattle.std.proofs.lemmas.Bool.Decides.{nat_tests}
use Rattle.std.proofs.lemmas.Bool.{cases_lt, ne_eqb}
use Rattle.std.proofs.lemmas.List.Folds.{find-append}
use Rattle.project_book.specs.declared.words.FirstWord.{FirstWord}
use Rattle.project_book.specs.FirstWords.{word_at, with_word, listed, words_below, words_above}

-- an element is set, or put at the end
pub put_other : {X : Type 0} (xs : List X) (i j : ℕ) (x : X) → i ≤ length xs → j ≢ i → slice_get (take i xs ++ x ∷ drop (suc i) xs) j ≡ slice_get xs j
put_other [] zero zero x h ne = absurd (ne refl)
put_other [] zero (suc j) x h ne = refl
put_other [] (suc i) j x h ne = absurd (omega arith)
put_other (y ∷ ys) zero zero x h ne = absurd (ne refl)
put_other (y ∷ ys) zero (suc j) x h ne = refl
put_other (y ∷ ys) (suc i) zero x h ne = refl
put_other (y ∷ ys) (suc i) (suc j) x h ne = put_other ys i j x (omega arith) (λ same. ne (ap suc same))

-- an element is set
pub set_other : {X : Type 0} (xs : List X) (i j : ℕ) (x : X) → j ≢ i → slice_get (slice_set xs i x) j ≡ slice_get xs j
set_other [] i j x ne = refl
set_other (y ∷ ys) zero zero x ne = absurd (ne refl)
set_other (y ∷ ys) zero (suc j) x ne = refl
set_other (y ∷ ys) (suc i) zero x ne = refl
set_other (y ∷ ys) (suc i) (suc j) x ne = set_other ys i j x (λ same. ne (ap suc same))

-- the first elements are kept
pub take_below : {X : Type 0} (xs : List X) (n j : ℕ) → j < n → slice_get (take n xs) j ≡ slice_get xs j
take_below xs zero j h = absurd (omega arith)
take_below [] (suc n) j h = refl
take_below (x ∷ xs) (suc n) zero h = refl
take_below (x ∷ xs) (suc n) (suc j) h = take_below xs n j (omega arith)

-- a filter keeps what a search finds, or leaves it out
find_kept : {X : Type 0} (test p : X → Bool) → ((x : X) → test x ≡ true → p x ≡ true) → (xs : List X) → find test (filter p xs) ≡ find test xs
find_kept test p keeps [] = refl
find_kept test p keeps (x ∷ xs) = by_tests (test x) (p x) refl (keeps x) (find_kept test p keeps xs)
  where
    by_tests : (found kept : Bool) → test x ≡ found → (found ≡ true → kept ≡ true) → find test (filter p xs) ≡ find test xs → find test (cond kept (x ∷ filter p xs) (filter p xs)) ≡ cond found (Some x) (find test xs)
    by_tests true true e keep rest = rw e refl
    by_tests true false e keep rest = let h = keep refl in absurd (cc)
    by_tests false true e keep rest = rw e rest
    by_tests false false e keep rest = rest

find_left : {X : Type 0} (test p : X → Bool) → ((x : X) → test x ≡ true → p x ≡ false) → (xs : List X) → find test (filter p xs) ≡ None
find_left test p leaves [] = refl
find_left test p leaves (x ∷ xs) = by_tests (test x) (p x) refl (leaves x) (find_left test p leaves xs)
  where
    by_tests : (found kept : Bool) → test x ≡ found → (found ≡ true → kept ≡ false) → find test (filter p xs) ≡ None → find test (cond kept (x ∷ filter p xs) (filter p xs)) ≡ None
    by_tests true true e leave rest = let h = leave refl in absurd (cc)
    by_tests true false e leave rest = rest
    by_tests false true e leave rest = rw e rest
    by_tests false false e leave rest = rest

-- a search for an address among the words of another one
pub find_listed : (a word b : ℕ) → b ≢ a → find (λ w. w.address == b) (listed a word) ≡ None
find_listed a word b ne = by_word (word == 0)
  where
    by_word : (zero : Bool) → find (λ (w : FirstWord). w.address == b) (cond zero [] (record { address = a; word = word } ∷ [])) ≡ None
    by_word true = refl
    by_word false = rw (ne_eqb a b (λ same. ne (sym same))) refl

or_none : (o : Option FirstWord) → option_or (option_or o None) None ≡ o
or_none None = refl
or_none (Some w) = refl

pub word_other : (ws : List FirstWord) (a word b : ℕ) → b ≢ a → word_at (with_word ws a word) b ≡ word_at ws b
word_other ws a word b ne =
    let test : FirstWord → Bool = λ w. w.address == b in
    let split = find-append test (words_below ws a ++ listed a word) (words_above ws a) in
    let front = find-append test (words_below ws a) (listed a word) in
    let at = find_listed a word b ne in
    ap (λ (o : Option FirstWord). option_map_or (λ w. w.word) o 0) (split ∙ by_side (cases_lt b a) front at)
  where
    test : FirstWord → Bool
    test w = w.address == b

    by_side : (b < a) ⊎ (a ≤ b) → find test (words_below ws a ++ listed a word) ≡ option_or (find test (words_below ws a)) (find test (listed a word)) → find test (listed a word) ≡ None → option_or (find test (words_below ws a ++ listed a word)) (find test (words_above ws a)) ≡ find test ws
    by_side (inl low) front at =
        let kept = find_kept test (λ w. nat_lt w.address a) (λ w h. grind (arith, nat_tests)) ws in
        let gone = find_left test (λ w. nat_lt a w.address) (λ w h. grind (arith, nat_tests)) ws in
        rw (front, at, kept, gone) (or_none (find test ws))
    by_side (inr high) front at =
        let gone = find_left test (λ w. nat_lt w.address a) (λ w h. grind (arith, nat_tests)) ws in
        let kept = find_kept test (λ w. nat_lt a w.address) (λ w h. grind (arith, nat_tests)) ws in
        rw (front, at, kept, gone) refl
