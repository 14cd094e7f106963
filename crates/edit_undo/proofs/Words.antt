-- A word is set, and set back.
use Rattle.std.proofs.Common.{◌≡◌, ℕ, suc, ◌+◌, ◌<◌, ◌≤◌, ◌==◌, nat_lt, Bool, true, false, List, [], ◌∷◌, ◌++◌, All, AllPairs, filter, get_or, arith, refl, ap, sym, ◌∙◌, ◌⊎◌, inl, inr, eq-eqb, append-nil}
use Rattle.std.specs.Option.{option_map_or}
use Rattle.std.proofs.lemmas.Bool.Decides.{nat_tests}
use Rattle.std.proofs.lemmas.Bool.{cases_order, ne_eqb}
use Rattle.std.proofs.lemmas.List.Elements.{All-head, All-tail, All-weaker, filter-append}
use Rattle.project_book.specs.declared.words.FirstWord.{FirstWord}
use Rattle.project_book.specs.FirstWords.{IsListing, word_at, with_word, listed, words_below, words_above}
use Rattle.project_book.proofs.Listings.{IsBefore, all_listed, are_below, are_above}
use Rattle.project_book.proofs.Halves.{filter_first, filter_rest, find_none}

none_kept : {X : Type 0} (p : X → Bool) (xs : List X) → All (λ x. p x ≡ false) xs → filter p xs ≡ []
none_kept p xs h = filter_first p xs 0 (λ k d l. absurd (omega (arith, l))) (λ k d l i. h k d i)

all_kept : {X : Type 0} (p : X → Bool) (xs : List X) → All (λ x. p x ≡ true) xs → filter p xs ≡ xs
all_kept p xs h = filter_rest p xs 0 (λ k d l. absurd (omega (arith, l))) (λ k d l i. h k d i)

three_kept : {X : Type 0} (p : X → Bool) (xs ys zs : List X) → filter p (xs ++ ys ++ zs) ≡ filter p xs ++ filter p ys ++ filter p zs
three_kept p xs ys zs = filter-append p (xs ++ ys) zs ∙ ap (λ l. l ++ filter p zs) (filter-append p xs ys)

below_again : (ws : List FirstWord) (a word : ℕ) → words_below (with_word ws a word) a ≡ words_below ws a
below_again ws a word =
    let p : FirstWord → Bool = λ w. nat_lt w.address a in
    let low = all_kept p (words_below ws a) (All-weaker (λ w. w.address < a) (λ w. p w ≡ true) (λ w h. grind (arith, nat_tests)) (words_below ws a) (are_below ws a)) in
    let at = none_kept p (listed a word) (all_listed (λ w. p w ≡ false) a word (λ _. grind (arith, nat_tests))) in
    let high = none_kept p (words_above ws a) (All-weaker (λ w. a + 1 ≤ w.address) (λ w. p w ≡ false) (λ w h. grind (arith, nat_tests)) (words_above ws a) (are_above ws a)) in
    three_kept p (words_below ws a) (listed a word) (words_above ws a) ∙ rw (low, at, high) (append-nil (words_below ws a ++ []) ∙ append-nil (words_below ws a))

above_again : (ws : List FirstWord) (a word : ℕ) → words_above (with_word ws a word) a ≡ words_above ws a
above_again ws a word =
    let p : FirstWord → Bool = λ w. nat_lt a w.address in
    let low = none_kept p (words_below ws a) (All-weaker (λ w. w.address < a) (λ w. p w ≡ false) (λ w h. grind (arith, nat_tests)) (words_below ws a) (are_below ws a)) in
    let at = none_kept p (listed a word) (all_listed (λ w. p w ≡ false) a word (λ _. grind (arith, nat_tests))) in
    let high = all_kept p (words_above ws a) (All-weaker (λ w. a + 1 ≤ w.address) (λ w. p w ≡ true) (λ w h. grind (arith, nat_tests)) (words_above ws a) (are_above ws a)) in
    three_kept p (words_below ws a) (listed a word) (words_above ws a) ∙ rw (low, at, high) refl

-- the last word counts
word_twice : (ws : List FirstWord) (a word last : ℕ) → with_word (with_word ws a word) a last ≡ with_word ws a last
word_twice ws a word last =
    ap (λ low. low ++ listed a last ++ words_above (with_word ws a word) a) (below_again ws a word)
    ∙ ap (λ high. words_below ws a ++ listed a last ++ high) (above_again ws a word)

-- of words that are above an address none is below it, or is its word
none_below : (ws : List FirstWord) (a : ℕ) → All (λ w. a < w.address) ws → words_below ws a ≡ []
none_below ws a h = none_kept (λ w. nat_lt w.address a) ws (All-weaker (λ w. a < w.address) (λ w. nat_lt w.address a ≡ false) (λ w l. grind (arith, nat_tests)) ws h)

all_above : (ws : List FirstWord) (a : ℕ) → All (λ w. a < w.address) ws → words_above ws a ≡ ws
all_above ws a h = all_kept (λ w. nat_lt a w.address) ws (All-weaker (λ w. a < w.address) (λ w. nat_lt a w.address ≡ true) (λ w l. grind (arith, nat_tests)) ws h)

none_at : (ws : List FirstWord) (a : ℕ) → All (λ w. a < w.address) ws → word_at ws a ≡ 0
none_at ws a h =
    ap (λ o. option_map_or (λ w. w.word) o 0)
    (find_none (λ w. w.address == a) ws (record { address = 0; word = 0 })
    (λ k l. let lt : a < (get_or ws k (record { address = 0; word = 0 })).address = h k (record { address = 0; word = 0 }) l in ne_eqb (get_or ws k (record { address = 0; word = 0 })).address a (λ e. omega (arith, lt, e))))

behind_first : (w : FirstWord) (ws : List FirstWord) (a : ℕ) → a ≤ w.address → AllPairs IsBefore (w ∷ ws) → All (λ v. a < v.address) ws
behind_first w ws a le pairs = λ k d l. let x : w.address < (get_or ws k d).address = pairs 0 (suc k) d (omega arith) (omega (arith, l)) in omega (arith, x, le)

-- the word that is there is set
word_kept : (ws : List FirstWord) (a : ℕ) → AllPairs IsBefore ws → All (λ w. 0 < w.word) ws → with_word ws a (word_at ws a) ≡ ws
word_kept [] a pairs some = refl
word_kept (w ∷ ws) a pairs some =
    by_order (cases_order w.address a) (word_kept ws a (λ i j d h l. pairs (suc i) (suc j) d (omega arith) (omega arith)) (All-tail (λ v. 0 < v.word) w ws some))
  where
    by_order : (w.address ≡ a) ⊎ ((w.address < a) ⊎ (a < w.address)) → with_word ws a (word_at ws a) ≡ ws → with_word (w ∷ ws) a (word_at (w ∷ ws) a) ≡ w ∷ ws
    by_order (inl e) ih =
        let later = behind_first w ws a (omega (arith, e)) pairs in
        let low : nat_lt w.address a ≡ false = grind (arith, nat_tests) in
        let high : nat_lt a w.address ≡ false = grind (arith, nat_tests) in
        let here : (w.address == a) ≡ true = eq-eqb w.address a e in
        let word : 0 < w.word = All-head (λ v. 0 < v.word) w ws some in
        let full : (w.word == 0) ≡ false = grind (arith, nat_tests) in
        rw (low, high, here, none_below ws a later, all_above ws a later, full) (ap (λ x. record { address = x; word = w.word } ∷ ws) (sym e))
    by_order (inr (inl lt)) ih =
        let low : nat_lt w.address a ≡ true = grind (arith, nat_tests) in
        let high : nat_lt a w.address ≡ false = grind (arith, nat_tests) in
        let here : (w.address == a) ≡ false = ne_eqb w.address a (λ e. omega (arith, lt, e)) in
        rw (low, high, here) (ap (λ l. w ∷ l) ih)
    by_order (inr (inr gt)) ih =
        let later = behind_first w ws a (omega (arith, gt)) pairs in
        let low : nat_lt w.address a ≡ false = grind (arith, nat_tests) in
        let high : nat_lt a w.address ≡ true = grind (arith, nat_tests) in
        let here : (w.address == a) ≡ false = ne_eqb w.address a (λ e. omega (arith, gt, e)) in
        let none : word_at ws a ≡ 0 = none_at ws a later in
        rw (low, high, here, none, none_below ws a later, all_above ws a later) refl

pub word_back : (ws : List FirstWord) (a word : ℕ) → IsListing ws → with_word (with_word ws a word) a (word_at ws a) ≡ ws
word_back ws a word listing = word_twice ws a word (word_at ws a) ∙ word_kept ws a listing.ascending listing.nonzero
