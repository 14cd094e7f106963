-- The list of first words stays in order.
use Rattle.std.proofs.Common.{◌≡◌, ℕ, ◌+◌, suc, ◌<◌, ◌≤◌, ◌==◌, nat_lt, Bool, true, false, cond, List, [], ◌∷◌, ◌++◌, All, arith, refl}
use Rattle.std.specs.Prelude.{AllPairs}
use Rattle.std.proofs.lemmas.Bool.Decides.{nat_tests}
use Rattle.std.proofs.lemmas.List.Elements.{All-nil, All-cons, All-head, All-tail, All-append, All-filter, All-weaker, filter_passes}
use Rattle.std.proofs.lemmas.List.Kept.{AllPairs-cons, AllPairs-filter}
use Rattle.page_map.specs.Limits.{address_count}
use Rattle.project_book.specs.declared.words.FirstWord.{FirstWord}
use Rattle.project_book.specs.FirstWords.{IsListing, with_word, listed, words_below, words_above}

pub pairs_append : {X : Type 0} (R : X → X → Type 0) → (xs ys : List X) → AllPairs R xs → AllPairs R ys → All (λ x. All (R x) ys) xs → AllPairs R (xs ++ ys)
pairs_append R [] ys hx hy cross = hy
pairs_append R (x ∷ xs) ys hx hy cross =
    AllPairs-cons R x (xs ++ ys) (All-append (R x) xs ys (λ k d h. hx 0 (suc k) d (omega arith) (omega arith)) (All-head (λ y. All (R y) ys) x xs cross)) (pairs_append R xs ys (λ i j d h l. hx (suc i) (suc j) d (omega arith) (omega arith)) hy (All-tail (λ y. All (R y) ys) x xs cross))

abbrev pub IsBefore : FirstWord → FirstWord → Type 0
IsBefore v w = v.address < w.address

-- words below an address stand before words from it on
pub all_before : (xs ys : List FirstWord) (a : ℕ) → All (λ v. v.address < a) xs → All (λ w. a ≤ w.address) ys → All (λ v. All (IsBefore v) ys) xs
all_before xs ys a low high = λ k d h j e l. let x = low k d h in let y = high j e l in omega arith

pub are_below : (ws : List FirstWord) (a : ℕ) → All (λ w. w.address < a) (words_below ws a)
are_below ws a =
    All-weaker (λ w. nat_lt w.address a ≡ true) (λ w. w.address < a) (λ w h. grind (arith, nat_tests)) (words_below ws a) (filter_passes (λ w. nat_lt w.address a) ws)

pub are_above : (ws : List FirstWord) (a : ℕ) → All (λ w. a + 1 ≤ w.address) (words_above ws a)
are_above ws a =
    All-weaker (λ w. nat_lt a w.address ≡ true) (λ w. a + 1 ≤ w.address) (λ w h. grind (arith, nat_tests)) (words_above ws a) (filter_passes (λ w. nat_lt a w.address) ws)

-- what holds of an address and its word, where that isn't 0, holds of each word listed for it
pub all_listed : (P : FirstWord → Type 0) (a word : ℕ) → (0 < word → P (record { address = a; word = word })) → All P (listed a word)
all_listed P a word holds = by_word (word == 0) (grind (arith, nat_tests))
  where
    by_word : (zero : Bool) → (zero ≡ false → 0 < word) → All P (cond zero [] (record { address = a; word = word } ∷ []))
    by_word true some = All-nil P
    by_word false some = All-cons P (record { address = a; word = word }) [] (holds (some refl)) (All-nil P)

pub pairs_listed : (a word : ℕ) → AllPairs IsBefore (listed a word)
pairs_listed a word = by_word (word == 0)
  where
    by_word : (zero : Bool) → AllPairs IsBefore (cond zero [] (record { address = a; word = word } ∷ []))
    by_word true = λ i j d h l. absurd (omega arith)
    by_word false = λ i j d h l. absurd (omega arith)

pub listing_with_word : (ws : List FirstWord) (a word : ℕ) → a < address_count → IsListing ws → IsListing (with_word ws a word)
listing_with_word ws a word there listing =
    let low = words_below ws a in
    let at = listed a word in
    let high = words_above ws a in
    let at_least = all_listed (λ w. a ≤ w.address) a word (λ _. omega arith) in
    let below = All-append (λ w. w.address < a + 1) low at (All-weaker (λ w. w.address < a) (λ w. w.address < a + 1) (λ w h. omega arith) low (are_below ws a)) (all_listed (λ w. w.address < a + 1) a word (λ _. omega arith)) in
    record {
      ascending = pairs_append IsBefore (low ++ at) high (pairs_append IsBefore low at (AllPairs-filter IsBefore _ ws listing.ascending) (pairs_listed a word) (all_before low at a (are_below ws a) at_least)) (AllPairs-filter IsBefore _ ws listing.ascending) (all_before (low ++ at) high (a + 1) below (are_above ws a));
      within = All-append (λ w. w.address < address_count) (low ++ at) high (All-append (λ w. w.address < address_count) low at (All-filter _ (λ w. w.address < address_count) ws listing.within) (all_listed (λ w. w.address < address_count) a word (λ _. there))) (All-filter _ (λ w. w.address < address_count) ws listing.within);
      nonzero = All-append (λ w. 0 < w.word) (low ++ at) high (All-append (λ w. 0 < w.word) low at (All-filter _ (λ w. 0 < w.word) ws listing.nonzero) (all_listed (λ w. 0 < w.word) a word (λ h. h))) (All-filter _ (λ w. 0 < w.word) ws listing.nonzero);
    }
