-- First words in pages, and the list that they are.
use Rattle.std.proofs.Common.{◌≡◌, ℕ, zero, suc, ◌+◌, ◌*◌, ◌/◌, ◌%◌, ◌<◌, ◌≤◌, ◌==◌, ◌∙◌, nat_lt, Bool, true, false, cond, List, [], ◌∷◌, ◌++◌, All, AllPairs, length, get_or, set, Option, None, Some, find, arith, refl, ap, sym, subst, ◌⊎◌, inl, inr, eq-eqb}
use Rattle.std.specs.Option.{option_or, option_map_or}
use Rattle.std.proofs.lemmas.Bool.{cases_eq, cases_order, eqb-true, eqb-false, ne_eqb}
use Rattle.std.proofs.lemmas.Bool.Decides.{nat_tests}
use Rattle.std.proofs.lemmas.List.Elements.{All-nil, All-head, All-tail, All-append, All-weaker}
use Rattle.std.proofs.lemmas.List.Folds.{find-append}
use Rattle.std.proofs.lemmas.List.{get_or-set_same, get_or-set_other}
use Rattle.page_map.specs.Limits.{address_count, page_count, page_words}
use Rattle.project_book.specs.declared.words.FirstWord.{FirstWord}
use Rattle.project_book.specs.FirstWords.{IsListing, word_at, with_word, listed, words_below, words_above, listed_below, word_on, word_among, paged}
use Rattle.project_book.proofs.Listings.{IsBefore, pairs_append, pairs_listed, all_before, all_listed, are_below, are_above, listing_with_word}
use Rattle.project_book.proofs.Halves.{filter_first, filter_rest, find_none}
use Rattle.project_book.proofs.Leaving.{find_listed, word_other}

abbrev blank : FirstWord
blank = record { address = 0; word = 0 }

abbrev pub value : Option FirstWord → ℕ
value o = option_map_or (λ w. w.word) o 0

or_none : (o : Option FirstWord) → option_or o None ≡ o
or_none None = refl
or_none (Some w) = refl

-- an address has the word that is listed for it alone
word_listed : (a word : ℕ) → value (find (λ w. w.address == a) (listed a word)) ≡ word
word_listed a word = by_word (word == 0) refl
  where
    by_word : (zero : Bool) → (word == 0) ≡ zero → value (find (λ (w : FirstWord). w.address == a) (cond zero [] (record { address = a; word = word } ∷ []))) ≡ word
    by_word true e = sym (eqb-true word 0 e)
    by_word false e = rw (eq-eqb a a refl) refl

module _ (f : ℕ → ℕ) where
  all_below : (n : ℕ) → All (λ w. w.address < n) (listed_below f n)
  unfolding listed_below
  all_below zero = All-nil (λ w. w.address < zero)
  all_below (suc n) =
      All-append (λ w. w.address < suc n) (listed_below f n) (listed n (f n))
      (All-weaker (λ w. w.address < n) (λ w. w.address < suc n) (λ w h. omega arith) (listed_below f n) (all_below n)) (all_listed (λ w. w.address < suc n) n (f n) (λ _. omega arith))

  listing_below : (n : ℕ) → n ≤ address_count → IsListing (listed_below f n)
  unfolding listed_below
  listing_below zero h = record { ascending = λ i j d h l. absurd (omega arith); within = All-nil (λ w. w.address < address_count); nonzero = All-nil (λ w. 0 < w.word) }
  listing_below (suc n) h =
      let before = listing_below n (omega (arith, h)) in
      let ws = listed_below f n in
      record {
        ascending = pairs_append IsBefore ws (listed n (f n)) before.ascending (pairs_listed n (f n)) (all_before ws (listed n (f n)) n (all_below n) (all_listed (λ w. n ≤ w.address) n (f n) (λ _. omega arith)));
        within = All-append (λ w. w.address < address_count) ws (listed n (f n)) before.within (all_listed (λ w. w.address < address_count) n (f n) (λ _. omega (arith, h)));
        nonzero = All-append (λ w. 0 < w.word) ws (listed n (f n)) before.nonzero (all_listed (λ w. 0 < w.word) n (f n) (λ some. some));
      }

  none_from : (n a : ℕ) → n ≤ a → find (λ w. w.address == a) (listed_below f n) ≡ None
  none_from n a h =
      find_none (λ w. w.address == a) (listed_below f n) blank
      (λ k l. let lt : (get_or (listed_below f n) k blank).address < n = all_below n k blank l in ne_eqb (get_or (listed_below f n) k blank).address a (λ e. omega (arith, lt, e, h)))

  word_below : (n a : ℕ) → a < n → word_at (listed_below f n) a ≡ f a
  unfolding listed_below
  word_below zero a h = absurd (omega (arith, h))
  word_below (suc n) a h = ap value (find-append (λ w. w.address == a) (listed_below f n) (listed n (f n))) ∙ by_place (cases_eq a n) (word_below n a)
    where
      by_place : (a ≡ n) ⊎ (a ≡ n → ⊥) → (a < n → word_at (listed_below f n) a ≡ f a)
          → value (option_or (find (λ w. w.address == a) (listed_below f n)) (find (λ w. w.address == a) (listed n (f n)))) ≡ f a
      by_place (inl e) ih =
          rw (none_from n a (omega (arith, e))) (subst (λ m. value (find (λ w. w.address == a) (listed m (f m))) ≡ f a) e (word_listed a (f a)))
      by_place (inr ne) ih = rw (find_listed n (f n) a ne, or_none (find (λ w. w.address == a) (listed_below f n))) (ih (omega (arith, h, ne)))

same_below : (f g : ℕ → ℕ) (n : ℕ) → ((a : ℕ) → a < n → f a ≡ g a) → listed_below f n ≡ listed_below g n
unfolding listed_below
same_below f g zero h = refl
same_below f g (suc n) h =
    ap (λ ws. ws ++ listed n (f n)) (same_below f g n (λ a l. h a (omega (arith, l)))) ∙ ap (λ word. listed_below g n ++ listed n word) (h n (omega arith))

-- no word stands below the first one
none_below : (ws : List FirstWord) (n : ℕ) → All (λ w. n ≤ w.address) ws → words_below ws n ≡ []
none_below ws n high =
    filter_first (λ w. nat_lt w.address n) ws 0 (λ k d l. absurd (omega (arith, l))) (λ k d l i. let h : n ≤ (get_or ws k d).address = high k d i in grind (arith, nat_tests))

below_more : (ws : List FirstWord) (n : ℕ) → AllPairs IsBefore ws → All (λ w. 0 < w.word) ws → words_below ws (suc n) ≡ words_below ws n ++ listed n (word_at ws n)
below_more [] n pairs some = refl
below_more (w ∷ ws) n pairs some =
    by_order (cases_order w.address n) (below_more ws n (λ i j d h l. pairs (suc i) (suc j) d (omega arith) (omega arith)) (All-tail (λ v. 0 < v.word) w ws some))
  where
    by_order : (w.address ≡ n) ⊎ ((w.address < n) ⊎ (n < w.address)) → words_below ws (suc n) ≡ words_below ws n ++ listed n (word_at ws n)
        → words_below (w ∷ ws) (suc n) ≡ words_below (w ∷ ws) n ++ listed n (word_at (w ∷ ws) n)
    by_order (inl e) ih =
        let later : All (λ v. suc n ≤ v.address) ws = λ k d h. let x : w.address < (get_or ws k d).address = pairs 0 (suc k) d (omega arith) (omega (arith, h)) in omega (arith, x, e) in
        let from : All (λ v. n ≤ v.address) ws = All-weaker (λ v. suc n ≤ v.address) (λ v. n ≤ v.address) (λ v h. omega arith) ws later in
        let in_more : nat_lt w.address (suc n) ≡ true = grind (arith, nat_tests) in
        let in_less : nat_lt w.address n ≡ false = grind (arith, nat_tests) in
        let here : (w.address == n) ≡ true = eq-eqb w.address n e in
        let word : 0 < w.word = All-head (λ v. 0 < v.word) w ws some in
        let some : (w.word == 0) ≡ false = grind (arith, nat_tests) in
        rw (in_more, in_less, here, none_below ws (suc n) later, none_below ws n from, some) (ap (λ a. record { address = a; word = w.word } ∷ []) e)
    by_order (inr (inl lt)) ih =
        let in_more : nat_lt w.address (suc n) ≡ true = grind (arith, nat_tests) in
        let in_less : nat_lt w.address n ≡ true = grind (arith, nat_tests) in
        let here : (w.address == n) ≡ false = ne_eqb w.address n (λ e. omega (arith, lt, e)) in
        rw (in_more, in_less, here) (ap (λ vs. w ∷ vs) ih)
    by_order (inr (inr gt)) ih =
        let in_more : nat_lt w.address (suc n) ≡ false = grind (arith, nat_tests) in
        let in_less : nat_lt w.address n ≡ false = grind (arith, nat_tests) in
        let here : (w.address == n) ≡ false = ne_eqb w.address n (λ e. omega (arith, gt, e)) in
        rw (in_more, in_less, here) ih

listing_is : (ws : List FirstWord) (n : ℕ) → IsListing ws → words_below ws n ≡ listed_below (word_at ws) n
unfolding listed_below
listing_is ws zero h = none_below ws 0 (λ k d l. omega arith)
listing_is ws (suc n) h = below_more ws n h.ascending h.nonzero ∙ ap (λ vs. vs ++ listed n (word_at ws n)) (listing_is ws n h)

all_there : (ws : List FirstWord) (n : ℕ) → All (λ w. w.address < n) ws → words_below ws n ≡ ws
all_there ws n within =
    filter_rest (λ w. nat_lt w.address n) ws 0 (λ k d l. absurd (omega (arith, l))) (λ k d l i. let h : (get_or ws k d).address < n = within k d i in grind (arith, nat_tests))

module _ (pages : List (Option (List ℕ))) where
  pub paged_listing : IsListing (paged pages)
  unfolding paged
  paged_listing = listing_below (word_among pages) address_count (omega arith)

  pub paged_word : (a : ℕ) → a < address_count → word_at (paged pages) a ≡ word_among pages a
  unfolding paged
  paged_word a h = word_below (word_among pages) address_count a h

  pub paged_past : (a : ℕ) → address_count ≤ a → word_at (paged pages) a ≡ 0
  unfolding paged
  paged_past a h = ap value (none_from (word_among pages) address_count a h)

  -- pages with the words of a listing are that listing
  pub paged_as : (ws : List FirstWord) → IsListing ws → ((a : ℕ) → a < address_count → word_among pages a ≡ word_at ws a) → paged pages ≡ ws
  unfolding paged
  paged_as ws h same =
      same_below (word_among pages) (word_at ws) address_count same ∙ sym (listing_is ws address_count h) ∙ all_there ws address_count h.within

pub paged_same : (pages others : List (Option (List ℕ))) → ((a : ℕ) → a < address_count → word_among pages a ≡ word_among others a) → paged pages ≡ paged others
paged_same pages others same = paged_as pages (paged others) (paged_listing others) (λ a h. same a h ∙ sym (paged_word others a h))

pub paged_alike : (pages others : List (Option (List ℕ))) → paged pages ≡ paged others → (a : ℕ) → a < address_count → word_among pages a ≡ word_among others a
paged_alike pages others e a h = sym (paged_word pages a h) ∙ ap (λ ws. word_at ws a) e ∙ paged_word others a h

word_same : (ws : List FirstWord) (a word : ℕ) → word_at (with_word ws a word) a ≡ word
word_same ws a word =
    let test : FirstWord → Bool = λ w. w.address == a in
    let low : find test (words_below ws a) ≡ None = find_none test (words_below ws a) blank (λ k l. let lt : (get_or (words_below ws a) k blank).address < a = are_below ws a k blank l in ne_eqb (get_or (words_below ws a) k blank).address a (λ e. omega (arith, lt, e))) in
    let high : find test (words_above ws a) ≡ None = find_none test (words_above ws a) blank (λ k l. let gt : a + 1 ≤ (get_or (words_above ws a) k blank).address = are_above ws a k blank l in ne_eqb (get_or (words_above ws a) k blank).address a (λ e. omega (arith, gt, e))) in
    ap value (find-append test (words_below ws a ++ listed a word) (words_above ws a) ∙ ap (λ o. option_or o (find test (words_above ws a))) (find-append test (words_below ws a) (listed a word)))
    ∙ rw (low, high, or_none (find test (listed a word))) (word_listed a word)

-- pages in which one address has another word
pub paged_with : (pages edited : List (Option (List ℕ))) (a word : ℕ) → a < address_count
    → ((b : ℕ) → b < address_count → word_among edited b ≡ cond (b == a) word (word_among pages b)) → paged edited ≡ with_word (paged pages) a word
paged_with pages edited a word there each =
    paged_as edited (with_word (paged pages) a word) (listing_with_word (paged pages) a word there (paged_listing pages)) (λ b h. each b h ∙ by_test b h (b == a) refl)
  where
    by_test : (b : ℕ) → b < address_count → (t : Bool) → (b == a) ≡ t → cond t word (word_among pages b) ≡ word_at (with_word (paged pages) a word) b
    by_test b h true e = sym (ap (word_at (with_word (paged pages) a word)) (eqb-true b a e) ∙ word_same (paged pages) a word)
    by_test b h false e = sym (word_other (paged pages) a word b (eqb-false b a e) ∙ paged_word pages b h)

-- what a page shows
pub page_shows : (pages : List (Option (List ℕ))) (g o : ℕ) → g < page_count → o < page_words → word_on (get_or pages g None) o ≡ word_at (paged pages) (page_words * g + o)
page_shows pages g o there within =
    let at : (page_words * g + o) / page_words ≡ g = omega (arith, within) in
    let left : (page_words * g + o) % page_words ≡ o = omega (arith, within) in
    sym (paged_word pages (page_words * g + o) (omega (arith, there, within)) ∙ ap (λ i. word_on (get_or pages i None) ((page_words * g + o) % page_words)) at ∙ ap (word_on (get_or pages g None)) left)

-- no pages, no words
pub paged_none : paged [] ≡ []
paged_none = paged_as [] [] (record { ascending = λ i j d h l. absurd (omega arith); within = All-nil (λ w. w.address < address_count); nonzero = All-nil (λ w. 0 < w.word) }) (λ a h. refl)

-- a page in which one offset has another word
pub word_set : (page : Option (List ℕ)) (words : List ℕ) (i word : ℕ) → i < length words → ((o : ℕ) → o < page_words → get_or words o 0 ≡ word_on page o)
    → (o : ℕ) → o < page_words → get_or (set words i word) o 0 ≡ cond (o == i) word (word_on page o)
word_set page words i word there same o within = by_test (o == i) refl
  where
    by_test : (t : Bool) → (o == i) ≡ t → get_or (set words i word) o 0 ≡ cond t word (word_on page o)
    by_test true e = ap (λ k. get_or (set words i word) k 0) (eqb-true o i e) ∙ get_or-set_same words i word 0 there
    by_test false e = get_or-set_other words i o word 0 (eqb-false o i e) ∙ same o within
