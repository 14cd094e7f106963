-- What a search by halves finds in a list of first words.
use Rattle.std.proofs.Common.{◌≡◌, ℕ, zero, suc, ◌+◌, ◌-◌, ◌<◌, ◌≤◌, ◌==◌, nat_lt, sym, ap, subst, refl, arith, Bool, true, false, ◌⊎◌, inl, inr, None, Some, List, [], ◌∷◌, length, get_or, take, drop}
use Rattle.std.specs.Prelude.{filter, find}
use Rattle.std.proofs.lemmas.Bool.{cases_lt, cases_eq, ne_eqb}
use Rattle.std.proofs.lemmas.Bool.Decides.{nat_tests}
use Rattle.project_book.specs.declared.words.FirstWord.{FirstWord}
use Rattle.project_book.specs.FirstWords.{IsListing, IsSplit, words_below, words_above}

module _ {X : Type 0} (p : X → Bool) where
  -- the first n pass and the others don't
  pub filter_first : (xs : List X) (n : ℕ) → ((k : ℕ) (d : X) → k < n → k < length xs → p (get_or xs k d) ≡ true) → ((k : ℕ) (d : X) → n ≤ k → k < length xs → p (get_or xs k d) ≡ false) → filter p xs ≡ take n xs
  filter_first [] zero low high = refl
  filter_first [] (suc n) low high = refl
  filter_first (x ∷ xs) zero low high =
      rw (high 0 x (omega arith) (omega arith)) (filter_first xs zero (λ k d l i. absurd (omega (arith, l))) (λ k d l i. high (suc k) d (omega arith) (omega (arith, i))))
  filter_first (x ∷ xs) (suc n) low high =
      rw (low 0 x (omega arith) (omega arith)) (ap (λ ys. x ∷ ys) (filter_first xs n (λ k d l i. low (suc k) d (omega (arith, l)) (omega (arith, i))) (λ k d l i. high (suc k) d (omega (arith, l)) (omega (arith, i)))))

  -- the first n don't pass and the others do
  pub filter_rest : (xs : List X) (n : ℕ) → ((k : ℕ) (d : X) → k < n → k < length xs → p (get_or xs k d) ≡ false) → ((k : ℕ) (d : X) → n ≤ k → k < length xs → p (get_or xs k d) ≡ true) → filter p xs ≡ drop n xs
  filter_rest [] zero low high = refl
  filter_rest [] (suc n) low high = refl
  filter_rest (x ∷ xs) zero low high =
      rw (high 0 x (omega arith) (omega arith)) (ap (λ ys. x ∷ ys) (filter_rest xs zero (λ k d l i. absurd (omega (arith, l))) (λ k d l i. high (suc k) d (omega arith) (omega (arith, i)))))
  filter_rest (x ∷ xs) (suc n) low high =
      rw (low 0 x (omega arith) (omega arith)) (filter_rest xs n (λ k d l i. low (suc k) d (omega (arith, l)) (omega (arith, i))) (λ k d l i. high (suc k) d (omega (arith, l)) (omega (arith, i))))

  pub find_at : (xs : List X) (n : ℕ) (d : X) → n < length xs → ((k : ℕ) (d : X) → k < n → k < length xs → p (get_or xs k d) ≡ false) → p (get_or xs n d) ≡ true → find p xs ≡ Some (get_or xs n d)
  find_at [] n d h low e = absurd (omega (arith, h))
  find_at (x ∷ xs) zero d h low e = rw e refl
  find_at (x ∷ xs) (suc n) d h low e = rw (low 0 x (omega arith) (omega arith)) (find_at xs n d (omega (arith, h)) (λ k d l i. low (suc k) d (omega (arith, l)) (omega (arith, i))) e)

  pub find_none : (xs : List X) (d : X) → ((k : ℕ) → k < length xs → p (get_or xs k d) ≡ false) → find p xs ≡ None
  find_none [] d all = refl
  find_none (x ∷ xs) d all = rw (all 0 (omega arith)) (find_none xs d (λ k i. all (suc k) (omega (arith, i))))

module _ (ws : List FirstWord) (listing : IsListing ws) where
  low : (a n : ℕ) → IsSplit ws a n → (k : ℕ) (d : FirstWord) → k < n → (get_or ws k d).address < a
  low a n split k d h = by_place (cases_eq k (n - 1))
    where
      last : (get_or ws (n - 1) d).address < a
      last = split.below d (omega (arith, h))

      by_place : (k ≡ n - 1) ⊎ (k ≡ n - 1 → ⊥) → (get_or ws k d).address < a
      by_place (inl e) = subst (λ i. (get_or ws i d).address < a) (sym e) last
      by_place (inr e) = let l : (get_or ws k d).address < (get_or ws (n - 1) d).address = listing.ascending k (n - 1) d (omega (arith, h, e)) (omega (arith, h, split.few)) in omega (arith, l, last)

  high : (a n : ℕ) → IsSplit ws a n → (k : ℕ) (d : FirstWord) → n ≤ k → k < length ws → a ≤ (get_or ws k d).address
  high a n split k d h i = by_place (cases_eq k n)
    where
      first : a ≤ (get_or ws n d).address
      first = split.from d (omega (arith, h, i))

      by_place : (k ≡ n) ⊎ (k ≡ n → ⊥) → a ≤ (get_or ws k d).address
      by_place (inl e) = subst (λ m. a ≤ (get_or ws m d).address) (sym e) first
      by_place (inr e) = let l : (get_or ws n d).address < (get_or ws k d).address = listing.ascending n k d (omega (arith, h, e)) i in omega (arith, l, first)

  pub below_taken : (a n : ℕ) → IsSplit ws a n → words_below ws a ≡ take n ws
  below_taken a n split =
      filter_first (λ w. nat_lt w.address a) ws n (λ k d l i. let h : (get_or ws k d).address < a = low a n split k d l in grind (arith, nat_tests)) (λ k d l i. let h : a ≤ (get_or ws k d).address = high a n split k d l i in grind (arith, nat_tests))

  pub above_dropped : (a n : ℕ) → IsSplit ws (a + 1) n → words_above ws a ≡ drop n ws
  above_dropped a n split =
      filter_rest (λ w. nat_lt a w.address) ws n (λ k d l i. let h : (get_or ws k d).address < a + 1 = low (a + 1) n split k d l in grind (arith, nat_tests)) (λ k d l i. let h : a + 1 ≤ (get_or ws k d).address = high (a + 1) n split k d l i in grind (arith, nat_tests))

  pub word_there : (a n : ℕ) (d : FirstWord) → IsSplit ws a n → n < length ws → (get_or ws n d).address ≡ a → find (λ w. w.address == a) ws ≡ Some (get_or ws n d)
  word_there a n d split h e =
      find_at (λ w. w.address == a) ws n d h (λ k d l i. let less : (get_or ws k d).address < a = low a n split k d l in grind (arith, nat_tests)) (grind (arith, nat_tests))

  pub word_missing : (a n : ℕ) (d : FirstWord) → IsSplit ws a n → (n < length ws → (get_or ws n d).address ≡ a → ⊥) → find (λ w. w.address == a) ws ≡ None
  word_missing a n d split other = find_none (λ w. w.address == a) ws d each
    where
      each : (k : ℕ) → k < length ws → ((get_or ws k d).address == a) ≡ false
      each k i = by_place (cases_lt k n) (cases_eq k n)
        where
          by_place : (k < n) ⊎ (n ≤ k) → (k ≡ n) ⊎ (k ≡ n → ⊥) → ((get_or ws k d).address == a) ≡ false
          by_place (inl l) e = let less : (get_or ws k d).address < a = low a n split k d l in grind (arith, nat_tests)
          by_place (inr l) (inl e) = let ne : (get_or ws k d).address ≡ a → ⊥ = λ q. other (omega (arith, e, i)) (subst (λ m. (get_or ws m d).address ≡ a) e q) in ne_eqb (get_or ws k d).address a ne
          by_place (inr l) (inr e) =
              let from : a ≤ (get_or ws n d).address = split.from d (omega (arith, l, i)) in
              let more : (get_or ws n d).address < (get_or ws k d).address = listing.ascending n k d (omega (arith, l, e)) i in
              grind (arith, nat_tests)
