-- Pages that are looked up, shared, copied and compared.
use Rattle.std.proofs.Common.{◌≡◌, ◌↔◌, ℕ, ◌+◌, ◌*◌, ◌/◌, ◌%◌, ◌<◌, ◌≤◌, ◌==◌, ◌∙◌, Bool, true, false, cond, IsTrue, List, [], ◌∷◌, ◌++◌, map, length, get_or, set, Option, None, Some, arith, refl, ap, sym, subst, ◌⊎◌, inl, inr, eq-eqb}
use Rattle.std.proofs.lemmas.Bool.{cases_lt, cases_eq, ne_eqb}
use Rattle.std.proofs.lemmas.List.{get_or-set_same, get_or-set_other, get_or_append_left, get_or_push, get_or_past, map-append, map-set, length-map}
use Rattle.page_map.specs.Limits.{address_count, page_count, page_words}
use Rattle.project_book.specs.declared.words.FirstWord.{FirstWord}
use Rattle.project_book.specs.FirstWords.{IsListing, IsSplit, word_at, word_on, word_among, paged}
use Rattle.project_book.proofs.Halves.{word_missing}
use Rattle.project_book.proofs.Paging.{value, paged_as, paged_same, paged_alike}

among_page : (pages : List (Option (List ℕ))) (g o : ℕ) → o < page_words → word_among pages (page_words * g + o) ≡ word_on (get_or pages g None) o
among_page pages g o within =
    let at : (page_words * g + o) / page_words ≡ g = omega (arith, within) in
    let left : (page_words * g + o) % page_words ≡ o = omega (arith, within) in
    ap (λ i. word_on (get_or pages i None) ((page_words * g + o) % page_words)) at ∙ ap (word_on (get_or pages g None)) left

module _ (P Q : List (Option (List ℕ))) where
  -- where all words are the same, those of a page are
  pub alike_page : (g : ℕ) → g < page_count → ((a : ℕ) → a < address_count → word_among P a ≡ word_among Q a) → (o : ℕ) → o < page_words → word_on (get_or P g None) o ≡ word_on (get_or Q g None) o
  alike_page g there same o within =
      sym (among_page P g o within) ∙ same (page_words * g + o) (omega (arith, there, within)) ∙ among_page Q g o within

  pub more_pages : (n : ℕ) (p q : Option (List ℕ)) → p ≡ get_or P n None → q ≡ get_or Q n None → ((o : ℕ) → o < page_words → word_on p o ≡ word_on q o)
      → ((g o : ℕ) → g < n → o < page_words → word_on (get_or P g None) o ≡ word_on (get_or Q g None) o)
      → (g o : ℕ) → g < n + 1 → o < page_words → word_on (get_or P g None) o ≡ word_on (get_or Q g None) o
  more_pages n p q ep eq here before g o lt within = by_place (cases_eq g n)
    where
      by_place : (g ≡ n) ⊎ (g ≡ n → ⊥) → word_on (get_or P g None) o ≡ word_on (get_or Q g None) o
      by_place (inl e) =
          subst (λ m. word_on (get_or P m None) o ≡ word_on (get_or Q m None) o) (sym e) (ap (λ x. word_on x o) (sym ep) ∙ here o within ∙ ap (λ x. word_on x o) eq)
      by_place (inr ne) = before g o (omega (arith, lt, ne)) within

  -- the same lists of words, where all words are the same
  pub same_answer : (r : Bool) (xs ys : List FirstWord) → paged P ≡ xs → paged Q ≡ ys → (IsTrue r ↔ ((a : ℕ) → a < address_count → word_among P a ≡ word_among Q a)) → IsTrue r ↔ (xs ≡ ys)
  same_answer r xs ys ex ey same = (λ t. sym ex ∙ paged_same P Q (same.0 t) ∙ ey, λ e. same.1 (paged_alike P Q (ex ∙ e ∙ sym ey)))

module _ {X : Type 0} (f : X → Option (List ℕ)) where
  -- one more page is shared
  pub shared_more : (xs : List X) (x : X) (P : List (Option (List ℕ))) (n : ℕ) → length xs ≡ n → f x ≡ get_or P n None → ((g : ℕ) → g < n → get_or (map f xs) g None ≡ get_or P g None)
      → (g : ℕ) → g < n + 1 → get_or (map f (xs ++ x ∷ [])) g None ≡ get_or P g None
  shared_more xs x P n many here before g lt = ap (λ ys. get_or ys g None) (map-append f xs (x ∷ [])) ∙ by_place (cases_eq g n)
    where
      by_place : (g ≡ n) ⊎ (g ≡ n → ⊥) → get_or (map f xs ++ f x ∷ []) g None ≡ get_or P g None
      by_place (inl e) =
          let size : length (map f xs) ≡ g = length-map xs f ∙ many ∙ sym e in
          get_or_push (map f xs) (f x) None g size ∙ here ∙ ap (λ m. get_or P m None) (sym e)
      by_place (inr ne) =
          let below : g < n = omega (arith, lt, ne) in
          get_or_append_left (map f xs) (f x ∷ []) None g (omega (arith, length-map xs f, many, below)) ∙ before g below

  pub shared_all : (xs ps : List X) (n : ℕ) → length xs ≡ n → length ps ≤ n → ((g : ℕ) → g < n → get_or (map f xs) g None ≡ get_or (map f ps) g None) → (g : ℕ) → get_or (map f xs) g None ≡ get_or (map f ps) g None
  shared_all xs ps n many most each g = by_place (cases_lt g n)
    where
      by_place : (g < n) ⊎ (n ≤ g) → get_or (map f xs) g None ≡ get_or (map f ps) g None
      by_place (inl lt) = each g lt
      by_place (inr ge) = get_or_past (map f xs) g None (omega (arith, length-map xs f, many, ge)) ∙ sym (get_or_past (map f ps) g None (omega (arith, length-map ps f, most, ge)))

  -- one page is another one, in which one word is
  pub among_set : (items : List X) (x : X) (pages : List (Option (List ℕ))) (words : List ℕ) (a word : ℕ) → a / page_words < length items → f x ≡ Some words
      → ((o : ℕ) → o < page_words → get_or words o 0 ≡ cond (o == a % page_words) word (word_on (get_or pages (a / page_words) None) o))
      → ((g : ℕ) → get_or (map f items) g None ≡ get_or pages g None)
      → (b : ℕ) → word_among (map f (set items (a / page_words) x)) b ≡ cond (b == a) word (word_among pages b)
  among_set items x pages words a word there is here others b =
      ap (λ ys. word_on (get_or ys (b / page_words) None) (b % page_words)) (map-set f items (a / page_words) x) ∙ by_page (cases_eq (b / page_words) (a / page_words)) (cases_eq b a)
    where
      changed : List (Option (List ℕ))
      changed = set (map f items) (a / page_words) (f x)

      within : b % page_words < page_words
      within = omega arith

      by_page : (b / page_words ≡ a / page_words) ⊎ (b / page_words ≡ a / page_words → ⊥) → (b ≡ a) ⊎ (b ≡ a → ⊥)
          → word_on (get_or (set (map f items) (a / page_words) (f x)) (b / page_words) None) (b % page_words) ≡ cond (b == a) word (word_among pages b)
      by_page (inl page) at =
          ap (λ i. word_on (get_or (set (map f items) (a / page_words) (f x)) i None) (b % page_words)) page
          ∙ ap (λ p. word_on p (b % page_words)) (get_or-set_same (map f items) (a / page_words) (f x) None (omega (arith, there, length-map items f)) ∙ is)
          ∙ here (b % page_words) within
          ∙ by_word at
        where
          by_word : (b ≡ a) ⊎ (b ≡ a → ⊥) → cond (b % page_words == a % page_words) word (word_on (get_or pages (a / page_words) None) (b % page_words)) ≡ cond (b == a) word (word_among pages b)
          by_word (inl e) =
              let left : (b % page_words == a % page_words) ≡ true = eq-eqb (b % page_words) (a % page_words) (ap (λ n. n % page_words) e) in
              rw (left, eq-eqb b a e) refl
          by_word (inr ne) =
              let left : (b % page_words == a % page_words) ≡ false = ne_eqb (b % page_words) (a % page_words) (λ same. omega (arith, page, same, ne)) in
              rw (left, ne_eqb b a ne) (ap (λ i. word_on (get_or pages i None) (b % page_words)) (sym page))
      by_page (inr other) at =
          let ne : (b == a) ≡ false = ne_eqb b a (λ e. other (ap (λ n. n / page_words) e)) in
          ap (λ p. word_on p (b % page_words)) (get_or-set_other (map f items) (a / page_words) (b / page_words) (f x) None other ∙ others (b / page_words))
          ∙ sym (ap (λ t. cond t word (word_among pages b)) ne)

-- where no word of a list stands
pub none_there : (ws : List FirstWord) → IsListing ws → (from n m : ℕ) → IsSplit ws from n → IsSplit ws (from + page_words) m → n ≡ m → (o : ℕ) → o < page_words → 0 ≡ word_at ws (from + o)
none_there ws listing from n m low high same o within =
    sym (ap value (word_missing ws listing (from + o) n (record { address = 0; word = 0 })
    (record { few = low.few; below = λ d h. let x = low.below d h in omega (arith, x); from = λ d h. let x = first d (high.from d (omega (arith, h, same))) in omega (arith, x) })
    (λ h e. let x = first (record { address = 0; word = 0 }) (high.from (record { address = 0; word = 0 }) (omega (arith, h, same))) in omega (arith, x, e))))
  where
    first : (d : FirstWord) → from + page_words ≤ (get_or ws m d).address → from + o < (get_or ws n d).address
    first d x = subst (λ i. from + o < (get_or ws i d).address) (sym same) (omega (arith, x, within))

-- pages that show a list's words
pub paged_listed : (pages : List (Option (List ℕ))) (ws : List FirstWord) → IsListing ws → ((g o : ℕ) → g < page_count → o < page_words → word_on (get_or pages g None) o ≡ word_at ws (page_words * g + o)) → paged pages ≡ ws
paged_listed pages ws listing each =
    paged_as pages ws listing (λ a h. each (a / page_words) (a % page_words) (omega (arith, h)) (omega arith) ∙ ap (word_at ws) (let e : page_words * (a / page_words) + a % page_words ≡ a = omega arith in e))
