-- Two projects with the same word at each address list the same first words.
use Rattle.std.proofs.Common.{◌≡◌, ℕ, suc, ◌<◌, ◌≤◌, Bool, true, false, cond, List, [], ◌∷◌, All, map, refl, ap, sym, ◌∙◌, Some, arith}
use Rattle.std.specs.Prelude.{nat_lt, ◌==◌, find, AllPairs}
use Rattle.std.specs.Option.{option_map_or}
use Rattle.std.proofs.lemmas.Bool.Decides.{nat_tests}
use Rattle.std.proofs.lemmas.List.Elements.{All-head, All-tail}
use Rattle.page_map.specs.Limits.{address_count}
use Rattle.mem_module.specs.declared.words.Stored.{Stored}
use Rattle.mem_module.specs.Memory.{word_at}
use Rattle.project_book.specs.declared.words.FirstWord.{FirstWord}
use Rattle.project_book.specs.FirstWords.{IsListing, word_at as first_at}
use Rattle.project_book.specs.Project.{Project, word_of}
use Rattle.machine_cells.specs.laws.Starts.{From, same_words}

abbrev as_row : FirstWord → Stored
as_row w = record { row = w.address; word = w.word }

abbrev as_first : Stored → FirstWord
as_first w = record { address = w.row; word = w.word }

map_back : (ws : List FirstWord) → map as_first (map as_row ws) ≡ ws
map_back [] = refl
map_back (w ∷ ws) = ap (λ vs. w ∷ vs) (map_back ws)

row_word : (ws : List FirstWord) (a : ℕ) → word_at (map as_row ws) a ≡ first_at ws a
row_word [] a = refl
row_word (w ∷ ws) a = by_test (w.address == a) (row_word ws a)
  where
    by_test : (t : Bool) → word_at (map as_row ws) a ≡ first_at ws a
        → option_map_or (λ v. v.word) (cond t (Some (as_row w)) (find (λ v. v.row == a) (map as_row ws))) 0
        ≡ option_map_or (λ v. v.word) (cond t (Some w) (find (λ v. v.address == a) ws)) 0
    by_test true ih = refl
    by_test false ih = ih

rows_from : (lo : ℕ) (ws : List FirstWord) → All (λ w. lo ≤ w.address) ws → AllPairs (λ v w. v.address < w.address) ws → All (λ w. 0 < w.word) ws → From lo (map as_row ws)
rows_from lo [] low pairs some = tt
rows_from lo (w ∷ ws) low pairs some = (
  All-head (λ v. lo ≤ v.address) w ws low,
  All-head (λ v. 0 < v.word) w ws some,
  rows_from (suc w.address) ws (λ k d h. let x = pairs 0 (suc k) d (omega arith) (omega arith) in omega arith)
      (λ i j d h l. pairs (suc i) (suc j) d (omega arith) (omega arith)) (All-tail (λ v. 0 < v.word) w ws some),
)

word_past : (ws : List FirstWord) (a : ℕ) → address_count ≤ a → All (λ w. w.address < address_count) ws → first_at ws a ≡ 0
word_past [] a h within = refl
word_past (w ∷ ws) a h within =
    let lt : w.address < address_count = All-head (λ v. v.address < address_count) w ws within in
    let t : (w.address == a) ≡ false = grind (arith, nat_tests) in
    rw t (word_past ws a h (All-tail (λ v. v.address < address_count) w ws within))

same_listing : (xs ys : List FirstWord) → IsListing xs → IsListing ys → ((a : ℕ) → a < address_count → first_at xs a ≡ first_at ys a) → xs ≡ ys
same_listing xs ys x y h =
    sym (map_back xs)
    ∙ ap (map as_first) (same_words 0 (map as_row xs) (map as_row ys)
    (rows_from 0 xs (λ k d l. omega arith) x.ascending x.nonzero) (rows_from 0 ys (λ k d l. omega arith) y.ascending y.nonzero)
    (λ a. row_word xs a ∙ at_address a (nat_lt a address_count) refl ∙ sym (row_word ys a)))
    ∙ map_back ys
  where
    at_address : (a : ℕ) (t : Bool) → nat_lt a address_count ≡ t → first_at xs a ≡ first_at ys a
    at_address a true e = h a (grind (arith, nat_tests))
    at_address a false e =
        let past : address_count ≤ a = grind (arith, nat_tests) in
        word_past xs a past x.within ∙ sym (word_past ys a past y.within)

pub same_first_words : (P Q : Project) → IsListing P.words → IsListing Q.words → ((a : ℕ) → a < address_count → word_of P a ≡ word_of Q a) → P.words ≡ Q.words
same_first_words P Q p q h = same_listing P.words Q.words p q at_address
  where
    at_address : (a : ℕ) → a < address_count → first_at P.words a ≡ first_at Q.words a
    at_address a lt =
        let t : nat_lt a address_count ≡ true = grind (arith, nat_tests) in
        sym (ap (λ b. cond b (first_at P.words a) 0) t) ∙ h a lt ∙ ap (λ b. cond b (first_at Q.words a) 0) t

pub words_along : (P Q : Project) → P.words ≡ Q.words → (a : ℕ) → a < address_count → word_of P a ≡ word_of Q a
words_along P Q e a lt = ap (λ ws. cond (nat_lt a address_count) (first_at ws a) 0) e
