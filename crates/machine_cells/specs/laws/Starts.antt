-- Nothing in this file needs believing: it is proofs, which stand here since a definition of `specs/` cites them.
-- Where two projects agree in their pages and first words, a module starts the same.
use Rattle.std.proofs.Common.{◌≡◌, ℕ, suc, ◌+◌, ◌*◌, ◌/◌, ◌%◌, ◌^◌, ◌<◌, ◌≤◌, Bool, true, false, cond, List, [], ◌∷◌, ◌++◌, refl, ap, sym, ◌∙◌, append_assoc, None, Some, ◌⊎◌, inl, inr, arith, eq-eqb}
use Rattle.std.specs.Prelude.{nat_lt, ◌==◌, ◌&&◌, filter, find}
use Rattle.std.specs.Option.{option_map_or}
use Rattle.std.proofs.lemmas.Bool.{false≢true, eqb-true, and_parts, and_from}
use Rattle.std.proofs.lemmas.Bool.Decides.{nat_tests}
use Rattle.std.proofs.lemmas.Nat.{div-mul-add}
use Rattle.std.proofs.Math.Nat.{mod-lt, div-add-mod, div-le_self}
use Rattle.page_map.specs.Places.{place_on}
use Rattle.mem_module.specs.declared.words.Stored.{Stored}
use Rattle.mem_module.specs.Memory.{word_at, stored, rows_below, rows_above, with_word}
use Rattle.project_book.specs.Project.{Project, page_of, place_in}
use Rattle.project_book.specs.declared.words.FirstWord.{FirstWord}
use Rattle.page_map.specs.Limits.{address_count}
use Rattle.project_book.specs.FirstWords.{word_at as first_at}
use Rattle.machine_cells.specs.Run.{stands_in, words_in}
use Rattle.machine_cells.specs.Reads.{SameMemory}

-- two addresses in one place are one address
row_page : (a q : ℕ) → a % 256 / q < 256
row_page a q = omega (arith, div-le_self (a % 256) q, mod-lt a (pow_pos_256))
  where
    pow_pos_256 : 0 < 256
    pow_pos_256 = omega arith

page_row : (a q : ℕ) → (256 * (a / 256) + a % 256 / q) / 256 ≡ a / 256
page_row a q = let e : 256 * (a / 256) + a % 256 / q ≡ a / 256 * 256 + a % 256 / q = omega arith in ap (λ n. n / 256) e ∙ div-mul-add (a / 256) 256 (a % 256 / q) (row_page a q)

same_by_parts : (x y n : ℕ) → x / n ≡ y / n → x % n ≡ y % n → x ≡ y
same_by_parts x y n d m = sym (div-add-mod x n) ∙ ap (λ q. n * q + x % n) d ∙ ap (λ r. n * (y / n) + r) m ∙ div-add-mod y n

same_page : (P : Project) (a b : ℕ) → (place_in P a).row ≡ (place_in P b).row → a / 256 ≡ b / 256
same_page P a b e = sym (page_row a _) ∙ ap (λ n. n / 256) e ∙ page_row b _

pub same_address : (P : Project) (a b : ℕ) → (place_in P a).«module» ≡ (place_in P b).«module» → (place_in P a).row ≡ (place_in P b).row → a ≡ b
same_address P a b m r = same_by_parts a b 256 g (same_by_parts (a % 256) (b % 256) (2 ^ (page_of P (a / 256)).amount) quotients remainders)
  where
    g : a / 256 ≡ b / 256
    g = same_page P a b r

    on_page : page_of P (b / 256) ≡ page_of P (a / 256)
    on_page = ap (page_of P) (sym g)

    row_b : 256 * (a / 256) + a % 256 / 2 ^ (page_of P (a / 256)).amount ≡ 256 * (b / 256) + b % 256 / 2 ^ (page_of P (a / 256)).amount
    row_b = r ∙ ap (λ page. 256 * (b / 256) + b % 256 / 2 ^ page.amount) on_page

    module_b : (page_of P (a / 256)).base + a % 256 % 2 ^ (page_of P (a / 256)).amount ≡ (page_of P (a / 256)).base + b % 256 % 2 ^ (page_of P (a / 256)).amount
    module_b = m ∙ ap (λ page. page.base + b % 256 % 2 ^ page.amount) on_page

    quotients : a % 256 / 2 ^ (page_of P (a / 256)).amount ≡ b % 256 / 2 ^ (page_of P (a / 256)).amount
    quotients = omega (arith, row_b, g)

    remainders : a % 256 % 2 ^ (page_of P (a / 256)).amount ≡ b % 256 % 2 ^ (page_of P (a / 256)).amount
    remainders = omega (arith, module_b)

-- what a row holds after one row was written
abbrev at_row : ℕ → Stored → Bool
at_row r w = w.row == r

find_kept : (t : Stored → Bool) (r : ℕ) (ws : List Stored) → ((w : Stored) → at_row r w ≡ true → t w ≡ true) → find (at_row r) (filter t ws) ≡ find (at_row r) ws
find_kept t r [] h = refl
find_kept t r (w ∷ ws) h = by_tests (t w) (at_row r w) refl refl (find_kept t r ws h)
  where
    by_tests : (a b : Bool) → t w ≡ a → at_row r w ≡ b → find (at_row r) (filter t ws) ≡ find (at_row r) ws
        → find (at_row r) (cond a (w ∷ filter t ws) (filter t ws)) ≡ cond b (Some w) (find (at_row r) ws)
    by_tests true true e f ih = rw f refl
    by_tests true false e f ih = rw f ih
    by_tests false true e f ih = absurd (false≢true (sym e ∙ h w f))
    by_tests false false e f ih = ih

find_dropped : (t : Stored → Bool) (r : ℕ) (ws : List Stored) → ((w : Stored) → at_row r w ≡ true → t w ≡ false) → find (at_row r) (filter t ws) ≡ None
find_dropped t r [] h = refl
find_dropped t r (w ∷ ws) h = by_tests (t w) (at_row r w) refl refl (find_dropped t r ws h)
  where
    by_tests : (a b : Bool) → t w ≡ a → at_row r w ≡ b → find (at_row r) (filter t ws) ≡ None → find (at_row r) (cond a (w ∷ filter t ws) (filter t ws)) ≡ None
    by_tests true true e f ih = absurd (false≢true (sym (h w f) ∙ e))
    by_tests true false e f ih = rw f ih
    by_tests false b e f ih = ih

find_after : (r : ℕ) (xs ys : List Stored) → find (at_row r) xs ≡ None → find (at_row r) (xs ++ ys) ≡ find (at_row r) ys
find_after r [] ys e = refl
find_after r (x ∷ xs) ys e = by_test (at_row r x) refl e (find_after r xs ys)
  where
    by_test : (b : Bool) → at_row r x ≡ b → cond b (Some x) (find (at_row r) xs) ≡ None → (find (at_row r) xs ≡ None → find (at_row r) (xs ++ ys) ≡ find (at_row r) ys)
        → cond b (Some x) (find (at_row r) (xs ++ ys)) ≡ find (at_row r) ys
    by_test true f e ih = cc
    by_test false f e ih = ih e

find_before : (r : ℕ) (xs ys : List Stored) → find (at_row r) ys ≡ None → find (at_row r) (xs ++ ys) ≡ find (at_row r) xs
find_before r [] ys e = e
find_before r (x ∷ xs) ys e = ap (λ q. cond (at_row r x) (Some x) q) (find_before r xs ys e)

row_is : (r : ℕ) (w : Stored) → at_row r w ≡ true → w.row ≡ r
row_is r w e = eqb-true w.row r e

pub word_written : (ws : List Stored) (row word : ℕ) → word_at (with_word ws row word) row ≡ word
word_written ws row word =
    ap (λ o. option_map_or (λ w. w.word) o 0)
    (ap (find (at_row row)) (append_assoc (rows_below ws row) (stored row word) (rows_above ws row))
    ∙ find_after row (rows_below ws row) _ (find_dropped _ row ws (λ w e. let f : w.row ≡ row = row_is row w e in grind (arith, nat_tests)))
    ∙ find_before row (stored row word) (rows_above ws row) (find_dropped _ row ws (λ w e. let f : w.row ≡ row = row_is row w e in grind (arith, nat_tests))))
    ∙ by_test (word == 0) refl
  where
    by_test : (b : Bool) → (word == 0) ≡ b → option_map_or (λ w. w.word) (find (at_row row) (cond b [] (record { row = row; word = word } ∷ []))) 0 ≡ word
    by_test true e = sym (eqb-true word 0 e)
    by_test false e = rw (eq-eqb row row refl) refl

pub word_kept : (ws : List Stored) (row word r : ℕ) → (r ≡ row → ⊥) → word_at (with_word ws row word) r ≡ word_at ws r
word_kept ws row word r d = ap (λ o. option_map_or (λ w. w.word) o 0) (by_order (nat_lt r row) refl)
  where
    none_stored : find (at_row r) (stored row word) ≡ None
    none_stored = by_test (word == 0)
      where
        other : (row == r) ≡ false
        other = by_eq (row == r) refl
          where
            by_eq : (b : Bool) → (row == r) ≡ b → (row == r) ≡ false
            by_eq true e = absurd (d (sym (eqb-true row r e)))
            by_eq false e = e

        by_test : (b : Bool) → find (at_row r) (cond b [] (record { row = row; word = word } ∷ [])) ≡ None
        by_test true = refl
        by_test false = rw other refl

    by_order : (b : Bool) → nat_lt r row ≡ b → find (at_row r) (rows_below ws row ++ stored row word ++ rows_above ws row) ≡ find (at_row r) ws
    by_order true e =
        find_before r (rows_below ws row ++ stored row word) (rows_above ws row) (find_dropped _ r ws (λ w f. let g : w.row ≡ r = row_is r w f in grind (arith, nat_tests)))
        ∙ find_before r (rows_below ws row) (stored row word) none_stored
        ∙ find_kept _ r ws (λ w f. let g : w.row ≡ r = row_is r w f in grind (arith, nat_tests))
    by_order false e =
        ap (find (at_row r)) (append_assoc (rows_below ws row) (stored row word) (rows_above ws row))
        ∙ find_after r (rows_below ws row) _ (find_dropped _ r ws (λ w f. let g : w.row ≡ r = row_is r w f in grind (arith, nat_tests)))
        ∙ find_after r (stored row word) (rows_above ws row) none_stored
        ∙ find_kept _ r ws (λ w f. let g : w.row ≡ r = row_is r w f in let h : row < r = above (grind (arith, nat_tests)) in grind (arith, nat_tests))
      where
        above : row ≤ r → row < r
        above l = strictly (row == r) refl
          where
            strictly : (b : Bool) → (row == r) ≡ b → row < r
            strictly true e = absurd (d (sym (eqb-true row r e)))
            strictly false e = grind (arith, nat_tests)

-- rows upwards from one on, without words of 0
abbrev pub From : ℕ → List Stored → Type 0
From lo [] = Unit {0}
From lo (w ∷ ws) = (lo ≤ w.row) × (0 < w.word) × From (suc w.row) ws

pub from_less : (lo hi : ℕ) (ws : List Stored) → lo ≤ hi → From hi ws → From lo ws
from_less lo hi [] l h = tt
from_less lo hi (w ∷ ws) l h = (omega (arith, h.0), h.1, h.2)

none_below : (lo row : ℕ) (ws : List Stored) → row ≤ lo → From lo ws → rows_below ws row ≡ []
none_below lo row [] l h = refl
none_below lo row (w ∷ ws) l h =
    let t : nat_lt w.row row ≡ false = let a : lo ≤ w.row = h.0 in grind (arith, nat_tests) in
    rw t (none_below (suc w.row) row ws (omega (arith, h.0)) h.2)

all_above : (lo row : ℕ) (ws : List Stored) → row < lo → From lo ws → rows_above ws row ≡ ws
all_above lo row [] l h = refl
all_above lo row (w ∷ ws) l h =
    let t : nat_lt row w.row ≡ true = let a : lo ≤ w.row = h.0 in grind (arith, nat_tests) in
    rw t (ap (λ xs. w ∷ xs) (all_above (suc w.row) row ws (omega (arith, h.0)) h.2))

from_stored : (lo row word : ℕ) (ws : List Stored) → lo ≤ row → From (suc row) ws → From lo (stored row word ++ ws)
from_stored lo row word ws l h = by_test (word == 0) refl
  where
    by_test : (t : Bool) → (word == 0) ≡ t → From lo (cond t [] (record { row = row; word = word } ∷ []) ++ ws)
    by_test true e = from_less lo (suc row) ws (omega arith) h
    by_test false e = (l, grind (arith, nat_tests), h)

-- below all rows, a row goes first
pub first_row : (row word : ℕ) (ws : List Stored) → From (suc row) ws → with_word ws row word ≡ stored row word ++ ws
first_row row word ws h =
    ap (λ xs. xs ++ stored row word ++ rows_above ws row) (none_below (suc row) row ws (omega arith) h)
    ∙ ap (λ xs. stored row word ++ xs) (all_above (suc row) row ws (omega arith) h)

pub from_with : (lo row word : ℕ) (ws : List Stored) → lo ≤ row → From lo ws → From lo (with_word ws row word)
from_with lo row word [] l h = from_stored lo row word [] l tt
from_with lo row word (w ∷ ws) l h = by_order (nat_lt w.row row) (nat_lt row w.row) refl refl (from_with (suc w.row) row word ws)
  where
    by_order : (s t : Bool) → nat_lt w.row row ≡ s → nat_lt row w.row ≡ t → (suc w.row ≤ row → From (suc w.row) ws → From (suc w.row) (with_word ws row word))
        → From lo (cond s (w ∷ rows_below ws row) (rows_below ws row) ++ stored row word ++ cond t (w ∷ rows_above ws row) (rows_above ws row))
    by_order true true s t ih = absurd (grind (arith, nat_tests))
    by_order true false s t ih = (h.0, h.1, ih (grind (arith, nat_tests)) h.2)
    by_order false true s t ih =
        let above : row < w.row = grind (arith, nat_tests) in
        rw (none_below (suc w.row) row ws (omega arith) h.2, all_above (suc w.row) row ws (omega arith) h.2)
        (from_stored lo row word (w ∷ ws) l (omega arith, h.1, h.2))
    by_order false false s t ih =
        let same : w.row ≡ row = grind (arith, nat_tests) in
        let after : From (suc row) ws = from_less (suc row) (suc w.row) ws (omega arith) h.2 in
        rw (none_below (suc row) row ws (omega arith) after, all_above (suc row) row ws (omega arith) after)
        (from_stored lo row word ws l after)

-- no row below the first
word_low : (lo r : ℕ) (ws : List Stored) → r < lo → From lo ws → word_at ws r ≡ 0
word_low lo r [] l h = refl
word_low lo r (w ∷ ws) l h =
    let t : (w.row == r) ≡ false = let a : lo ≤ w.row = h.0 in grind (arith, nat_tests) in
    rw t (word_low (suc w.row) r ws (omega (arith, h.0)) h.2)

word_own : (w : Stored) (ws : List Stored) → word_at (w ∷ ws) w.row ≡ w.word
word_own w ws = rw (eq-eqb w.row w.row refl) refl

abbrev row_word : ℕ → ℕ → Stored
row_word r w = record { row = r; word = w }

-- two such lists with the same words are the same list
pub same_words : (lo : ℕ) (xs ys : List Stored) → From lo xs → From lo ys → ((r : ℕ) → word_at xs r ≡ word_at ys r) → xs ≡ ys
same_words lo [] [] a b h = refl
same_words lo [] (y ∷ ys) a b h = let e : 0 ≡ y.word = h y.row ∙ word_own y ys in absurd (omega (arith, b.1, e))
same_words lo (x ∷ xs) [] a b h = let e : x.word ≡ 0 = sym (word_own x xs) ∙ h x.row in absurd (omega (arith, a.1, e))
same_words lo (x ∷ xs) (y ∷ ys) a b h = by_order (nat_lt x.row y.row) (nat_lt y.row x.row) refl refl (λ c d. same_words (suc x.row) xs ys a.2 c d)
  where
    later : x.row ≡ y.row → (r : ℕ) → word_at xs r ≡ word_at ys r
    later rows r = by_row (x.row == r) refl
      where
        by_row : (t : Bool) → (x.row == r) ≡ t → word_at xs r ≡ word_at ys r
        by_row true e =
            let at_x : x.row ≡ r = eqb-true x.row r e in
            word_low (suc x.row) r xs (omega arith) a.2 ∙ sym (word_low (suc y.row) r ys (omega (arith, rows)) b.2)
        by_row false e =
            let f : (y.row == r) ≡ false = ap (λ n. n == r) (sym rows) ∙ e in
            let both : option_map_or (λ w. w.word) (cond (x.row == r) (Some x) (find (at_row r) xs)) 0 ≡ option_map_or (λ w. w.word) (cond (y.row == r) (Some y) (find (at_row r) ys)) 0 = h r in
            sym (ap (λ t. option_map_or (λ w. w.word) (cond t (Some x) (find (at_row r) xs)) 0) e)
            ∙ both
            ∙ ap (λ t. option_map_or (λ w. w.word) (cond t (Some y) (find (at_row r) ys)) 0) f

    by_order : (s t : Bool) → nat_lt x.row y.row ≡ s → nat_lt y.row x.row ≡ t
        → (From (suc x.row) ys → ((r : ℕ) → word_at xs r ≡ word_at ys r) → xs ≡ ys) → x ∷ xs ≡ y ∷ ys
    by_order true t es et ih =
        let e : x.word ≡ 0 = sym (word_own x xs) ∙ h x.row ∙ word_low y.row x.row (y ∷ ys) (grind (arith, nat_tests)) (omega arith, b.1, b.2) in
        absurd (omega (arith, a.1, e))
    by_order false true es et ih =
        let e : 0 ≡ y.word = sym (word_low x.row y.row (x ∷ xs) (grind (arith, nat_tests)) (omega arith, a.1, a.2)) ∙ h y.row ∙ word_own y ys in
        absurd (omega (arith, b.1, e))
    by_order false false es et ih =
        let rows : x.row ≡ y.row = grind (arith, nat_tests) in
        let words : x.word ≡ y.word = sym (word_own x xs) ∙ h x.row ∙ ap (word_at (y ∷ ys)) rows ∙ word_own y ys in
        let head : x ≡ y = ap (λ r. row_word r x.word) rows ∙ ap (row_word y.row) words in
        ap (λ z. z ∷ xs) head ∙ ap (λ zs. y ∷ zs) (ih (from_less (suc x.row) (suc y.row) ys (omega arith) b.2) (later rows))

-- the words of a module are such a list
pub words_from : (P : Project) (m : ℕ) (fs : List FirstWord) → From 0 (words_in P m fs)
words_from P m [] = tt
words_from P m (f ∷ fs) = by_test (stands_in P m f) (words_from P m fs)
  where
    by_test : (t : Bool) → From 0 (words_in P m fs) → From 0 (cond t (with_word (words_in P m fs) (place_in P f.address).row f.word) (words_in P m fs))
    by_test true h = from_with 0 (place_in P f.address).row f.word (words_in P m fs) (omega arith) h
    by_test false h = h

-- whether an address of the project stands in a row of a module
pub record Stands (P : Project) (m row a : ℕ) : Type 0 where
  pub there : a < address_count
  pub in_module : (place_in P a).«module» ≡ m
  pub in_row : (place_in P a).row ≡ row

pub stands_when : (P : Project) (m : ℕ) (f : FirstWord) → stands_in P m f ≡ true → Stands P m (place_in P f.address).row f.address
stands_when P m f e =
    let both = and_parts (nat_lt f.address address_count) ((place_in P f.address).«module» == m) e in
    let lt : nat_lt f.address address_count ≡ true = both.0 in
    record { there = grind (arith, nat_tests); in_module = eqb-true _ m both.1; in_row = refl }

stands_true : (P : Project) (m row a : ℕ) (word : ℕ) → Stands P m row a → stands_in P m (record { address = a; word = word }) ≡ true
stands_true P m row a word h =
    let lt : a < address_count = h.there in
    and_from (nat_lt a address_count) ((place_in P a).«module» == m) (grind (arith, nat_tests)) (eq-eqb _ m h.in_module)

-- the row where an address stands holds its first word
pub first_word : (P : Project) (m row a : ℕ) (fs : List FirstWord) → Stands P m row a → word_at (words_in P m fs) row ≡ first_at fs a
first_word P m row a [] h = refl
first_word P m row a (f ∷ fs) h = by_tests (stands_in P m f) (f.address == a) refl refl (first_word P m row a fs h)
  where
    by_tests : (s t : Bool) → stands_in P m f ≡ s → (f.address == a) ≡ t → word_at (words_in P m fs) row ≡ first_at fs a
        → word_at (cond s (with_word (words_in P m fs) (place_in P f.address).row f.word) (words_in P m fs)) row
        ≡ option_map_or (λ w. w.word) (cond t (Some f) (find (λ w. w.address == a) fs)) 0
    by_tests true true es et ih =
        let same : f.address ≡ a = eqb-true f.address a et in
        let r : (place_in P f.address).row ≡ row = ap (λ n. (place_in P n).row) same ∙ h.in_row in
        ap (λ n. word_at (with_word (words_in P m fs) n f.word) row) r ∙ word_written (words_in P m fs) row f.word
    by_tests true false es et ih =
        let stands = stands_when P m f es in
        word_kept (words_in P m fs) (place_in P f.address).row f.word row
        (λ r. false≢true (sym et ∙ eq-eqb f.address a (same_address P f.address a (stands.in_module ∙ sym h.in_module) (sym r ∙ sym h.in_row))))
        ∙ ih
    by_tests false true es et ih =
        let same : f.address ≡ a = eqb-true f.address a et in
        absurd (false≢true (sym es ∙ ap (λ n. nat_lt n address_count && ((place_in P n).«module» == m)) same ∙ stands_true P m row a 0 h))
    by_tests false false es et ih = ih

-- a row holds 0, or an address stands there
pub held_or_none : (P : Project) (m row : ℕ) (fs : List FirstWord) → ((a : ℕ) × Stands P m row a) ⊎ (word_at (words_in P m fs) row ≡ 0)
held_or_none P m row [] = inr refl
held_or_none P m row (f ∷ fs) = by_tests (stands_in P m f) ((place_in P f.address).row == row) refl refl (held_or_none P m row fs)
  where
    by_tests : (s t : Bool) → stands_in P m f ≡ s → ((place_in P f.address).row == row) ≡ t → ((a : ℕ) × Stands P m row a) ⊎ (word_at (words_in P m fs) row ≡ 0)
        → ((a : ℕ) × Stands P m row a) ⊎ (word_at (cond s (with_word (words_in P m fs) (place_in P f.address).row f.word) (words_in P m fs)) row ≡ 0)
    by_tests s t es et (inl h) = inl h
    by_tests true true es et (inr e) =
        let stands = stands_when P m f es in
        inl (f.address, record { there = stands.there; in_module = stands.in_module; in_row = eqb-true _ row et })
    by_tests true false es et (inr e) =
        inr (word_kept (words_in P m fs) (place_in P f.address).row f.word row (λ r. false≢true (sym et ∙ eq-eqb _ row (sym r))) ∙ e)
    by_tests false t es et (inr e) = inr e

-- where two projects have the same pages and first words, so have the modules
module _ (P Q : Project) (same : SameMemory P Q) where
  same_place : (a : ℕ) → a < address_count → place_in P a ≡ place_in Q a
  same_place a h = ap (λ page. place_on page a) (same.pages (a / 256) (omega arith))

  stands_too : (m row a : ℕ) → Stands P m row a → Stands Q m row a
  stands_too m row a h = record {
    there = h.there;
    in_module = sym (ap (λ p. p.«module») (same_place a h.there)) ∙ h.in_module;
    in_row = sym (ap (λ p. p.row) (same_place a h.there)) ∙ h.in_row;
  }

  stands_also : (m row a : ℕ) → Stands Q m row a → Stands P m row a
  stands_also m row a h = record {
    there = h.there;
    in_module = ap (λ p. p.«module») (same_place a h.there) ∙ h.in_module;
    in_row = ap (λ p. p.row) (same_place a h.there) ∙ h.in_row;
  }

  same_first : (a : ℕ) → a < address_count → first_at P.words a ≡ first_at Q.words a
  same_first a h =
      let lt : nat_lt a address_count ≡ true = grind (arith, nat_tests) in
      sym (ap (λ t. cond t (first_at P.words a) 0) lt) ∙ same.words a h ∙ ap (λ t. cond t (first_at Q.words a) 0) lt

  same_row : (m row : ℕ) → word_at (words_in P m P.words) row ≡ word_at (words_in Q m Q.words) row
  same_row m row = by_cases (held_or_none P m row P.words) (held_or_none Q m row Q.words)
    where
      from_p : (a : ℕ) → Stands P m row a → word_at (words_in P m P.words) row ≡ word_at (words_in Q m Q.words) row
      from_p a h = first_word P m row a P.words h ∙ same_first a h.there ∙ sym (first_word Q m row a Q.words (stands_too m row a h))

      by_cases : ((a : ℕ) × Stands P m row a) ⊎ (word_at (words_in P m P.words) row ≡ 0) → ((a : ℕ) × Stands Q m row a) ⊎ (word_at (words_in Q m Q.words) row ≡ 0)
          → word_at (words_in P m P.words) row ≡ word_at (words_in Q m Q.words) row
      by_cases (inl h) _ = from_p h.0 h.1
      by_cases (inr e) (inl h) = from_p h.0 (stands_also m row h.0 h.1)
      by_cases (inr e) (inr f) = e ∙ sym f

  -- so the words of each module are the same
  pub same_words_in : (m : ℕ) → words_in P m P.words ≡ words_in Q m Q.words
  same_words_in m = same_words 0 (words_in P m P.words) (words_in Q m Q.words) (words_from P m P.words) (words_from Q m Q.words) (same_row m)
