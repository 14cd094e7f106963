-- Lists of numbers with commas between.
use Rattle.std.proofs.Common.{◌≡◌, ℕ, zero, suc, ◌+◌, ◌<◌, ◌≤◌, ◌==◌, Bool, true, false, cond, List, [], ◌∷◌, ◌++◌, length, get_or, take, drop, map, refl, sym, ap, ◌∙◌, arith, append_assoc, add-one, ltb-false}
use Rattle.std.specs.Prelude.{Option, Some, None, option_map, position, nat_lt}
use Rattle.std.specs.List.{slice_split, position_or_len}
use Rattle.std.proofs.lemmas.List.Quantifiers.{position-Some}
use Rattle.std.proofs.lemmas.List.Sums.{fails_before_first}
use Rattle.line_words.specs.Numbers.{number_of}
use Rattle.lab_tasks.specs.Numbers.{parts_at, all_of, list_of}

-- a text without a separator is one part
part_alone : (p : ℕ → Bool) (xs : List ℕ) → ((k : ℕ) → k < length xs → p (get_or xs k 0) ≡ false) → slice_split p xs ≡ xs ∷ []
part_alone p [] h = refl
part_alone p (x ∷ xs) h =
    let others : slice_split p xs ≡ xs ∷ [] = part_alone p xs (λ k lt. h (suc k) (omega arith)) in
    let first : p x ≡ false = h zero (omega arith) in
    rw (first, others) refl

-- the first part goes up to the first separator
part_before : (p : ℕ → Bool) (n : ℕ) (xs : List ℕ) → ((k : ℕ) → k < n → p (get_or xs k 0) ≡ false) → n < length xs → p (get_or xs n 0) ≡ true
    → slice_split p xs ≡ take n xs ∷ slice_split p (drop (suc n) xs)
part_before p n [] h lt at = absurd (omega arith)
part_before p zero (x ∷ xs) h lt at = rw at refl
part_before p (suc n) (x ∷ xs) h lt at =
    let others : slice_split p xs ≡ take n xs ∷ slice_split p (drop (suc n) xs) = part_before p n xs (λ k le. h (suc k) (omega arith)) (omega arith) at in
    let first : p x ≡ false = h zero (omega arith) in
    rw (first, others) refl

none_found : (t : Bool) (i : ℕ) → cond t (Some i) (let o : Option ℕ = None in o) ≡ None → t ≡ false
none_found true i e = cc
none_found false i e = refl

-- where none passes, each fails
none_passes : (p : ℕ → Bool) (xs : List ℕ) → position p xs ≡ None → (k : ℕ) → k < length xs → p (get_or xs k 0) ≡ false
none_passes p xs e k lt =
    let far : length xs ≤ position_or_len p xs = ltb-false _ _ (none_found (nat_lt (position_or_len p xs) (length xs)) (position_or_len p xs) e) in
    fails_before_first p xs k 0 (omega arith)

-- what stands before and behind a place
abbrev cut : List ℕ → Option ℕ → Option (List ℕ × List ℕ)
cut text o = option_map (λ i. (take i text, drop (i + 1) text)) o

last_at : (text : List ℕ) (o : Option ℕ) → position (λ x. x == 44) text ≡ o → cut text o ≡ None
    → list_of text ≡ all_of (number_of text ∷ [])
last_at text None e f = ap (λ parts. all_of (map number_of parts)) (part_alone (λ x. x == 44) text (none_passes (λ x. x == 44) text e))
last_at text (Some i) e f = cc

-- without a comma the text is the only part
pub list_of-last : (text : List ℕ) → parts_at 44 text ≡ None → list_of text ≡ all_of (number_of text ∷ [])
list_of-last text e = last_at text (position (λ x. x == 44) text) refl e

abbrev front_of : Option (List ℕ × List ℕ) → List ℕ
front_of None = []
front_of (Some parts) = parts.0

abbrev back_of : Option (List ℕ × List ℕ) → List ℕ
back_of None = []
back_of (Some parts) = parts.1

first_at : (text a c : List ℕ) (o : Option ℕ) → position (λ x. x == 44) text ≡ o → cut text o ≡ Some (a, c)
    → list_of text ≡ all_of (number_of a ∷ map number_of (slice_split (λ x. x == 44) c))
first_at text a c None e f = cc
first_at text a c (Some i) e f =
    let found = position-Some (λ x. x == 44) text i 0 e in
    let front : take i text ≡ a = ap front_of f in
    let back : drop (i + 1) text ≡ c = ap back_of f in
    rw (← front, ← back, add-one) (ap (λ parts. all_of (map number_of parts)) (part_before (λ x. x == 44) i text found.2 found.0 found.1))

-- the first part goes up to the first comma
pub list_of-first : (text a c : List ℕ) → parts_at 44 text ≡ Some (a, c) → list_of text ≡ all_of (number_of a ∷ map number_of (slice_split (λ x. x == 44) c))
list_of-first text a c e = first_at text a c (position (λ x. x == 44) text) refl e

-- the numbers that were read, with those of the rest
abbrev pub with_rest : List ℕ → List ℕ → Option (List ℕ)
with_rest numbers rest = option_map (λ ns. numbers ++ ns) (list_of rest)

pub part-refused : (text numbers rest a c : List ℕ) → list_of text ≡ with_rest numbers rest → parts_at 44 rest ≡ Some (a, c) → number_of a ≡ None → list_of text ≡ None
part-refused text numbers rest a c so at none =
    let e : list_of rest ≡ None = rw none at (list_of-first rest a c at) in
    so ∙ ap (option_map (λ ns. numbers ++ ns)) e

pushed : (numbers : List ℕ) (n : ℕ) (o : Option (List ℕ)) → option_map (λ ns. numbers ++ ns) (option_map (λ ns. n ∷ ns) o) ≡ option_map (λ ns. (numbers ++ n ∷ []) ++ ns) o
pushed numbers n None = refl
pushed numbers n (Some ns) = ap Some (sym (append_assoc numbers (n ∷ []) ns))

pub part-read : (text numbers rest a c : List ℕ) (n : ℕ) → list_of text ≡ with_rest numbers rest → parts_at 44 rest ≡ Some (a, c) → number_of a ≡ Some n
    → list_of text ≡ with_rest (numbers ++ n ∷ []) c
part-read text numbers rest a c n so at some =
    so ∙ ap (option_map (λ ns. numbers ++ ns)) (list_of-first rest a c at ∙ rw some refl) ∙ pushed numbers n (list_of c)

pub last-refused : (text numbers rest : List ℕ) → list_of text ≡ with_rest numbers rest → parts_at 44 rest ≡ None → number_of rest ≡ None → list_of text ≡ None
last-refused text numbers rest so at none =
    let e : list_of rest ≡ None = rw none at (list_of-last rest at) in
    so ∙ ap (option_map (λ ns. numbers ++ ns)) e

pub last-read : (text numbers rest : List ℕ) (n : ℕ) → list_of text ≡ with_rest numbers rest → parts_at 44 rest ≡ None → number_of rest ≡ Some n
    → list_of text ≡ Some (numbers ++ n ∷ [])
last-read text numbers rest n so at some =
    let e : list_of rest ≡ Some (n ∷ []) = rw some at (list_of-last rest at) in
    so ∙ ap (option_map (λ ns. numbers ++ ns)) e
