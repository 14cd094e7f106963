-- On journals, and the entries under some numbers.
use Rattle.std.proofs.Common.{◌≡◌, ◌≢◌, ◌⊎◌, inl, inr, ⊎_elim, ℕ, ◌+◌, ◌<◌, ◌≤◌, ◌||◌, Bool, true, false, List, [], ◌∷◌, ◌++◌, length, sym, refl, ap, ◌∙◌, arith, eqb, nat_lt, eq-eqb, ne_eqb, if◌then◌else◌, append_assoc, Ok}
use Rattle.std.proofs.Math.Bool.{or-true}
use mathlib.Core.Logic.{dite}
use native.Mathlib.Decide.{ℕ_discrete}
use Rattle.std.proofs.lemmas.Bool.{ltb-true, lt-ltb}
use Rattle.bench_core.specs.declared.noted.Noted.{Noted}
use Rattle.std.proofs.lemmas.List.{drop_at}
use Rattle.project_book.specs.Project.{Project}
use Rattle.project_book.specs.Edits.{accepts, edited}
use Rattle.shared_bench.specs.Legal.{has, Folds, Receipt, receipts_of, entries_by, AuthorsBelow, insert, merge}
use Rattle.shared_bench.specs.Answers.{after_entries, project_at}
use Rattle.shared_bench.specs.Rule.{Distinct, AuthorsDrawn, bit_of}

-- each Bool is one of the two
pub bool_cases : (b : Bool) → (b ≡ true) ⊎ (b ≡ false)
bool_cases true = inl refl
bool_cases false = inr refl

-- ---- one entry more

pub folds_push : (P : Project) (v : ℕ) (es : List Noted) (e : Noted) → Folds P v es → accepts (after_entries P es) (v + length es) e.edit ≡ Ok tt → Folds P v (es ++ e ∷ [])
folds_push P v [] e f a = let b : v ≡ v + 0 = omega arith in (ap (λ n. accepts P n e.edit) b ∙ a, tt)
folds_push P v (x ∷ es) e f a = (f.0, folds_push (edited P x.edit) (v + 1) es e f.1 (let c : v + 1 + length es ≡ v + length (x ∷ es) = omega arith in ap (λ n. accepts (after_entries (edited P x.edit) es) n e.edit) c ∙ a))

after_push : (P : Project) (es : List Noted) (e : Noted) → after_entries P (es ++ e ∷ []) ≡ edited (after_entries P es) e.edit
after_push P [] e = refl
after_push P (x ∷ es) e = after_push (edited P x.edit) es e

-- the project of a journal, by the entries after the opening
pub project_since : (P : Project) (opened since : List Noted) → project_at P opened (opened ++ since) ≡ after_entries P since
project_since P opened since = ap (after_entries P) (drop_at opened since (length opened) refl)

-- and after one entry more
pub project_push : (P : Project) (opened since journal : List Noted) (e : Noted) → journal ≡ opened ++ since → project_at P opened (journal ++ e ∷ []) ≡ edited (project_at P opened journal) e.edit
project_push P opened since journal e is = rw (is, append_assoc opened since (e ∷ []), project_since P opened (since ++ e ∷ []), project_since P opened since) (after_push P since e)

pub authors_push : (n : ℕ) (es : List Noted) (e : Noted) → AuthorsBelow n es → e.author < n → AuthorsBelow n (es ++ e ∷ [])
authors_push n [] e f a = (a, tt)
authors_push n (x ∷ es) e f a = (f.0, authors_push n es e f.1 a)

pub drawn_push : (bits : ℕ) (es : List Noted) (e : Noted) → AuthorsDrawn bits es → bit_of bits e.author ≡ 1 → AuthorsDrawn bits (es ++ e ∷ [])
drawn_push bits [] e f a = (a, tt)
drawn_push bits (x ∷ es) e f a = (f.0, drawn_push bits es e f.1 a)

pub drawn_more : (bits more : ℕ) (es : List Noted) → ((i : ℕ) → bit_of bits i ≡ 1 → bit_of more i ≡ 1) → AuthorsDrawn bits es → AuthorsDrawn more es
drawn_more bits more [] h f = tt
drawn_more bits more (x ∷ es) h f = (h x.author f.0, drawn_more bits more es h f.1)

abbrev at_entry : List ℕ → ℕ → Noted → List Noted → Bool → List Receipt
at_entry ns k e es b = if b then (k + 1, e.edit) ∷ entries_by ns (k + 1) es else entries_by ns (k + 1) es

pub entries_push_own : (ns : List ℕ) (k : ℕ) (es : List Noted) (e : Noted) → has e.author ns ≡ true → entries_by ns k (es ++ e ∷ []) ≡ entries_by ns k es ++ (k + length es + 1, e.edit) ∷ []
entries_push_own ns k [] e h = rw h (ap (λ (v : ℕ). (v, e.edit) ∷ []) (omega arith))
entries_push_own ns k (x ∷ es) e h =
    let more = entries_push_own ns (k + 1) es e h in
    let same : k + 1 + length es + 1 ≡ k + length (x ∷ es) + 1 = omega arith in
    let next : entries_by ns (k + 1) (es ++ e ∷ []) ≡ entries_by ns (k + 1) es ++ (k + length (x ∷ es) + 1, e.edit) ∷ [] = more ∙ ap (λ (v : ℕ). entries_by ns (k + 1) es ++ (v, e.edit) ∷ []) same in
    elim (has x.author ns) as (λ b. at_entry ns k x (es ++ e ∷ []) b ≡ at_entry ns k x es b ++ (k + length (x ∷ es) + 1, e.edit) ∷ []) [
      | true ↦ ap (λ (l : List Receipt). (k + 1, x.edit) ∷ l) next
      | false ↦ next
    ]

pub entries_push_other : (ns : List ℕ) (k : ℕ) (es : List Noted) (e : Noted) → has e.author ns ≡ false → entries_by ns k (es ++ e ∷ []) ≡ entries_by ns k es
entries_push_other ns k [] e h = rw h refl
entries_push_other ns k (x ∷ es) e h =
    let more = entries_push_other ns (k + 1) es e h in
    elim (has x.author ns) as (λ b. at_entry ns k x (es ++ e ∷ []) b ≡ at_entry ns k x es b) [ true ↦ ap (λ (l : List Receipt). (k + 1, x.edit) ∷ l) more | false ↦ more ]

pub entries_nobody : (k : ℕ) (es : List Noted) → entries_by [] k es ≡ []
entries_nobody k [] = refl
entries_nobody k (x ∷ es) = entries_nobody (k + 1) es

-- who has all numbers has all entries
pub entries_all : (ns : List ℕ) (seats k : ℕ) (es : List Noted) → ((n : ℕ) → n < seats → has n ns ≡ true) → AuthorsBelow seats es → entries_by ns k es ≡ receipts_of k es
entries_all ns seats k [] all below = refl
entries_all ns seats k (x ∷ es) all below = ap (at_entry ns k x es) (all x.author below.0) ∙ ap (λ (l : List Receipt). (k + 1, x.edit) ∷ l) (entries_all ns seats (k + 1) es all below.1)

-- a number that was not drawn has no entry
pub entries_undrawn : (bits n k : ℕ) (es : List Noted) → AuthorsDrawn bits es → bit_of bits n ≡ 0 → entries_by (n ∷ []) k es ≡ []
entries_undrawn bits n k [] drawn unset = refl
entries_undrawn bits n k (x ∷ es) drawn unset =
    let set_bit = drawn.0 in
    let other : x.author ≢ n = (λ e. let b : bit_of bits n ≡ 1 = rw e at set_bit in absurd (omega arith)) in
    rw (ne_eqb x.author n other) (entries_undrawn bits n (k + 1) es drawn.1 unset)

-- ---- the receipts of two passes

abbrev pub AllOver : ℕ → List Receipt → Type 0
AllOver k [] = Unit {0}
AllOver k (x ∷ xs) = (k < x.0) × AllOver k xs

over_less : (j k : ℕ) (xs : List Receipt) → j ≤ k → AllOver k xs → AllOver j xs
over_less j k [] h o = tt
over_less j k (x ∷ xs) h o = let a = o.0 in (omega arith, over_less j k xs h o.1)

entries_over : (ns : List ℕ) (k : ℕ) (es : List Noted) → AllOver k (entries_by ns k es)
entries_over ns k [] = tt
entries_over ns k (x ∷ es) =
    let more = over_less k (k + 1) (entries_by ns (k + 1) es) (omega arith) (entries_over ns (k + 1) es) in
    elim (has x.author ns) as (λ b. AllOver k (at_entry ns k x es b)) [ true ↦ (omega arith, more) | false ↦ more ]

insert_first : (y : Receipt) (xs : List Receipt) → AllOver y.0 xs → insert y xs ≡ y ∷ xs
insert_first y [] o = refl
insert_first y (x ∷ xs) o = ap (λ b. if b then y ∷ x ∷ xs else x ∷ insert y xs) (lt-ltb y.0 x.0 o.0)

not_before : (a b : ℕ) → a < b → nat_lt b a ≡ false
not_before a b h = ⊎_elim (λ (t : nat_lt b a ≡ true). absurd (let f = ltb-true b a t in omega arith)) (λ (f : nat_lt b a ≡ false). f) (bool_cases (nat_lt b a))

merge_first : (x : Receipt) (xs ys : List Receipt) → AllOver x.0 ys → merge (x ∷ xs) ys ≡ x ∷ merge xs ys
merge_first x xs [] o = refl
merge_first x xs (y ∷ ys) o =
    ap (λ b. merge (if b then y ∷ x ∷ xs else x ∷ insert y xs) ys) (not_before x.0 y.0 o.0) ∙ merge_first x (insert y xs) ys o.1

merge_second : (y : Receipt) (xs ys : List Receipt) → AllOver y.0 xs → AllOver y.0 ys → merge xs (y ∷ ys) ≡ y ∷ merge xs ys
merge_second y xs ys o p = ap (λ l. merge l ys) (insert_first y xs o) ∙ merge_first y xs ys p

pub has_append : (n : ℕ) (ns ms : List ℕ) → has n (ns ++ ms) ≡ (has n ns || has n ms)
has_append n [] ms = refl
has_append n (x ∷ ns) ms = elim (eqb n x) as (λ b. (b || has n (ns ++ ms)) ≡ ((b || has n ns) || has n ms)) [ true ↦ refl | false ↦ has_append n ns ms ]

pub entries_merge : (ns ms : List ℕ) (k : ℕ) (es : List Noted) → ((a : ℕ) → has a ns ≡ true → has a ms ≡ true → ⊥) → entries_by (ns ++ ms) k es ≡ merge (entries_by ns k es) (entries_by ms k es)
entries_merge ns ms k [] apart = refl
entries_merge ns ms k (x ∷ es) apart = ap (at_entry (ns ++ ms) k x es) (has_append x.author ns ms) ∙ by_owner (entries_merge ns ms (k + 1) es apart) (has x.author ns) (has x.author ms) (apart x.author)
  where
    by_owner : entries_by (ns ++ ms) (k + 1) es ≡ merge (entries_by ns (k + 1) es) (entries_by ms (k + 1) es) → (b c : Bool) → (b ≡ true → c ≡ true → ⊥)
        → at_entry (ns ++ ms) k x es (b || c) ≡ merge (at_entry ns k x es b) (at_entry ms k x es c)
    by_owner more true true never = absurd (never refl refl)
    by_owner more true false never = ap (λ l. (k + 1, x.edit) ∷ l) more ∙ sym (merge_first (k + 1, x.edit) (entries_by ns (k + 1) es) (entries_by ms (k + 1) es) (entries_over ms (k + 1) es))
    by_owner more false true never = ap (λ l. (k + 1, x.edit) ∷ l) more ∙ sym (merge_second (k + 1, x.edit) (entries_by ns (k + 1) es) (entries_by ms (k + 1) es) (entries_over ns (k + 1) es) (entries_over ms (k + 1) es))
    by_owner more false false never = more

-- two lists of numbers with none in common
pub distinct_append : (ns ms : List ℕ) → Distinct ns → Distinct ms → ((a : ℕ) → has a ns ≡ true → has a ms ≡ true → ⊥) → Distinct (ns ++ ms)
distinct_append [] ms d e apart = e
distinct_append (n ∷ ns) ms d e apart =
    let here : has n (n ∷ ns) ≡ true = ap (λ b. b || has n ns) (eq-eqb n n refl) in
    let out : has n ms ≡ false = ⊎_elim (λ (t : has n ms ≡ true). absurd (apart n here t)) (λ (f : has n ms ≡ false). f) (bool_cases (has n ms)) in (
      has_append n ns ms ∙ rw (d.0, out) refl,
      distinct_append ns ms d.1 e (λ a h g. apart a (⊎_elim (λ (t : eqb a n ≡ true). rw t refl) (λ (f : eqb a n ≡ false). rw (f, h) refl) (bool_cases (eqb a n))) g),
    )

pub distinct_apart : (ns ms : List ℕ) → Distinct (ns ++ ms) → (a : ℕ) → has a ns ≡ true → has a ms ≡ true → ⊥
distinct_apart [] ms d a h g = absurd (let no : false ≡ true = h in cc)
distinct_apart (n ∷ ns) ms d a h g =
    let later : has a ns ≡ true → ⊥ = (λ t. distinct_apart ns ms d.1 a t g) in
    dite (ℕ_discrete a n)
    (λ e. absurd (let no : false ≡ true = sym d.0 ∙ has_append n ns ms ∙ rw (rw e at g) (or-true (has n ns)) in cc))
    (λ ne. later (ap (λ b. b || has a ns) (sym (ne_eqb a n ne)) ∙ h))
