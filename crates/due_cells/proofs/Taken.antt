-- Marks that are joined, copied and taken away.
use Rattle.std.proofs.Common.{◌≡◌, ℕ, zero, suc, ◌<◌, ◌≤◌, ◌∙◌, sym, ap, refl, arith, Bool, true, false, not, ◌&&◌, ◌||◌, ◌⊎◌, inl, inr, List, length, replicate}
use Rattle.std.proofs.lemmas.Bool.{true≢false, false≢true, cases_lt}
use Rattle.std.proofs.lemmas.List.{get_or_past, length-replicate, get_or-replicate}
use Rattle.std.proofs.lemmas.List.FromFn.{length-map-range_with_len}
use Rattle.cell_marks.specs.Marked.{is_set, union}
use Rattle.cell_states.specs.Near.{has}
use Rattle.cell_states.specs.Filling.{is_awake}
use Rattle.cell_states.specs.Versions.{any_changes}
use Rattle.cell_states.proofs.Whole.{marks_joined, marks_past}

pub long_union : (a b : List Bool) → length (union a b) ≡ length a
long_union a b = length-map-range_with_len (λ c. is_set a c || is_set b c) 0 (length a)

no_mark : (n c : ℕ) → is_awake (replicate n false) c ≡ false
no_mark n c = by_place (cases_lt c n)
  where
    by_place : (c < n) ⊎ (n ≤ c) → is_awake (replicate n false) c ≡ false
    by_place (inl h) = get_or-replicate n c false false h
    by_place (inr h) = let long : length (replicate n false) ≡ n = length-replicate n false in get_or_past (replicate n false) c false (omega (arith, h, long))

-- a mark that is there is one of a component
pub marked_within : (a : List Bool) (c : ℕ) → is_awake a c ≡ true → c < length a
marked_within a c m = by_place (cases_lt c (length a))
  where
    by_place : (c < length a) ⊎ (length a ≤ c) → c < length a
    by_place (inl h) = h
    by_place (inr h) = absurd (true≢false (sym m ∙ get_or_past a c false h))

-- the marks of a row, in the place of those that stood in another
copied : (b : List Bool) (n c : ℕ) → length b ≡ n → is_awake (union (replicate n false) b) c ≡ is_awake b c
copied b n c wide = by_place (cases_lt c n)
  where
    long : length (replicate n false) ≡ n
    long = length-replicate n false

    by_place : (c < n) ⊎ (n ≤ c) → is_awake (union (replicate n false) b) c ≡ is_awake b c
    by_place (inl h) = marks_joined (replicate n false) b c (omega (arith, h, long)) ∙ ap (λ m. m || is_awake b c) (no_mark n c)
    by_place (inr h) = marks_past (replicate n false) b c (omega (arith, h, long)) ∙ sym (get_or_past b c false (omega (arith, h, wide)))

module _ (a b new : List Bool) (n : ℕ) (none : a ≡ replicate n false) (joined : new ≡ union a b) where
  pub long_copied : length new ≡ n
  long_copied = ap length joined ∙ long_union a b ∙ ap length none ∙ length-replicate n false

  pub copied_at : length b ≡ n → (c : ℕ) → is_awake new c ≡ is_awake b c
  copied_at wide c = ap (λ r. is_awake r c) joined ∙ ap (λ r. is_awake (union r b) c) none ∙ copied b n c wide

regroup : (a b h x y : Bool) → (((a || b) && h) || (x || y)) ≡ (((a && h) || x) || ((b && h) || y))
regroup true true true x y = refl
regroup true false true x y = refl
regroup false true true true y = refl
regroup false true true false y = refl
regroup false false true x y = refl
regroup true true false x y = refl
regroup true false false x y = refl
regroup false true false x y = refl
regroup false false false x y = refl

split : (a b : Bool) → (b ≡ true → a ≡ true) → a ≡ (b || (a && not b))
split a true h = h refl
split true false h = refl
split false false h = refl

-- those that read one that changes read one that has other words, or one that hasn't
module _ (changes worded left : List Bool) (near : List ℕ) where
  pub any_either : (n : ℕ) → ((k : ℕ) → k < n → is_awake changes k ≡ (is_awake worded k || is_awake left k)) → any_changes changes near n ≡ (any_changes worded near n || any_changes left near n)
  any_either zero same = refl
  any_either (suc n) same =
      ap (λ b. (b && has near n) || any_changes changes near n) (same n (omega arith))
      ∙ ap (λ b. ((is_awake worded n || is_awake left n) && has near n) || b) (any_either n (λ k h. same k (omega (arith, h))))
      ∙ regroup (is_awake worded n) (is_awake left n) (has near n) (any_changes worded near n) (any_changes left near n)

  pub any_left : (n : ℕ) → ((k : ℕ) → is_awake worded k ≡ true → is_awake changes k ≡ true) → ((k : ℕ) → k < n → is_awake left k ≡ (is_awake changes k && not (is_awake worded k))) → any_changes changes near n ≡ (any_changes worded near n || any_changes left near n)
  any_left n among is = any_either n (λ k h. split (is_awake changes k) (is_awake worded k) (among k) ∙ ap (λ b. is_awake worded k || b) (sym (is k h)))

rest_read : (a b : Bool) → (a || (b && not a)) ≡ (a || b)
rest_read true b = refl
rest_read false true = refl
rest_read false false = refl

-- those that read one with other words, and beside them the others that read one that changes
pub joined_reads : (reached1 reached known1 known : List Bool) (n c : ℕ) (words others all : Bool) → c < n → length reached1 ≡ n → reached ≡ union reached1 known
    → is_awake reached1 c ≡ words → is_awake known1 c ≡ others → is_awake known c ≡ (is_awake known1 c && not (is_awake reached1 c)) → all ≡ (words || others) → is_awake reached c ≡ all
joined_reads reached1 reached known1 known n c words others all h wide joined one two known_is all_is =
    ap (λ r. is_awake r c) joined ∙ marks_joined reached1 known c (omega (arith, h, wide)) ∙ ap (λ b. is_awake reached1 c || b) known_is
    ∙ rest_read (is_awake reached1 c) (is_awake known1 c) ∙ ap (λ b. b || is_awake known1 c) one ∙ ap (λ b. words || b) two ∙ sym all_is

pub and_not : (a b : Bool) → (a && not b) ≡ true → (a ≡ true) × (b ≡ false)
and_not true true e = absurd (false≢true e)
and_not true false e = (refl, refl)
and_not false b e = absurd (false≢true e)

pub or_not : (a b : Bool) → a ≡ true → (a && not b) ≡ false → b ≡ true
or_not a true p e = refl
or_not true false p e = absurd (true≢false e)
or_not false false p e = absurd (false≢true p)

-- marks of which others were taken away
module _ (a others new : List Bool) (long : length new ≡ length a) (marks : (c : ℕ) → c < length a → is_awake new c ≡ (is_awake a c && not (is_awake others c))) where
  pub stays_marked : (c : ℕ) → is_awake new c ≡ true → (is_awake a c ≡ true) × (is_awake others c ≡ false)
  stays_marked c m = let h = marked_within new c m in and_not (is_awake a c) (is_awake others c) (sym (marks c (omega (arith, h, long))) ∙ m)

  pub taken_away : (c : ℕ) → is_awake a c ≡ true → is_awake new c ≡ false → is_awake others c ≡ true
  taken_away c m gone = or_not (is_awake a c) (is_awake others c) m (sym (marks c (marked_within a c m)) ∙ gone)
