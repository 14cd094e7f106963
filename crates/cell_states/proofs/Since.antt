-- Versions that follow from which components changed one cycle earlier.
use Rattle.std.proofs.Common.{◌≡◌, ℕ, zero, suc, ◌+◌, ◌<◌, ◌≤◌, ◌∙◌, sym, ap, refl, arith, Bool, true, false, cond, ◌&&◌, ◌||◌, ◌⊎◌, inl, inr, Option, None, Some, is_some, option_map, List, [], ◌∷◌, length, map, take, get_or, replicate}
use Rattle.std.specs.List.{range_with_len}
use Rattle.std.proofs.lemmas.Bool.{cases_lt, true≢false}
use Rattle.std.proofs.lemmas.List.FromFn.{length-map-range_with_len, get_or-map-range_with_len, fill_by_all}
use Rattle.std.proofs.lemmas.List.{length-replicate, get_or-replicate, get_or_past}
use Rattle.std.proofs.lemmas.List.Sums.{sum_by-cons}
use Rattle.cell_marks.specs.Marked.{is_set, union, count_in}
use Rattle.cell_states.specs.Versions.{versions_of, IsEach, any_changes, version_by, shown}
use Rattle.cell_states.specs.Near.{has, near_at}
use Rattle.cell_states.specs.Filling.{is_awake}
use Rattle.std.proofs.lemmas.List.Elements.{recursion_from_All}
use Rattle.std.proofs.Common.{All}
use Rattle.cell_states.proofs.Cases.{has_item}

-- how many of the first components are marked, one more of them
pub count_next : (marks : List Bool) (n : ℕ) → n < length marks → count_in (take (suc n) marks) ≡ count_in (take n marks) + cond (is_awake marks n) 1 0
count_next [] n h = absurd (omega (arith, h))
count_next (m ∷ marks) zero h = refl
count_next (m ∷ marks) (suc n) h =
    let one : count_in (take (suc (suc n)) (m ∷ marks)) ≡ cond m 1 0 + count_in (take (suc n) marks) = sum_by-cons (λ (b : Bool). cond b 1 0) m (take (suc n) marks) in
    let two : count_in (take (suc n) (m ∷ marks)) ≡ cond m 1 0 + count_in (take n marks) = sum_by-cons (λ (b : Bool). cond b 1 0) m (take n marks) in
    omega (arith, one, two, count_next marks n (omega (arith, h)))

module _ (changes : List Bool) (near : List ℕ) (clock : ℕ) where
  -- where none of them is near a cell, its version stands
  pub version_none : (was n : ℕ) → any_changes changes near n ≡ false → version_by changes near clock was n ≡ was
  version_none was zero h = refl
  version_none was (suc n) h = by_test (is_awake changes n && has near n) h (version_none was n)
    where
      by_test : (b : Bool) → (b || any_changes changes near n) ≡ false → (any_changes changes near n ≡ false → version_by changes near clock was n ≡ was) → cond b (clock + (count_in (take n changes) + 1)) (version_by changes near clock was n) ≡ was
      by_test true e before = absurd (true≢false e)
      by_test false e before = before e

  -- where one of them is near it, what stands makes no difference
  pub version_some : (was now n : ℕ) → any_changes changes near n ≡ true → version_by changes near clock was n ≡ version_by changes near clock now n
  version_some was now zero h = absurd (true≢false (sym h))
  version_some was now (suc n) h = by_test (is_awake changes n && has near n) h (version_some was now n)
    where
      by_test : (b : Bool) → (b || any_changes changes near n) ≡ true → (any_changes changes near n ≡ true → version_by changes near clock was n ≡ version_by changes near clock now n) → cond b (clock + (count_in (take n changes) + 1)) (version_by changes near clock was n) ≡ cond b (clock + (count_in (take n changes) + 1)) (version_by changes near clock now n)
      by_test true e before = refl
      by_test false e before = before e

  -- components behind the last one that changed and is near
  version_over : (was m n : ℕ) → m ≤ n → ((k : ℕ) → m ≤ k → (is_awake changes k && has near k) ≡ false) → version_by changes near clock was n ≡ version_by changes near clock was m
  version_over was m zero h none = let e : zero ≡ m = omega (arith, h) in ap (version_by changes near clock was) e
  version_over was m (suc n) h none = by_place (cases_lt n m) (λ l. version_over was m n l none)
    where
      by_place : (n < m) ⊎ (m ≤ n) → (m ≤ n → version_by changes near clock was n ≡ version_by changes near clock was m) → version_by changes near clock was (suc n) ≡ version_by changes near clock was m
      by_place (inl l) before = let e : suc n ≡ m = omega (arith, h, l) in ap (version_by changes near clock was) e
      by_place (inr l) before = ap (λ b. cond b (clock + (count_in (take n changes) + 1)) (version_by changes near clock was n)) (none n l) ∙ before l

  pub version_unseen : (was n : ℕ) → ((k : ℕ) → 0 ≤ k → (is_awake changes k && has near k) ≡ false) → version_by changes near clock was n ≡ was
  version_unseen was n none = version_over was 0 n (omega arith) none

  and_left : (a b : Bool) → (a && b) ≡ true → a ≡ true
  and_left true b e = refl
  and_left false b e = absurd (true≢false (sym e))

  pub version_last : (was m n : ℕ) → m < n → n ≤ length changes → (is_awake changes m && has near m) ≡ true → ((k : ℕ) → m + 1 ≤ k → (is_awake changes k && has near k) ≡ false) → version_by changes near clock was n ≡ clock + count_in (take (m + 1) changes)
  version_last was m n h len here none =
      let one : m + 1 ≡ suc m = omega arith in
      let counted : count_in (take (suc m) changes) ≡ count_in (take m changes) + 1 = count_next changes m (omega (arith, h, len)) ∙ ap (λ b. count_in (take m changes) + cond b 1 0) (and_left (is_awake changes m) (has near m) here) in
      version_over was (m + 1) n (omega (arith, h)) none
      ∙ ap (version_by changes near clock was) one
      ∙ ap (λ b. cond b (clock + (count_in (take m changes) + 1)) (version_by changes near clock was m)) here
      ∙ omega (arith, counted, ap (λ k. count_in (take k changes)) one)

-- lists that have the same components
module _ (changes : List Bool) (near near1 : List ℕ) where
  pub any_same : (n : ℕ) → ((k : ℕ) → k < n → has near k ≡ has near1 k) → any_changes changes near n ≡ any_changes changes near1 n
  any_same zero same = refl
  any_same (suc n) same =
      ap (λ b. (is_awake changes n && b) || any_changes changes near n) (same n (omega arith))
      ∙ ap (λ b. (is_awake changes n && has near1 n) || b) (any_same n (λ k h. same k (omega (arith, h))))

-- what is shown of each
pub length_shown : (near : Option (List (List ℕ))) (changes : List Bool) (clock : ℕ) (standing : List ℕ) → length (shown near changes clock standing) ≡ length standing
length_shown None changes clock standing = refl
length_shown (Some near) changes clock standing = length-map-range_with_len _ 0 (length standing)

pub shown_at : (near : List (List ℕ)) (changes : List Bool) (clock : ℕ) (standing : List ℕ) (c : ℕ) → c < length standing → get_or (shown (Some near) changes clock standing) c 0 ≡ version_by changes (near_at near c) clock (get_or standing c 0) (length changes)
shown_at near changes clock standing c h = get_or-map-range_with_len (λ c. version_by changes (near_at near c) clock (get_or standing c 0) (length changes)) 0 (length standing) c c 0 h (omega arith)

pub length_versions : (count all : ℕ) (each : List ℕ) → IsEach count each → length (versions_of count all each) ≡ count
length_versions count all [] h = length-replicate count all
length_versions count all (first ∷ others) h = h

pub length_view : (near : Option (List (List ℕ))) (changes : List Bool) (clock count all : ℕ) (each : List ℕ) → IsEach count each → length (shown near changes clock (versions_of count all each)) ≡ count
length_view near changes clock count all each h = length_shown near changes clock (versions_of count all each) ∙ length_versions count all each h

pub past_view : (near : Option (List (List ℕ))) (changes : List Bool) (clock count all : ℕ) (each : List ℕ) → IsEach count each → (c : ℕ) → count ≤ c → get_or (shown near changes clock (versions_of count all each)) c 0 ≡ 0
past_view near changes clock count all each h c out = get_or_past (shown near changes clock (versions_of count all each)) c 0 (omega (arith, length_view near changes clock count all each h, out))

pub unnoted : {A B : Type 0} (f : A → B) (o : Option A) → is_some o ≡ false → option_map f o ≡ None
unnoted f None h = refl
unnoted f (Some x) h = absurd (true≢false h)

-- marks that are taken over, where none was set
pub union_none : (n : ℕ) (row : List Bool) → length row ≡ n → union (replicate n false) row ≡ row
union_none n row h =
    ap (λ k. map (λ c. is_set (replicate n false) c || is_set row c) (range_with_len 0 k)) (length-replicate n false)
    ∙ sym (fill_by_all (λ c. is_set (replicate n false) c || is_set row c) row n false h (λ c k. sym (ap (λ b. b || is_set row c) (get_or-replicate n c false false k))))

-- the versions of a cycle at which no change is noted and none stands for a component alone
pub one_version : (near : Option (List (List ℕ))) (changes : List Bool) (clock count all : ℕ) (each : List ℕ) → near ≡ None → each ≡ [] → shown near changes clock (versions_of count all each) ≡ replicate count all
one_version near changes clock count all each e f =
    ap (λ o. shown o changes clock (versions_of count all each)) e ∙ ap (λ (vs : List ℕ). versions_of count all vs) f
