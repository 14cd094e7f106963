-- Marks of queues.
use Rattle.std.proofs.Common.{◌≡◌, ℕ, ◌+◌, ◌*◌, ◌%◌, ◌^◌, ◌<◌, ◌≤◌, Bool, true, false, cond, refl, ap, sym, ◌∙◌, subst, ◌⊎◌, inl, inr, List, length, get_or, replicate, arith}
use Rattle.std.proofs.Math.ListN.{set, length-set}
use Rattle.std.proofs.lemmas.List.{set-get_or, get_or-set_same, get_or-set_other, get_or_default, get_or-replicate, get_or_past, length-replicate}
use Rattle.std.specs.Prelude.{◌==◌, bit_and, bit_or, [], IsSome}
use Rattle.std.specs.Int.{bit_not, w64}
use Rattle.std.proofs.lemmas.Bool.{cases_lt, eq-eqb, eqb-true, ne_eqb}
use Rattle.std.proofs.lemmas.Nat.Bits.{bit_at_set_same, bit_at_set_other, bit_at_clear_same, bit_at_clear_other, bit_at_ones, bit_at-zero}
use Rattle.flat_row.specs.declared.marks.Shown.{Shown}
use Rattle.flat_row.specs.declared.marks.Marks.{Marks}
use Rattle.flat_row.specs.Masks.{has, IsSetOf}
use Rattle.flat_row.specs.declared.marks.Rule.{Rule}
use Rattle.flat_row.specs.Queues.{shown_at, shown_of, AreMarked}
use Rattle.arrayvec.specs.ArrayVec.{ArrayVec}
use Rattle.omega_net.specs.Ports.{queue_at, empty}
use Rattle.omega_net.specs.Queues.{head}

-- a set with a label, and without one
pub with_label : (set x : ℕ) → x < 64 → IsSetOf (λ y. cond (y == x) true (has set y)) (bit_or set (1 * 2 ^ x % 2 ^ 64))
with_label set x h y within = by_test (y == x) refl
  where
    by_test : (t : Bool) → (y == x) ≡ t → has (bit_or set (1 * 2 ^ x % 2 ^ 64)) y ≡ cond t true (has set y)
    by_test true e = let same : y ≡ x = eqb-true y x e in ap (has (bit_or set (1 * 2 ^ x % 2 ^ 64))) same ∙ ap (λ n. n == 1) (bit_at_set_same w64 set x h)
    by_test false e = ap (λ n. n == 1) (bit_at_set_other w64 set x h y (λ same. false_true (sym e ∙ eq-eqb y x same)))
      where
        false_true : false ≡ true → ⊥
        false_true e = cc

pub without_label : (set x : ℕ) → x < 64 → IsSetOf (λ y. cond (y == x) false (has set y)) (bit_and set (bit_not w64 (1 * 2 ^ x % 2 ^ 64)))
without_label set x h y within = by_test (y == x) refl
  where
    by_test : (t : Bool) → (y == x) ≡ t → has (bit_and set (bit_not w64 (1 * 2 ^ x % 2 ^ 64))) y ≡ cond t false (has set y)
    by_test true e = let same : y ≡ x = eqb-true y x e in ap (has (bit_and set (bit_not w64 (1 * 2 ^ x % 2 ^ 64)))) same ∙ ap (λ n. n == 1) (bit_at_clear_same w64 set x h)
    by_test false e = ap (λ n. n == 1) (bit_at_clear_other w64 set x h y within (λ same. false_true (sym e ∙ eq-eqb y x same)))
      where
        false_true : false ≡ true → ⊥
        false_true e = cc

-- four marks at once
abbrev shows : Bool → Bool → Bool → Bool → Shown
shows a b c d = record { any = a; asks = b; two = c; one = d }

pub four : (marks next : Marks) (shown : Shown) (x : ℕ)
    → IsSetOf (λ y. cond (y == x) shown.any (has marks.any y)) next.any
    → IsSetOf (λ y. cond (y == x) shown.asks (has marks.asks y)) next.asks
    → IsSetOf (λ y. cond (y == x) shown.two (has marks.two y)) next.two
    → IsSetOf (λ y. cond (y == x) shown.one (has marks.one y)) next.one
    → (y : ℕ) → y < 64 → shown_at next y ≡ cond (y == x) shown (shown_at marks y)
four marks next shown x a b c d y within =
    ap (λ t. shows t (has next.asks y) (has next.two y) (has next.one y)) (a y within)
    ∙ ap (λ t. shows (cond (y == x) shown.any (has marks.any y)) t (has next.two y) (has next.one y)) (b y within)
    ∙ ap (λ t. shows (cond (y == x) shown.any (has marks.any y)) (cond (y == x) shown.asks (has marks.asks y)) t (has next.one y)) (c y within)
    ∙ ap (λ t. shows (cond (y == x) shown.any (has marks.any y)) (cond (y == x) shown.asks (has marks.asks y)) (cond (y == x) shown.two (has marks.two y)) t) (d y within)
    ∙ by_test (y == x)
  where
    by_test : (t : Bool)
        → shows (cond t shown.any (has marks.any y)) (cond t shown.asks (has marks.asks y)) (cond t shown.two (has marks.two y)) (cond t shown.one (has marks.one y))
        ≡ cond t shown (shown_at marks y)
    by_test true = refl
    by_test false = refl

-- all labels, and none
pub all_labels : IsSetOf (λ x. true) 18446744073709551615
all_labels x within = ap (λ n. n == 1) (bit_at_ones 64 x within)

pub no_labels : IsSetOf (λ x. false) 0
no_labels x within = ap (λ n. n == 1) (bit_at-zero x)

-- each label shows the same
pub shown_alike : (marks : Marks) (shown : Shown)
    → IsSetOf (λ y. shown.any) marks.any → IsSetOf (λ y. shown.asks) marks.asks → IsSetOf (λ y. shown.two) marks.two → IsSetOf (λ y. shown.one) marks.one
    → (y : ℕ) → y < 64 → shown_at marks y ≡ shown
shown_alike marks shown a b c d y within =
    ap (λ t. shows t (has marks.asks y) (has marks.two y) (has marks.one y)) (a y within)
    ∙ ap (λ t. shows shown.any t (has marks.two y) (has marks.one y)) (b y within)
    ∙ ap (λ t. shows shown.any shown.asks t (has marks.one y)) (c y within)
    ∙ ap (λ t. shows shown.any shown.asks shown.two t) (d y within)

module _ {T : Type 0} where
  -- the queue that is found at a label is the one there
  pub found : (queues : List (ArrayVec T)) (x : ℕ) (q : ArrayVec T) → q ≡ get_or queues x q → x < length queues → q ≡ queue_at queues x
  found queues x q e h = e ∙ get_or_default queues x q empty h

  pub found_some : (queues : List (ArrayVec T)) (x : ℕ) (q : ArrayVec T) → q ≡ get_or queues x q → x < length queues → IsSome (head (queue_at queues x)) → IsSome (head q)
  found_some queues x q e h some = subst (λ r. IsSome (head r)) (sym (found queues x q e h)) some

  pub found_long : (queues : List (ArrayVec T)) (x i : ℕ) (q : ArrayVec T) → q ≡ get_or queues x q → x < length queues → i < length (queue_at queues x).items → i < length q.items
  found_long queues x i q e h long = subst (λ r. i < length r.items) (sym (found queues x q e h)) long

  -- the marks are kept where a queue and what it shows are changed
  pub marks_kept : (route : T → ℕ) (rule : Rule) (queues : List (ArrayVec T)) (marks next : Marks) (x : ℕ) (new : ArrayVec T) (seen : List T) (shown : Shown)
      → AreMarked route rule queues marks → x < length queues → seen ≡ new.items → shown ≡ shown_of route rule seen
      → ((y : ℕ) → y < 64 → shown_at next y ≡ cond (y == x) shown (shown_at marks y)) → AreMarked route rule (set queues x new) next
  marks_kept route rule queues marks next x new seen shown before there same_items is changed = record {
    few = subst (λ n. n ≤ 64) (sym (length-set queues x new)) before.few;
    marked = λ y within. changed y within ∙ by_test y within (y == x) refl;
  }
    where
      by_test : (y : ℕ) → y < 64 → (t : Bool) → (y == x) ≡ t → cond t shown (shown_at marks y) ≡ shown_of route rule (queue_at (set queues x new) y).items
      by_test y within true e =
          let same : y ≡ x = eqb-true y x e in
          is ∙ ap (shown_of route rule) same_items ∙ ap (λ q. shown_of route rule q.items) (sym (ap (queue_at (set queues x new)) same ∙ get_or-set_same queues x new empty there))
      by_test y within false e =
          before.marked y within
          ∙ ap (λ q. shown_of route rule q.items) (sym (get_or-set_other queues x y new empty (λ same. false_true (sym e ∙ eq-eqb y x same))))
        where
          false_true : false ≡ true → ⊥
          false_true e = cc

  -- and where a queue is put back as it was found
  pub marks_stay : (route : T → ℕ) (rule : Rule) (queues : List (ArrayVec T)) (marks : Marks) (x : ℕ) (q : ArrayVec T)
      → AreMarked route rule queues marks → q ≡ get_or queues x q → AreMarked route rule (set queues x q) marks
  marks_stay route rule queues marks x q before e =
      subst (λ l. AreMarked route rule l marks) (sym (ap (set queues x) e ∙ set-get_or queues x q)) before

  -- empty queues
  pub all_empty : (route : T → ℕ) (rule : Rule) (lines : ℕ) (marks : Marks) → lines ≤ 64
      → ((x : ℕ) → x < 64 → shown_at marks x ≡ shown_of route rule []) → AreMarked route rule (replicate lines empty) marks
  all_empty route rule lines marks few alike = record {
    few = subst (λ n. n ≤ 64) (sym (length-replicate lines empty)) few;
    marked = λ x within. alike x within ∙ ap (λ q. shown_of route rule q.items) (sym (each x));
  }
    where
      each : (x : ℕ) → queue_at {T = T} (replicate lines empty) x ≡ empty
      each x = elim (cases_lt x lines) [
        | inl h ↦ get_or-replicate lines x empty empty h
        | inr h ↦ get_or_past (replicate lines empty) x empty (subst (λ n. n ≤ x) (sym (length-replicate lines empty)) h)
      ]

  -- the marks of the queues below n, and of the others those of an empty one
  pub record PartlyMarked (route : T → ℕ) (rule : Rule) (queues : List (ArrayVec T)) (n : ℕ) (marks : Marks) : Type 0 where
    pub done : (y : ℕ) → y < 64 → y < n → shown_at marks y ≡ shown_of route rule (queue_at queues y).items
    pub rest : (y : ℕ) → y < 64 → n ≤ y → shown_at marks y ≡ shown_of route rule []

  module _ (route : T → ℕ) (rule : Rule) (queues : List (ArrayVec T)) where
    pub none_marked : (marks : Marks) → ((y : ℕ) → y < 64 → shown_at marks y ≡ shown_of route rule []) → PartlyMarked route rule queues 0 marks
    none_marked marks alike = record { done = λ y within h. absurd (omega (arith, h)); rest = λ y within h. alike y within }

    pub one_marked : (n : ℕ) (marks next : Marks) (q : ArrayVec T) (seen : List T) (shown : Shown) → PartlyMarked route rule queues n marks
        → n < length queues → q ≡ get_or queues n q → seen ≡ q.items → shown ≡ shown_of route rule seen
        → ((y : ℕ) → y < 64 → shown_at next y ≡ cond (y == n) shown (shown_at marks y)) → PartlyMarked route rule queues (n + 1) next
    one_marked n marks next q seen shown partly there at same_items is changed = record {
      done = λ y within h. changed y within ∙ by_test y within h (y == n) refl;
      rest = λ y within h. changed y within ∙ ap (λ t. cond t shown (shown_at marks y)) (ne_eqb y n (λ e. omega (arith, e, h))) ∙ partly.rest y within (omega (arith, h));
    }
      where
        by_test : (y : ℕ) → y < 64 → y < n + 1 → (t : Bool) → (y == n) ≡ t → cond t shown (shown_at marks y) ≡ shown_of route rule (queue_at queues y).items
        by_test y within h true e =
            let same : y ≡ n = eqb-true y n e in
            is ∙ ap (shown_of route rule) same_items ∙ ap (λ p. shown_of route rule p.items) (found queues n q at there ∙ ap (queue_at queues) (sym same))
        by_test y within h false e = elim (cases_lt y n) [
          | inl g ↦ partly.done y within g
          | inr g ↦ absurd (false_true (sym e ∙ eq-eqb y n (omega (arith, g, h))))
        ]
          where
            false_true : false ≡ true → ⊥
            false_true e = cc

    pub all_marked : (n : ℕ) (marks : Marks) → length queues ≤ 64 → n ≡ length queues → PartlyMarked route rule queues n marks → AreMarked route rule queues marks
    all_marked n marks few all partly = record { few = few; marked = λ y within. by_place y within (cases_lt y n) }
      where
        by_place : (y : ℕ) → y < 64 → (y < n) ⊎ (n ≤ y) → shown_at marks y ≡ shown_of route rule (queue_at queues y).items
        by_place y within (inl h) = partly.done y within h
        by_place y within (inr h) = partly.rest y within h ∙ ap (λ p. shown_of route rule p.items) (sym (get_or_past queues y empty (omega (arith, h, all))))
