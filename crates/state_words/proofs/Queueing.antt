-- Messages that are written one behind another, and read so.
use Rattle.std.proofs.Common.{◌≡◌, ℕ, zero, suc, ◌+◌, ◌-◌, ◌*◌, ◌<◌, ◌≤◌, cond, List, [], ◌∷◌, ◌++◌, length, drop, slice_index, refl, sym, ap, ◌∙◌, append_assoc, Some, arith}
use Rattle.std.proofs.Math.Seq.{drop-nil}
use Rattle.std.proofs.lemmas.Bool.{lt-ltb}
use Rattle.arrayvec.specs.ArrayVec.{ArrayVec}
use Rattle.omega_net.specs.Limits.{queue_places}
use Rattle.omega_net.specs.Queues.{joined}
use Rattle.state_words.specs.Reading.{messages_from, after}

-- what is left after some, and after others
drop_more : {X : Type 0} (m n : ℕ) (xs : List X) → drop m (drop n xs) ≡ drop (n + m) xs
drop_more m zero xs = ap (λ k. drop k xs) (plain m)
  where
    plain : (k : ℕ) → k ≡ 0 + k
    plain k = omega arith
drop_more m (suc n) [] = drop-nil m ∙ sym (drop-nil (suc n + m))
drop_more m (suc n) (x ∷ xs) = drop_more m n xs ∙ ap (λ k. drop k (x ∷ xs)) (next n m)
  where
    next : (j k : ℕ) → suc (j + k) ≡ suc j + k
    next j k = omega arith

-- a message more of a queue is read
joined_items : {T : Type 0} (q : ArrayVec T) (m : T) → length q.items < queue_places → joined q (Some m) ≡ record { items = q.items ++ m ∷ [] }
joined_items q m h = ap (λ b. cond b (record { items = q.items ++ m ∷ [] }) q) (lt-ltb (length q.items) queue_places h)

from_more : {T : Type 0} (from : ℕ → ℕ → T) (count i : ℕ) (ws : List ℕ) → i < count
    → from (slice_index ws 0) (slice_index ws 1) ∷ messages_from from (count - (i + 1)) (drop 2 ws) ≡ messages_from from (count - i) ws
from_more from count i ws h = ap (λ n. messages_from from n ws) (less count i h)
  where
    less : (n k : ℕ) → k < n → suc (n - (k + 1)) ≡ n - k
    less n k b = omega (arith, b)

pub read_more : {T : Type 0} (from : ℕ → ℕ → T) (count i : ℕ) (q new : ArrayVec T) (m : T) (a b : ℕ) (ws others : List ℕ) (all : List T)
    → new ≡ joined q (Some m) → m ≡ from a b → a ≡ slice_index ws 0 → b ≡ slice_index ws 1 → others ≡ drop 2 ws
    → q.items ++ messages_from from (count - i) ws ≡ all → length q.items ≡ i → i < count → count ≤ queue_places
    → new.items ++ messages_from from (count - (i + 1)) others ≡ all
read_more from count i q new m a b ws others all pushed made first second rest before many some few =
    ap (λ (v : ArrayVec _). v.items ++ messages_from from (count - (i + 1)) others) (pushed ∙ joined_items q m (omega (arith, many, some, few)))
    ∙ append_assoc q.items (m ∷ []) (messages_from from (count - (i + 1)) others)
    ∙ ap (λ x. q.items ++ x ∷ messages_from from (count - (i + 1)) others) (made ∙ ap (λ n. from n b) first ∙ ap (λ n. from (slice_index ws 0) n) second)
    ∙ ap (λ v. q.items ++ from (slice_index ws 0) (slice_index ws 1) ∷ messages_from from (count - (i + 1)) v) rest
    ∙ ap (λ v. q.items ++ v) (from_more from count i ws some)
    ∙ before

one_longer : {X : Type 0} (xs : List X) (x : X) → length (xs ++ x ∷ []) ≡ length xs + 1
one_longer [] x = refl
one_longer (y ∷ xs) x = ap suc (one_longer xs x) ∙ next (length xs)
  where
    next : (n : ℕ) → suc (n + 1) ≡ suc n + 1
    next n = omega arith

pub many_more : {T : Type 0} (i : ℕ) (q new : ArrayVec T) (m : T) → new ≡ joined q (Some m) → length q.items ≡ i → i < queue_places → length new.items ≡ i + 1
many_more i q new m pushed many some =
    ap (λ (v : ArrayVec _). length v.items) (pushed ∙ joined_items q m (omega (arith, many, some)))
    ∙ one_longer q.items m ∙ ap (λ n. n + 1) many

pub rest_more : (i : ℕ) (ws here others : List ℕ) → others ≡ drop 2 here → here ≡ after i ws → others ≡ after (i + 1) ws
rest_more i ws here others a b = a ∙ ap (λ v. drop 2 v) b ∙ drop_more 2 (2 * i) ws ∙ ap (λ n. drop n ws) (two_more i)
  where
    two_more : (n : ℕ) → 2 * n + 2 ≡ 2 * (n + 1)
    two_more n = omega arith
