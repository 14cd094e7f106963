-- What a queue is ready for finds a place in it.
use Rattle.std.proofs.Common.{◌≡◌, ℕ, ◌+◌, ◌-◌, ◌<◌, ◌≤◌, Bool, true, false, cond, [], ◌∷◌, ◌++◌, length, refl, ap, sym, ◌∙◌, None, Some, arith, length-append, length-drop, append-nil}
use Rattle.std.specs.Prelude.{nat_lt, nat_le, ◌||◌, ◌&&◌, ◌==◌}
use Rattle.std.proofs.lemmas.Bool.Decides.{nat_tests}
use Rattle.arrayvec.specs.ArrayVec.{ArrayVec}
use Rattle.omega_net.specs.Limits.{queue_places}
use Rattle.omega_net.specs.Queues.{without_head, joined}
use Rattle.omega_net.specs.Kept.{KeepsAll, NothingIsLost}

-- with room there are free places: one, or two where both senders may send
pub some_room : (f turn sender : ℕ) → (nat_le 2 f || ((f == 1) && (turn == sender))) ≡ true → 1 ≤ f
some_room f turn sender e = grind (arith, nat_tests)

pub both_room : (f turn : ℕ) → (nat_le 2 f || ((f == 1) && (turn == 0))) ≡ true → (nat_le 2 f || ((f == 1) && (turn == 1))) ≡ true → 2 ≤ f
both_room f turn a b = grind (arith, nat_tests)

module _ {T : Type 0} where
  pub joined_in : (q : ArrayVec T) (m : T) → length q.items < queue_places → (joined q (Some m)).items ≡ q.items ++ m ∷ []
  joined_in q m h = by_test (nat_lt (length q.items) queue_places) refl
    where
      by_test : (t : Bool) → nat_lt (length q.items) queue_places ≡ t → (let kept : ArrayVec T = cond t (record { items = q.items ++ m ∷ [] }) q in kept.items ≡ q.items ++ m ∷ [])
      by_test true e = refl
      by_test false e = absurd (grind (arith, nat_tests))

  pub shorter : (leaves : Bool) (q : ArrayVec T) → length (without_head leaves q).items ≤ length q.items
  shorter true q = omega (arith, length-drop 1 q.items)
  shorter false q = omega arith

  keeps_all : KeepsAll T
  keeps_all depth turn q leaves None None small a b = sym (append-nil _ ∙ append-nil _)
  keeps_all depth turn q leaves (Some m) None small a b =
      let room : 1 ≤ depth - length q.items = some_room _ turn 0 (a refl) in
      joined_in (without_head leaves q) m (omega (arith, shorter leaves q)) ∙ sym (append-nil _)
  keeps_all depth turn q leaves None (Some n) small a b =
      let room : 1 ≤ depth - length q.items = some_room _ turn 1 (b refl) in
      joined_in (without_head leaves q) n (omega (arith, shorter leaves q)) ∙ ap (λ xs. xs ++ n ∷ []) (sym (append-nil _))
  keeps_all depth turn q leaves (Some m) (Some n) small a b =
      let room : 2 ≤ depth - length q.items = both_room _ turn (a refl) (b refl) in
      let first = joined_in (without_head leaves q) m (omega (arith, shorter leaves q)) in
      let size : length (joined (without_head leaves q) (Some m)).items ≡ length (without_head leaves q).items + 1 = ap length first ∙ length-append _ _ in
      joined_in (joined (without_head leaves q) (Some m)) n (omega (arith, size, shorter leaves q)) ∙ ap (λ xs. xs ++ n ∷ []) first

pub nothing_is_lost : NothingIsLost
nothing_is_lost = (keeps_all, keeps_all)
