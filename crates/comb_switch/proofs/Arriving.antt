-- Every request that arrives stands in its output queue or in the wait buffer afterwards.
use Rattle.std.proofs.Common.{◌≡◌, ℕ, zero, suc, ◌+◌, ◌-◌, ◌<◌, ◌≤◌, ◌/◌, ◌^◌, Bool, true, false, cond, List, [], ◌∷◌, ◌++◌, length, refl, ap, sym, ◌∙◌, subst, inl, inr, Option, None, Some, arith, length-append}
use Rattle.std.specs.Prelude.{nat_lt, ◌&&◌, ◌==◌, IfSome, slice_index, slice_index_or, slice_set}
use Rattle.std.proofs.Math.Nat.{mod-lt}
use Rattle.std.proofs.lemmas.List.{length-set}
use Rattle.std.proofs.lemmas.Bool.{ltb-true}
use Rattle.arrayvec.specs.ArrayVec.{ArrayVec}
use Rattle.omega_net.specs.declared.message.Request.{Request}
use Rattle.omega_net.specs.declared.message.Traffic.{Traffic}
use Rattle.omega_net.specs.Wires.{bit}
use Rattle.omega_net.specs.Limits.{queue_places}
use Rattle.omega_net.specs.Queues.{has_room, joined, without_head}
use Rattle.omega_net.specs.Ports.{queue_at, message_at, mark_at, joined_at}
use Rattle.omega_net.proofs.Keeping.{joined_in, shorter, some_room, both_room}
use Rattle.comb_switch.specs.declared.state.CombState.{CombState}
use Rattle.comb_switch.specs.declared.settings.CombSettings.{CombSettings}
use Rattle.comb_switch.specs.CombSwitch.{youngest_for, combines, both, waiting_for, last_in, combined_in, meets, arrives, departed}
use Rattle.comb_switch.specs.Kept.{HasArrived, MayCome, RequestsAreKept}

-- two output queues that hold these requests
abbrev pub outputs : List Request → List Request → List (ArrayVec Request)
outputs xs ys = record { items = xs } ∷ record { items = ys } ∷ []

low : (b n : ℕ) → bit b n < 2
low b n = mod-lt (n / 2 ^ b) (omega arith)

last_one : (x y : Bool) → (x && y) ≡ true → y ≡ true
last_one true y e = e
last_one false y e = cc

-- a request goes last into its queue
last : (o : ℕ) (r : Request) (xs ys : List Request) → o < 2 → length (queue_at (outputs xs ys) o).items < queue_places
    → (queue_at (joined_at (outputs xs ys) o r) o).items ≡ (queue_at (outputs xs ys) o).items ++ r ∷ []
last zero r xs ys small h = joined_in (record { items = xs }) r h
last (suc zero) r xs ys small h = joined_in (record { items = ys }) r h
last (suc (suc o)) r xs ys small h = absurd (omega arith)

last_of : (o : ℕ) (r : Request) (fwd : List (ArrayVec Request)) (xs ys : List Request) → fwd ≡ outputs xs ys → o < 2 → length (queue_at (outputs xs ys) o).items < queue_places
    → (queue_at (joined_at fwd o r) o).items ≡ (queue_at fwd o).items ++ r ∷ []
last_of o r fwd xs ys e small h =
    ap (λ qs. (queue_at (joined_at qs o r) o).items) e ∙ last o r xs ys small h ∙ ap (λ qs. (queue_at qs o).items ++ r ∷ []) (sym e)

arrived : (settings : CombSettings) (r : Request) (at : Option ℕ) (o : ℕ) (a : CombState) (xs ys : List Request) → a.fwd ≡ outputs xs ys
    → settings.wait ≤ queue_places → o < 2 → length (queue_at (outputs xs ys) o).items < queue_places → HasArrived o r a (meets settings r o at a)
arrived settings r None o a xs ys e few small h = inl (last_of o r a.fwd xs ys e small h)
arrived settings r (Some i) o a xs ys e few small h = by_test (combines settings a.wait queued r) refl
  where
    queued : Request
    queued = slice_index_or (queue_at a.fwd o).items i r

    by_test : (t : Bool) → combines settings a.wait queued r ≡ t → HasArrived o r a (cond t (combined_in r o i queued a) (last_in r o a))
    by_test true is =
        let room : length a.wait.items < settings.wait = ltb-true (length a.wait.items) settings.wait (last_one _ _ is) in
        inr (queued, joined_in a.wait (waiting_for queued r) (omega arith))
    by_test false is = inl (last_of o r a.fwd xs ys e small h)

-- the output queues afterwards: one of them may be longer by one
pub record Grown (o : ℕ) (xs ys : List Request) (fwd : List (ArrayVec Request)) : Type 0 where
  pub us : List Request
  pub vs : List Request
  pub is : fwd ≡ outputs us vs
  pub first : length us ≤ length xs + cond (o == 0) 1 0
  pub second : length vs ≤ length ys + cond (o == 1) 1 0

one_longer : (q : ArrayVec Request) (r : Request) → length (joined q (Some r)).items ≤ length q.items + 1
one_longer q r = by_test (nat_lt (length q.items) queue_places)
  where
    by_test : (t : Bool) → (let next : ArrayVec Request = cond t (record { items = q.items ++ r ∷ [] }) q in length next.items ≤ length q.items + 1)
    by_test true = omega (arith, length-append q.items (r ∷ []))
    by_test false = omega arith

grown_last : (o : ℕ) (r : Request) (xs ys : List Request) → o < 2 → Grown o xs ys (joined_at (outputs xs ys) o r)
grown_last zero r xs ys small = record { us = (joined (record { items = xs }) (Some r)).items; vs = ys; is = refl; first = one_longer (record { items = xs }) r; second = omega arith }
grown_last (suc zero) r xs ys small = record { us = xs; vs = (joined (record { items = ys }) (Some r)).items; is = refl; first = omega arith; second = one_longer (record { items = ys }) r }
grown_last (suc (suc o)) r xs ys small = absurd (omega arith)

grown_combined : (o i : ℕ) (q : Request) (xs ys : List Request) → o < 2
    → Grown o xs ys (slice_set (outputs xs ys) o (record { items = slice_set (queue_at (outputs xs ys) o).items i q }))
grown_combined zero i q xs ys small = record { us = slice_set xs i q; vs = ys; is = refl; first = omega (arith, length-set xs i q); second = omega arith }
grown_combined (suc zero) i q xs ys small = record { us = xs; vs = slice_set ys i q; is = refl; first = omega arith; second = omega (arith, length-set ys i q) }
grown_combined (suc (suc o)) i q xs ys small = absurd (omega arith)

pub grown : (settings : CombSettings) (r : Request) (at : Option ℕ) (o : ℕ) (a : CombState) (xs ys : List Request) → a.fwd ≡ outputs xs ys → o < 2
    → Grown o xs ys (meets settings r o at a).fwd
grown settings r None o a xs ys e small = subst (λ fwd. Grown o xs ys (joined_at fwd o r)) (sym e) (grown_last o r xs ys small)
grown settings r (Some i) o a xs ys e small = by_test (combines settings a.wait queued r)
  where
    queued : Request
    queued = slice_index_or (queue_at a.fwd o).items i r

    by_test : (t : Bool) → (let next : CombState = cond t (combined_in r o i queued a) (last_in r o a) in Grown o xs ys next.fwd)
    by_test true = subst (λ fwd. Grown o xs ys (slice_set fwd o (record { items = slice_set (queue_at fwd o).items i (both queued r) }))) (sym e) (grown_combined o i (both queued r) xs ys small)
    by_test false = subst (λ fwd. Grown o xs ys (joined_at fwd o r)) (sym e) (grown_last o r xs ys small)

module _ (settings : CombSettings) (t : Traffic) (s : CombState) (depth : ℕ) (small : depth ≤ queue_places) (few : settings.wait ≤ queue_places) where
  abbrev left : CombState
  left = departed settings t s

  abbrev rest : ℕ → List Request
  rest o = (without_head (mark_at t.requests_leave o) (queue_at s.fwd o)).items

  abbrev room : ℕ → ℕ
  room o = depth - length (queue_at s.fwd o).items

  -- room for one request from a sender, and for one behind it
  room_for : (o sender : ℕ) → o < 2 → has_room depth (queue_at s.fwd o) (slice_index s.turn o) sender ≡ true → length (queue_at (outputs (rest 0) (rest 1)) o).items < queue_places
  room_for zero sender lt free_places = omega (arith, some_room (room 0) (slice_index s.turn 0) sender free_places, shorter (mark_at t.requests_leave 0) (queue_at s.fwd 0))
  room_for (suc zero) sender lt free_places = omega (arith, some_room (room 1) (slice_index s.turn 1) sender free_places, shorter (mark_at t.requests_leave 1) (queue_at s.fwd 1))
  room_for (suc (suc o)) sender lt free_places = absurd (omega arith)

  room_behind : (o p : ℕ) (us vs : List Request) → o < 2 → p < 2 → length us ≤ length (rest 0) + cond (o == 0) 1 0 → length vs ≤ length (rest 1) + cond (o == 1) 1 0
      → has_room depth (queue_at s.fwd o) (slice_index s.turn o) 0 ≡ true → has_room depth (queue_at s.fwd p) (slice_index s.turn p) 1 ≡ true
      → length (queue_at (outputs us vs) p).items < queue_places
  room_behind zero zero us vs lo lp hu hv fo fp = omega (arith, both_room (room 0) (slice_index s.turn 0) fo fp, shorter (mark_at t.requests_leave 0) (queue_at s.fwd 0))
  room_behind zero (suc zero) us vs lo lp hu hv fo fp = omega (arith, some_room (room 1) (slice_index s.turn 1) 1 fp, shorter (mark_at t.requests_leave 1) (queue_at s.fwd 1))
  room_behind (suc zero) zero us vs lo lp hu hv fo fp = omega (arith, some_room (room 0) (slice_index s.turn 0) 1 fp, shorter (mark_at t.requests_leave 0) (queue_at s.fwd 0))
  room_behind (suc zero) (suc zero) us vs lo lp hu hv fo fp = omega (arith, both_room (room 1) (slice_index s.turn 1) fo fp, shorter (mark_at t.requests_leave 1) (queue_at s.fwd 1))
  room_behind (suc (suc o)) p us vs lo lp hu hv fo fp = absurd (omega arith)
  room_behind zero (suc (suc p)) us vs lo lp hu hv fo fp = absurd (omega arith)
  room_behind (suc zero) (suc (suc p)) us vs lo lp hu hv fo fp = absurd (omega arith)

  alone : (sender : ℕ) (m : Option Request) → MayCome settings s depth sender m
      → IfSome m (λ r. HasArrived (bit settings.bit r.place.«module») r left (arrives settings m left))
  alone sender None may = tt
  alone sender (Some r) may =
      let o = bit settings.bit r.place.«module» in
      arrived settings r (youngest_for r.place (queue_at left.fwd o).items) o left (rest 0) (rest 1) refl few (low settings.bit r.place.«module»)
      (room_for o sender (low settings.bit r.place.«module») may)

  second : (m n : Option Request) → MayCome settings s depth 0 m → MayCome settings s depth 1 n
      → IfSome n (λ r. HasArrived (bit settings.bit r.place.«module») r (arrives settings m left) (arrives settings n (arrives settings m left)))
  second m None may_m may_n = tt
  second None (Some r) may_m may_n = alone 1 (Some r) may_n
  second (Some q) (Some r) may_m may_n =
      let o = bit settings.bit q.place.«module» in
      let p = bit settings.bit r.place.«module» in
      let between = arrives settings (Some q) left in
      let after = grown settings q (youngest_for q.place (queue_at left.fwd o).items) o left (rest 0) (rest 1) refl (low settings.bit q.place.«module») in
      arrived settings r (youngest_for r.place (queue_at between.fwd p).items) p between after.us after.vs after.is few (low settings.bit r.place.«module»)
      (room_behind o p after.us after.vs (low settings.bit q.place.«module») (low settings.bit r.place.«module») after.first after.second may_m may_n)

pub requests_are_kept : RequestsAreKept
requests_are_kept settings t s depth small few may_0 may_1 =
    (alone settings t s depth small few 0 (message_at t.requests 0) may_0, second settings t s depth small few (message_at t.requests 0) (message_at t.requests 1) may_0 may_1)
