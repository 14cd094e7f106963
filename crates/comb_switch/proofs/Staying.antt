-- What waits in a combining switch stays there: a request at its place, alone or with the operation of one that came; a reply at its
-- place; an entry of the wait buffer until the reply to its first request comes.
use Rattle.std.proofs.Common.{◌≡◌, ◌≢◌, ℕ, zero, suc, ◌<◌, ◌≤◌, Bool, true, false, cond, List, [], ◌∷◌, ◌++◌, length, refl, ap, sym, ◌∙◌, subst, inl, inr, Option, None, Some, arith}
use Rattle.std.specs.Prelude.{nat_lt, not, ◌==◌, ◌&&◌, ◌||◌, ◌⊎◌, is_some, position, slice_get, slice_index_or, slice_set}
use Rattle.std.specs.List.{Contains, remove, list_any}
use Rattle.std.proofs.lemmas.Bool.{ltb-true, eq-eqb, and_parts, false≢true}
use Rattle.std.proofs.lemmas.List.Folds.{list_any-append}
use Rattle.std.proofs.lemmas.List.Quantifiers.{position-Some}
use Rattle.arrayvec.specs.ArrayVec.{ArrayVec}
use Rattle.word_ops.specs.Words.{then_op}
use Rattle.omega_net.specs.declared.message.Tag.{Tag}
use Rattle.omega_net.specs.declared.message.Request.{Request}
use Rattle.omega_net.specs.declared.message.Reply.{Reply}
use Rattle.omega_net.specs.declared.message.Traffic.{Traffic}
use Rattle.omega_net.specs.Limits.{queue_places}
use Rattle.omega_net.specs.Wires.{bit}
use Rattle.omega_net.specs.Queues.{joined, without_head, queue_after}
use Rattle.omega_net.specs.Ports.{queue_at, message_at, mark_at, joined_at, same_tag}
use Rattle.omega_net.proofs.Keeping.{joined_in}
use Rattle.comb_switch.specs.declared.waiting.Waiting.{Waiting}
use Rattle.comb_switch.specs.declared.state.CombState.{CombState}
use Rattle.comb_switch.specs.declared.settings.CombSettings.{CombSettings}
use Rattle.comb_switch.specs.CombSwitch.{youngest_for, combines, both, waiting_for, last_in, combined_in, meets, arrives, splits, returns_to, departed, requests_in, comb_after, entry_at, first_answer, second_answer, sent_back}
use Rattle.comb_switch.proofs.Holding.{removed, arrived_entry, returned_forth, same_tags}
use Rattle.comb_switch.proofs.Keeping.{arrives_back}

some_is : {X : Type 0} {x y : X} → Some x ≡ Some y → x ≡ y
some_is e = cc

no_some : {X : Type 0} {x : X} → None ≡ Some x → ⊥
no_some e = cc

-- what stands at a place of a list stands there in any that begins with it
module _ {X : Type 0} where
  pub front : (xs ys : List X) (n : ℕ) (x : X) → slice_get xs n ≡ Some x → slice_get (xs ++ ys) n ≡ Some x
  front [] ys n x e = absurd (no_some e)
  front (y ∷ xs) ys zero x e = e
  front (y ∷ xs) ys (suc n) x e = front xs ys n x e

  pub joined_front : (q : ArrayVec X) (m : Option X) (n : ℕ) (x : X) → slice_get q.items n ≡ Some x → slice_get (joined q m).items n ≡ Some x
  joined_front q None n x e = e
  joined_front q (Some m) n x e = by_test (nat_lt (length q.items) queue_places)
    where
      by_test : (t : Bool) → (let next : ArrayVec X = cond t (record { items = q.items ++ m ∷ [] }) q in slice_get next.items n ≡ Some x)
      by_test true = front q.items (m ∷ []) n x e
      by_test false = e

  pub queue_front : (leaves : Bool) (a b : Option X) (q : ArrayVec X) (n : ℕ) (x : X) → slice_get (without_head leaves q).items n ≡ Some x → slice_get (queue_after leaves a b q).items n ≡ Some x
  queue_front leaves a b q n x e = joined_front (joined (without_head leaves q) a) b n x (joined_front (without_head leaves q) a n x e)

  -- or with another in its place
  set_front : (xs : List X) (i : ℕ) (f : X → X) (d : X) (n : ℕ) (x : X) → slice_get xs n ≡ Some x
      → (slice_get (slice_set xs i (f (slice_index_or xs i d))) n ≡ Some x) ⊎ ((slice_get (slice_set xs i (f (slice_index_or xs i d))) n ≡ Some (f x)) × (slice_index_or xs i d ≡ x))
  set_front [] i f d n x e = absurd (no_some e)
  set_front (y ∷ ys) zero f d zero x e = inr (ap (λ z. Some (f z)) (some_is e), some_is e)
  set_front (y ∷ ys) zero f d (suc n) x e = inl e
  set_front (y ∷ ys) (suc i) f d zero x e = inl e
  set_front (y ∷ ys) (suc i) f d (suc n) x e = set_front ys i f d n x e

  -- a queue where the one at a port is another
  set_queue : (G : ArrayVec X → Type 0) (qs : List (ArrayVec X)) (p o : ℕ) (v : ArrayVec X) → (p ≡ o → G v) → G (queue_at qs o) → G (queue_at (slice_set qs p v) o)
  set_queue G [] p o v at old = old
  set_queue G (q ∷ qs) zero zero v at old = at refl
  set_queue G (q ∷ qs) zero (suc o) v at old = old
  set_queue G (q ∷ qs) (suc p) zero v at old = old
  set_queue G (q ∷ qs) (suc p) (suc o) v at old = set_queue G qs p o v (λ e. at (ap suc e)) old

  pub joined_at_front : (qs : List (ArrayVec X)) (p o : ℕ) (m : X) (n : ℕ) (x : X) → slice_get (queue_at qs o).items n ≡ Some x → slice_get (queue_at (joined_at qs p m) o).items n ≡ Some x
  joined_at_front qs p o m n x e =
      let G : ArrayVec X → Type 0 = λ q. slice_get q.items n ≡ Some x in
      let H : ℕ → Type 0 = λ i. slice_get (queue_at qs i).items n ≡ Some x in
      set_queue G qs p o (joined (queue_at qs p) (Some m)) (λ same. joined_front (queue_at qs p) (Some m) n x (subst H (sym same) e)) e

-- an entry of a wait buffer that doesn't wait for a tag stays when the first one that does is taken out
tag_itself : (t : Tag) → same_tag t t ≡ true
tag_itself t = ap (λ b. b && (t.issue == t.issue)) (eq-eqb t.proc t.proc refl) ∙ eq-eqb t.issue t.issue refl

module _ (settings : CombSettings) (few : settings.wait ≤ queue_places) where
  -- whether an entry waits for a request's reply
  abbrev marked : CombState → Request → Bool
  marked a r = list_any (λ w. same_tag w.first r.tag) a.wait.items

  -- what stands at a place of an output queue afterwards: the same, or that with the operation of the one that came, for whose reply nothing
  -- waited and now an entry does
  abbrev Stands : CombState → CombState → Option Request → ℕ → Request → ArrayVec Request → Type 0
  Stands old new m n r queue =
      (q : Request) × (slice_get queue.items n ≡ Some q)
      × ((q ≡ r) ⊎ ((z : Request) × (m ≡ Some z) × (q ≡ both r z) × (marked old r ≡ false) × (marked new r ≡ true)))

  combined_stands : (z queued r : Request) (p i : ℕ) (a : CombState) (o n : ℕ) → queued ≡ slice_index_or (queue_at a.fwd p).items i z → combines settings a.wait queued z ≡ true
      → slice_get (queue_at a.fwd o).items n ≡ Some r → Stands a (combined_in z p i queued a) (Some z) n r (queue_at (combined_in z p i queued a).fwd o)
  combined_stands z queued r p i a o n is can e =
      set_queue (Stands a next (Some z) n r) a.fwd p o put (λ same. here same) (r, e, inl refl)
    where
      next : CombState
      next = combined_in z p i queued a

      put : ArrayVec Request
      put = record { items = slice_set (queue_at a.fwd p).items i (both queued z) }

      none : (x : Bool) → not x ≡ true → x ≡ false
      none true e = absurd (false≢true e)
      none false e = refl

      free : (marked a queued ≡ false) × (nat_lt (length a.wait.items) settings.wait ≡ true)
      free =
          let both = and_parts (settings.combine && is_some (then_op queued.op z.op) && not (marked a queued)) (nat_lt (length a.wait.items) settings.wait) can in
          let first = and_parts (settings.combine && is_some (then_op queued.op z.op)) (not (marked a queued)) both.0 in
          (none (marked a queued) first.1, both.1)

      room : length a.wait.items < settings.wait
      room = ltb-true (length a.wait.items) settings.wait free.1

      now : marked next queued ≡ true
      now =
          ap (list_any (λ w. same_tag w.first queued.tag)) (joined_in a.wait (waiting_for queued z) (omega (arith, room)))
          ∙ list_any-append (λ w. same_tag w.first queued.tag) a.wait.items (waiting_for queued z ∷ [])
          ∙ last (marked a queued) (same_tag queued.tag queued.tag) (tag_itself queued.tag)
        where
          last : (x y : Bool) → y ≡ true → (x || (y || false)) ≡ true
          last true y e = refl
          last false y e = ap (λ b. b || false) e

      here : p ≡ o → Stands a next (Some z) n r put
      here same =
          let H : ℕ → Type 0 = λ j. slice_get (queue_at a.fwd j).items n ≡ Some r in
          let G : Request → Type 0 = λ u. (slice_get (slice_set (queue_at a.fwd p).items i (both u z)) n ≡ Some r) ⊎ ((slice_get (slice_set (queue_at a.fwd p).items i (both u z)) n ≡ Some (both r z)) × (u ≡ r)) in
          by_case (subst G (sym is) (set_front (queue_at a.fwd p).items i (λ u. both u z) z n r (subst H (sym same) e)))
        where
          by_case : (slice_get put.items n ≡ Some r) ⊎ ((slice_get put.items n ≡ Some (both r z)) × (queued ≡ r)) → Stands a next (Some z) n r put
          by_case (inl stays) = (r, stays, inl refl)
          by_case (inr (with, was)) =
              (both r z, with, inr (z, refl, refl, ap (marked a) (sym was) ∙ free.0, ap (marked next) (sym was) ∙ now))

  met_stands : (z : Request) (p : ℕ) (at : Option ℕ) (a : CombState) (o n : ℕ) (r : Request) → slice_get (queue_at a.fwd o).items n ≡ Some r
      → Stands a (meets settings z p at a) (Some z) n r (queue_at (meets settings z p at a).fwd o)
  met_stands z p None a o n r e = (r, joined_at_front a.fwd p o z n r e, inl refl)
  met_stands z p (Some i) a o n r e = by_test (combines settings a.wait queued z) refl
    where
      queued : Request
      queued = slice_index_or (queue_at a.fwd p).items i z

      by_test : (t : Bool) → combines settings a.wait queued z ≡ t
          → (let next : CombState = cond t (combined_in z p i queued a) (last_in z p a) in Stands a next (Some z) n r (queue_at next.fwd o))
      by_test true can = combined_stands z queued r p i a o n refl can e
      by_test false can = (r, joined_at_front a.fwd p o z n r e, inl refl)

  arrived_stands : (m : Option Request) (a : CombState) (o n : ℕ) (r : Request) → slice_get (queue_at a.fwd o).items n ≡ Some r
      → Stands a (arrives settings m a) m n r (queue_at (arrives settings m a).fwd o)
  arrived_stands None a o n r e = (r, e, inl refl)
  arrived_stands (Some z) a o n r e =
      let p = bit settings.bit z.place.«module» in
      met_stands z p (youngest_for z.place (queue_at a.fwd p).items) a o n r e

  -- replies that go back
  sent_stands : (y : Reply) (a : CombState) (i n : ℕ) (x : Reply) → slice_get (queue_at a.rev i).items n ≡ Some x → slice_get (queue_at (sent_back settings y a).rev i).items n ≡ Some x
  sent_stands y a i n x e = joined_at_front a.rev (bit settings.bit y.tag.proc) i y n x e

  split_stands : (y : Reply) (at : Option ℕ) (a : CombState) (i n : ℕ) (x : Reply) → slice_get (queue_at a.rev i).items n ≡ Some x → slice_get (queue_at (splits settings y at a).rev i).items n ≡ Some x
  split_stands y None a i n x e = sent_stands y a i n x e
  split_stands y (Some j) a i n x e =
      let w = entry_at a.wait y j in
      sent_stands (second_answer w y) (sent_back settings (first_answer w y) taken) i n x (sent_stands (first_answer w y) taken i n x e)
    where
      taken : CombState
      taken = record a { wait = record { items = remove a.wait.items j } }

  returned_stands : (m : Option Reply) (a : CombState) (i n : ℕ) (x : Reply) → slice_get (queue_at a.rev i).items n ≡ Some x → slice_get (queue_at (returns_to settings m a).rev i).items n ≡ Some x
  returned_stands None a i n x e = e
  returned_stands (Some y) a i n x e = split_stands y (position (λ w. same_tag w.first y.tag) a.wait.items) a i n x e

  -- an entry to whose first request no reply comes
  split_waits : (y : Reply) (at : Option ℕ) (a : CombState) (w : Waiting) → position (λ v. same_tag v.first y.tag) a.wait.items ≡ at → y.tag ≢ w.first
      → Contains a.wait.items w → Contains (splits settings y at a).wait.items w
  split_waits y None a w found other c = c
  split_waits y (Some i) a w found other c = by_case (removed a.wait.items i w c)
    where
      by_case : ((i < length a.wait.items) × (slice_index_or a.wait.items i w ≡ w)) ⊎ Contains (remove a.wait.items i) w → Contains (remove a.wait.items i) w
      by_case (inr stays) = stays
      by_case (inl at) =
          let is = position-Some (λ v. same_tag v.first y.tag) a.wait.items i w found in
          let tag : same_tag w.first y.tag ≡ true = ap (λ v. same_tag v.first y.tag) (sym at.1) ∙ is.1 in
          absurd (other (sym (same_tags w.first y.tag tag)))

  returned_waits : (m : Option Reply) (a : CombState) (w : Waiting) → ((y : Reply) → m ≡ Some y → y.tag ≢ w.first) → Contains a.wait.items w → Contains (returns_to settings m a).wait.items w
  returned_waits None a w other c = c
  returned_waits (Some y) a w other c = split_waits y (position (λ v. same_tag v.first y.tag) a.wait.items) a w refl (other y refl) c

  module _ (t : Traffic) (s : CombState) where
    abbrev left : CombState
    left = departed settings t s

    abbrev between : CombState
    between = arrives settings (message_at t.requests 0) left

    abbrev arrived : CombState
    arrived = requests_in settings t left

    abbrev halfway : CombState
    halfway = returns_to settings (message_at t.replies 0) arrived

    forth : (comb_after settings t s).fwd ≡ arrived.fwd
    forth = returned_forth settings (message_at t.replies 1) halfway ∙ returned_forth settings (message_at t.replies 0) arrived

    -- a request at its place, as it was or with the operation of one that came
    pub request_stays : (o : ℕ) → o < 2 → (n : ℕ) (r : Request) → slice_get (without_head (mark_at t.requests_leave o) (queue_at s.fwd o)).items n ≡ Some r
        → (q : Request) × (slice_get (queue_at (comb_after settings t s).fwd o).items n ≡ Some q)
        × ((q ≡ r) ⊎ ((i : ℕ) × (z : Request) × (i < 2) × (message_at t.requests i ≡ Some z) × (q ≡ both r z)))
    request_stays o lt n r e = by_first (arrived_stands (message_at t.requests 0) left o n r (at_output o lt e))
      where
        Result : Type 0
        Result =
            (q : Request) × (slice_get (queue_at (comb_after settings t s).fwd o).items n ≡ Some q)
            × ((q ≡ r) ⊎ ((i : ℕ) × (z : Request) × (i < 2) × (message_at t.requests i ≡ Some z) × (q ≡ both r z)))

        at_output : (o : ℕ) → o < 2 → slice_get (without_head (mark_at t.requests_leave o) (queue_at s.fwd o)).items n ≡ Some r → slice_get (queue_at left.fwd o).items n ≡ Some r
        at_output zero lt e = e
        at_output (suc zero) lt e = e
        at_output (suc (suc o)) lt e = absurd (omega arith)

        after : (q : Request) → slice_get (queue_at arrived.fwd o).items n ≡ Some q → slice_get (queue_at (comb_after settings t s).fwd o).items n ≡ Some q
        after q e = ap (λ fwd. slice_get (queue_at fwd o).items n) forth ∙ e

        second : Stands between arrived (message_at t.requests 1) n r (queue_at arrived.fwd o) → Result
        second (q, e, inl same) = (q, after q e, inl same)
        second (q, e, inr (z, is, with, was, now)) = (q, after q e, inr (1, z, omega arith, is, with))

        again : (q z : Request) → message_at t.requests 0 ≡ Some z → q ≡ both r z → marked between r ≡ true → Stands between arrived (message_at t.requests 1) n q (queue_at arrived.fwd o) → Result
        again q z is with now (u, e, inl same) = (u, after u e, inr (0, z, omega arith, is, same ∙ with))
        again q z is with now (u, e, inr (v, js, more, was, later)) = absurd (false≢true (sym was ∙ ap (marked between) with ∙ now))

        by_first : Stands left between (message_at t.requests 0) n r (queue_at between.fwd o) → Result
        by_first (q, e, inl same) =
            let here = ap (λ u. Some u) same in
            second (arrived_stands (message_at t.requests 1) between o n r (e ∙ here))
        by_first (q, e, inr (z, is, with, was, now)) = again q z is with now (arrived_stands (message_at t.requests 1) between o n q e)

    -- a reply at its place
    pub reply_stays : (i : ℕ) → i < 2 → (n : ℕ) (y : Reply) → slice_get (without_head (mark_at t.replies_leave i) (queue_at s.rev i)).items n ≡ Some y
        → slice_get (queue_at (comb_after settings t s).rev i).items n ≡ Some y
    reply_stays i lt n y e =
        returned_stands (message_at t.replies 1) halfway i n y
        (returned_stands (message_at t.replies 0) arrived i n y (ap (λ rev. slice_get (queue_at rev i).items n) back ∙ at_input i lt e))
      where
        back : arrived.rev ≡ left.rev
        back = arrives_back settings (message_at t.requests 1) between ∙ arrives_back settings (message_at t.requests 0) left

        at_input : (i : ℕ) → i < 2 → slice_get (without_head (mark_at t.replies_leave i) (queue_at s.rev i)).items n ≡ Some y → slice_get (queue_at left.rev i).items n ≡ Some y
        at_input zero lt e = e
        at_input (suc zero) lt e = e
        at_input (suc (suc i)) lt e = absurd (omega arith)

    -- an entry to whose first request no reply comes
    pub entry_stays : (w : Waiting) → ((o : ℕ) (y : Reply) → o < 2 → message_at t.replies o ≡ Some y → y.tag ≢ w.first)
        → Contains s.wait.items w → Contains (comb_after settings t s).wait.items w
    entry_stays w other c =
        returned_waits (message_at t.replies 1) halfway w (λ y. other 1 y (omega arith))
        (returned_waits (message_at t.replies 0) arrived w (λ y. other 0 y (omega arith))
        (arrived_entry settings (message_at t.requests 1) between w (arrived_entry settings (message_at t.requests 0) left w c)))
