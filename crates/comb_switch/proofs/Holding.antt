-- A combining switch has each message that came to it, and each request that it combined into another.
use Rattle.std.proofs.Common.{◌≡◌, ◌≢◌, ℕ, zero, suc, ◌<◌, ◌/◌, ◌^◌, Bool, true, false, cond, List, [], ◌∷◌, ◌++◌, length, refl, ap, sym, ◌∙◌, subst, inl, inr, Option, None, Some, arith, get_or}
use Rattle.std.specs.Prelude.{nat_lt, ◌==◌, ◌⊎◌, IfSome, position, filter, slice_index_or, slice_set}
use Rattle.std.specs.List.{Contains, remove}
use Rattle.std.proofs.Math.Nat.{mod-lt}
use Rattle.std.proofs.lemmas.Bool.{eqb-true, eq-eqb, and_parts, false≢true}
use Rattle.std.proofs.lemmas.List.{length-set, get_or-set_same, get_or-set_other, get_or_default}
use Rattle.std.proofs.lemmas.List.Elements.{Contains-append_left, Contains-append_right, Contains-push}
use Rattle.std.proofs.lemmas.List.Quantifiers.{position-Some}
use Rattle.arrayvec.specs.ArrayVec.{ArrayVec}
use Rattle.omega_net.specs.declared.message.Tag.{Tag}
use Rattle.omega_net.specs.declared.message.Request.{Request}
use Rattle.omega_net.specs.declared.message.Reply.{Reply}
use Rattle.omega_net.specs.Limits.{queue_places}
use Rattle.omega_net.specs.Wires.{bit}
use Rattle.omega_net.specs.Queues.{joined}
use Rattle.omega_net.specs.Ports.{queue_at, message_at, joined_at, same_tag}
use Rattle.comb_switch.specs.declared.waiting.Waiting.{Waiting}
use Rattle.comb_switch.specs.declared.state.CombState.{CombState}
use Rattle.comb_switch.specs.declared.settings.CombSettings.{CombSettings}
use Rattle.comb_switch.specs.CombSwitch.{youngest_for, combines, both, waiting_for, last_in, combined_in, meets, arrives, splits, returns_to, departed, requests_in, comb_after, entry_at, second_answer}
use Rattle.comb_switch.specs.Kept.{HasArrived, answers_at, answers, back_from}
use Rattle.comb_switch.specs.Held.{HasReply, IsCombined, HasRequest, MessagesAreHeld}
use Rattle.comb_switch.proofs.Arriving.{outputs, requests_are_kept, grown}
use Rattle.comb_switch.proofs.Keeping.{replies_are_kept}

module _ {X : Type 0} where
  later : (y x : X) (ys : List X) → Contains ys x → Contains (y ∷ ys) x
  later y x ys (k, lt, e) = (suc k, omega arith, e)

  -- an element of a list is the one at place i, or is there without that one, or with another in its place
  pub removed : (xs : List X) (i : ℕ) (x : X) → Contains xs x → ((i < length xs) × (slice_index_or xs i x ≡ x)) ⊎ Contains (remove xs i) x
  removed [] i x (k, lt, e) = absurd (omega arith)
  removed (y ∷ ys) zero x (zero, lt, e) = inl (omega arith, e)
  removed (y ∷ ys) zero x (suc k, lt, e) = inr (k, omega arith, e)
  removed (y ∷ ys) (suc i) x (zero, lt, e) = inr (zero, omega arith, e)
  removed (y ∷ ys) (suc i) x (suc k, lt, e) = by_case (removed ys i x (k, omega arith, e))
    where
      by_case : ((i < length ys) × (slice_index_or ys i x ≡ x)) ⊎ Contains (remove ys i) x
          → ((suc i < length (y ∷ ys)) × (slice_index_or ys i x ≡ x)) ⊎ Contains (y ∷ remove ys i) x
      by_case (inl same) = inl (omega (arith, same.0), same.1)
      by_case (inr c) = inr (later y x (remove ys i) c)

  replaced : (xs : List X) (i : ℕ) (v x : X) → Contains xs x → ((i < length xs) × (slice_index_or xs i x ≡ x)) ⊎ Contains (slice_set xs i v) x
  replaced xs i v x (k, lt, e) = by_test (k == i) refl
    where
      by_test : (t : Bool) → (k == i) ≡ t → ((i < length xs) × (slice_index_or xs i x ≡ x)) ⊎ Contains (slice_set xs i v) x
      by_test true at =
          let same : k ≡ i = eqb-true k i at in
          inl (omega arith, ap (λ j. slice_index_or xs j x) (sym same) ∙ e)
      by_test false at =
          let apart : k ≢ i = λ same. false≢true (sym at ∙ eq-eqb k i same) in
          inr (k, omega (arith, length-set xs i v), get_or-set_other xs i k v x apart ∙ e)

  -- one that passes a test is among those that do
  pub passed : (p : X → Bool) (xs : List X) (x : X) → Contains xs x → p x ≡ true → Contains (filter p xs) x
  passed p [] x (k, lt, e) is = absurd (omega arith)
  passed p (y ∷ ys) x (zero, lt, e) is = let P : X → Type 0 = λ z. p z ≡ true in rw (subst P (sym e) is) (zero, omega arith, e)
  passed p (y ∷ ys) x (suc k, lt, e) is = by_test (p y) (passed p ys x (k, omega arith, e) is)
    where
      by_test : (t : Bool) → Contains (filter p ys) x → Contains (cond t (y ∷ filter p ys) (filter p ys)) x
      by_test true rest = later y x (filter p ys) rest
      by_test false rest = rest

low : (b n : ℕ) → bit b n < 2
low b n = mod-lt (n / 2 ^ b) (omega arith)

module _ (settings : CombSettings) where
  -- replies that return leave the output queues
  split_forth : (y : Reply) (at : Option ℕ) (a : CombState) → (splits settings y at a).fwd ≡ a.fwd
  split_forth y None a = refl
  split_forth y (Some i) a = refl

  pub returned_forth : (m : Option Reply) (a : CombState) → (returns_to settings m a).fwd ≡ a.fwd
  returned_forth None a = refl
  returned_forth (Some y) a = split_forth y (position (λ w. same_tag w.first y.tag) a.wait.items) a

  -- an entry that waits stays, or the reply to its second request goes back
  split_entry : (y : Reply) (at : Option ℕ) (a : CombState) (w : Waiting) → Contains a.wait.items w
      → Contains (splits settings y at a).wait.items w ⊎ Contains (answers_at a.wait y at) (second_answer w y)
  split_entry y None a w c = inl c
  split_entry y (Some i) a w c = by_case (removed a.wait.items i w c)
    where
      by_case : ((i < length a.wait.items) × (slice_index_or a.wait.items i w ≡ w)) ⊎ Contains (remove a.wait.items i) w
          → Contains (remove a.wait.items i) w ⊎ Contains (answers_at a.wait y (Some i)) (second_answer w y)
      by_case (inr stays) = inl stays
      by_case (inl same) = let entry : entry_at a.wait y i ≡ w = get_or_default a.wait.items i _ w same.0 ∙ same.1 in inr (suc zero, omega arith, ap (λ v. second_answer v y) entry)

  returned_entry : (m : Option Reply) (a : CombState) (w : Waiting) → Contains a.wait.items w
      → Contains (returns_to settings m a).wait.items w ⊎ ((word : ℕ) × Contains (answers a.wait m) (record { tag = w.second; word = word }))
  returned_entry None a w c = inl c
  returned_entry (Some y) a w c = by_case (split_entry y (position (λ v. same_tag v.first y.tag) a.wait.items) a w c)
    where
      by_case : Contains (returns_to settings (Some y) a).wait.items w ⊎ Contains (answers a.wait (Some y)) (second_answer w y)
          → Contains (returns_to settings (Some y) a).wait.items w ⊎ ((word : ℕ) × Contains (answers a.wait (Some y)) (record { tag = w.second; word = word }))
      by_case (inl stays) = inl stays
      by_case (inr back) = inr ((second_answer w y).word, back)

  -- a request that arrives leaves the entries that wait
  pub joined_keeps : {X : Type 0} (q : ArrayVec X) (m x : X) → Contains q.items x → Contains (joined q (Some m)).items x
  joined_keeps {X} q m x c = by_test (nat_lt (length q.items) queue_places)
    where
      by_test : (t : Bool) → (let next : ArrayVec X = cond t (record { items = q.items ++ m ∷ [] }) q in Contains next.items x)
      by_test true = Contains-append_left q.items (m ∷ []) x c
      by_test false = c

  met_entry : (r : Request) (o : ℕ) (at : Option ℕ) (a : CombState) (w : Waiting) → Contains a.wait.items w → Contains (meets settings r o at a).wait.items w
  met_entry r o None a w c = c
  met_entry r o (Some i) a w c = by_test (combines settings a.wait queued r)
    where
      queued : Request
      queued = slice_index_or (queue_at a.fwd o).items i r

      by_test : (t : Bool) → (let next : CombState = cond t (combined_in r o i queued a) (last_in r o a) in Contains next.wait.items w)
      by_test true = joined_keeps a.wait (waiting_for queued r) w c
      by_test false = c

  pub arrived_entry : (m : Option Request) (a : CombState) (w : Waiting) → Contains a.wait.items w → Contains (arrives settings m a).wait.items w
  arrived_entry None a w c = c
  arrived_entry (Some r) a w c =
      let o = bit settings.bit r.place.«module» in
      met_entry r o (youngest_for r.place (queue_at a.fwd o).items) a w c

  -- and one that waits stays, as it was or with the operation of both
  abbrev Has : List (ArrayVec Request) → ℕ → Request → Type 0
  Has fwd o r = Contains (queue_at fwd o).items r ⊎ ((other : Request) × Contains (queue_at fwd o).items (both r other))

  last_has : (q : Request) (p : ℕ) (xs ys : List Request) (o : ℕ) (r : Request) → p < 2 → o < 2
      → Contains (queue_at (outputs xs ys) o).items r → Has (joined_at (outputs xs ys) p q) o r
  last_has q zero xs ys zero r _ _ c = inl (joined_keeps (record { items = xs }) q r c)
  last_has q zero xs ys (suc zero) r _ _ c = inl c
  last_has q (suc zero) xs ys zero r _ _ c = inl c
  last_has q (suc zero) xs ys (suc zero) r _ _ c = inl (joined_keeps (record { items = ys }) q r c)
  last_has q (suc (suc p)) xs ys o r lp lo c = absurd (omega arith)
  last_has q zero xs ys (suc (suc o)) r lp lo c = absurd (omega arith)
  last_has q (suc zero) xs ys (suc (suc o)) r lp lo c = absurd (omega arith)

  put_has : (q : Request) (i : ℕ) (xs : List Request) (r : Request) → Contains xs r
      → Contains (slice_set xs i (both (slice_index_or xs i q) q)) r ⊎ ((other : Request) × Contains (slice_set xs i (both (slice_index_or xs i q) q)) (both r other))
  put_has q i xs r c = by_case (replaced xs i v r c)
    where
      v : Request
      v = both (slice_index_or xs i q) q

      by_case : ((i < length xs) × (slice_index_or xs i r ≡ r)) ⊎ Contains (slice_set xs i v) r
          → Contains (slice_set xs i v) r ⊎ ((other : Request) × Contains (slice_set xs i v) (both r other))
      by_case (inr stays) = inl stays
      by_case (inl same) =
          let queued : slice_index_or xs i q ≡ r = get_or_default xs i q r same.0 ∙ same.1 in
          inr (q, (i, omega (arith, length-set xs i v, same.0), get_or-set_same xs i v (both r q) same.0 ∙ ap (λ z. both z q) queued))

  abbrev put_in : List (ArrayVec Request) → ℕ → ℕ → Request → List (ArrayVec Request)
  put_in fwd p i q = slice_set fwd p (record { items = slice_set (queue_at fwd p).items i (both (slice_index_or (queue_at fwd p).items i q) q) })

  combined_has : (q : Request) (p i : ℕ) (xs ys : List Request) (o : ℕ) (r : Request) → p < 2 → o < 2
      → Contains (queue_at (outputs xs ys) o).items r → Has (put_in (outputs xs ys) p i q) o r
  combined_has q zero i xs ys zero r _ _ c = put_has q i xs r c
  combined_has q zero i xs ys (suc zero) r _ _ c = inl c
  combined_has q (suc zero) i xs ys zero r _ _ c = inl c
  combined_has q (suc zero) i xs ys (suc zero) r _ _ c = put_has q i ys r c
  combined_has q (suc (suc p)) i xs ys o r lp lo c = absurd (omega arith)
  combined_has q zero i xs ys (suc (suc o)) r lp lo c = absurd (omega arith)
  combined_has q (suc zero) i xs ys (suc (suc o)) r lp lo c = absurd (omega arith)

  met_request : (q : Request) (p : ℕ) (at : Option ℕ) (a : CombState) (xs ys : List Request) (o : ℕ) (r : Request) → a.fwd ≡ outputs xs ys → p < 2 → o < 2
      → Contains (queue_at (outputs xs ys) o).items r → Has (meets settings q p at a).fwd o r
  met_request q p None a xs ys o r e lp lo c = let G : List (ArrayVec Request) → Type 0 = λ fwd. Has (joined_at fwd p q) o r in subst G (sym e) (last_has q p xs ys o r lp lo c)
  met_request q p (Some i) a xs ys o r e lp lo c = by_test (combines settings a.wait queued q)
    where
      queued : Request
      queued = slice_index_or (queue_at a.fwd p).items i q

      by_test : (t : Bool) → (let next : CombState = cond t (combined_in q p i queued a) (last_in q p a) in Has next.fwd o r)
      by_test true = let G : List (ArrayVec Request) → Type 0 = λ fwd. Has (put_in fwd p i q) o r in subst G (sym e) (combined_has q p i xs ys o r lp lo c)
      by_test false = let G : List (ArrayVec Request) → Type 0 = λ fwd. Has (joined_at fwd p q) o r in subst G (sym e) (last_has q p xs ys o r lp lo c)

  arrived_request : (m : Option Request) (a : CombState) (xs ys : List Request) (o : ℕ) (r : Request) → a.fwd ≡ outputs xs ys → o < 2
      → Contains (queue_at a.fwd o).items r → Has (arrives settings m a).fwd o r
  arrived_request None a xs ys o r e lo c = inl c
  arrived_request (Some q) a xs ys o r e lo c =
      let p = bit settings.bit q.place.«module» in
      let here = let G : List (ArrayVec Request) → Type 0 = λ fwd. Contains (queue_at fwd o).items r in subst G e c in
      met_request q p (youngest_for q.place (queue_at a.fwd p).items) a xs ys o r e (low settings.bit q.place.«module») lo here

-- the reply that came is among those that it becomes
pub same_tags : (a b : Tag) → same_tag a b ≡ true → a ≡ b
same_tags a b e =
    let parts = and_parts (a.proc == b.proc) (a.issue == b.issue) e in
    ap (λ p. tagged p a.issue) (eqb-true _ _ parts.0) ∙ ap (λ i. tagged b.proc i) (eqb-true _ _ parts.1)
  where
    tagged : ℕ → ℕ → Tag
    tagged p i = record { proc = p; issue = i }

itself_at : (wait : ArrayVec Waiting) (y : Reply) (at : Option ℕ) → position (λ w. same_tag w.first y.tag) wait.items ≡ at → Contains (answers_at wait y at) y
itself_at wait y None e = (zero, omega arith, refl)
itself_at wait y (Some i) e =
    let found = position-Some (λ w. same_tag w.first y.tag) wait.items i (entry_at wait y (length wait.items)) e in
    let entry : entry_at wait y i ≡ get_or wait.items i (entry_at wait y (length wait.items)) = get_or_default wait.items i _ _ found.0 in
    let first : (entry_at wait y i).first ≡ y.tag = ap (λ w. w.first) entry ∙ same_tags _ y.tag found.1 in
    (zero, omega arith, ap (λ t. replied t y.word) first)
  where
    replied : Tag → ℕ → Reply
    replied t x = record { tag = t; word = x }

itself : (wait : ArrayVec Waiting) (m : Option Reply) (y : Reply) → m ≡ Some y → Contains (answers wait m) y
itself wait m y e =
    let G : Option Reply → Type 0 = λ n. Contains (answers wait n) y in
    subst G (sym e) (itself_at wait y (position (λ w. same_tag w.first y.tag) wait.items) refl)

pub messages_are_held : MessagesAreHeld
messages_are_held settings t s forward reverse small_f small_r few may_0 may_1 from_0 from_1 = record { requests = requests; replies = replies; combined = combined }
  where
    left : CombState
    left = departed settings t s

    between : CombState
    between = arrives settings (message_at t.requests 0) left

    a : CombState
    a = requests_in settings t left

    back : List Reply
    back = back_from settings t a

    after : CombState
    after = comb_after settings t s

    returns : (y : Reply) → Contains back y → HasReply settings.bit y after
    returns y c =
        let i = bit settings.bit y.tag.proc in
        let kept = replies_are_kept settings t s reverse small_r from_0 from_1 i (low settings.bit y.tag.proc) in
        let G : List Reply → Type 0 = λ ys. Contains ys y in
        subst G (sym kept) (Contains-append_right _ _ y (passed (λ z. bit settings.bit z.tag.proc == i) back y c (eq-eqb i i refl)))

    waits : (w : Waiting) → Contains a.wait.items w → IsCombined settings.bit w.second after
    waits w c = first (returned_entry settings (message_at t.replies 0) a w c)
      where
        then : CombState
        then = returns_to settings (message_at t.replies 0) a

        second : Contains after.wait.items w ⊎ ((word : ℕ) × Contains (answers then.wait (message_at t.replies 1)) (record { tag = w.second; word = word })) → IsCombined settings.bit w.second after
        second (inl stays) = inl (w, refl, stays)
        second (inr (word, c)) = inr (word, returns _ (Contains-append_right _ _ _ c))

        first : Contains then.wait.items w ⊎ ((word : ℕ) × Contains (answers a.wait (message_at t.replies 0)) (record { tag = w.second; word = word })) → IsCombined settings.bit w.second after
        first (inl stays) = second (returned_entry settings (message_at t.replies 1) then w stays)
        first (inr (word, c)) = inr (word, returns _ (Contains-append_left _ _ _ c))

    forth : after.fwd ≡ a.fwd
    forth = returned_forth settings (message_at t.replies 1) (returns_to settings (message_at t.replies 0) a) ∙ returned_forth settings (message_at t.replies 0) a

    stands : (r : Request) → Has settings a.fwd (bit settings.bit r.place.«module») r → HasRequest settings.bit r after
    stands r h = let G : List (ArrayVec Request) → Type 0 = λ fwd. Has settings fwd (bit settings.bit r.place.«module») r in inl (subst G (sym forth) h)

    shape : (m : Option Request) → (us : List Request) × (vs : List Request) × ((arrives settings m left).fwd ≡ outputs us vs)
    shape None = (_, _, refl)
    shape (Some q) =
        let o = bit settings.bit q.place.«module» in
        let more = grown settings q (youngest_for q.place (queue_at left.fwd o).items) o left _ _ refl (low settings.bit q.place.«module») in
        (more.us, more.vs, more.is)

    came : (r : Request) (old new : CombState) → HasArrived (bit settings.bit r.place.«module») r old new
        → Contains (queue_at new.fwd (bit settings.bit r.place.«module»)).items r ⊎ ((queued : Request) × Contains new.wait.items (waiting_for queued r))
    came r old new (inl is) = let G : List Request → Type 0 = λ rs. Contains rs r in inl (subst G (sym is) (Contains-push _ r))
    came r old new (inr (queued, is)) = let G : List Waiting → Type 0 = λ ws. Contains ws (waiting_for queued r) in inr (queued, subst G (sym is) (Contains-push _ _))

    request_0 : (r : Request)
        → Contains (queue_at between.fwd (bit settings.bit r.place.«module»)).items r ⊎ ((queued : Request) × Contains between.wait.items (waiting_for queued r)) → HasRequest settings.bit r after
    request_0 r (inl c) =
        let is = shape (message_at t.requests 0) in
        stands r (arrived_request settings (message_at t.requests 1) between is.0 is.1 (bit settings.bit r.place.«module») r is.2 (low settings.bit r.place.«module») c)
    request_0 r (inr (queued, c)) = inr (waits _ (arrived_entry settings (message_at t.requests 1) between _ c))

    request_1 : (r : Request)
        → Contains (queue_at a.fwd (bit settings.bit r.place.«module»)).items r ⊎ ((queued : Request) × Contains a.wait.items (waiting_for queued r)) → HasRequest settings.bit r after
    request_1 r (inl c) = stands r (inl c)
    request_1 r (inr (queued, c)) = inr (waits _ c)

    requests : (i : ℕ) (r : Request) → i < 2 → message_at t.requests i ≡ Some r → HasRequest settings.bit r after
    requests zero r lt e =
        let G : Option Request → Type 0 = λ m. IfSome m (λ q. HasArrived (bit settings.bit q.place.«module») q left between) in
        let kept = requests_are_kept settings t s forward small_f few may_0 may_1 in
        request_0 r (came r left between (subst G e kept.0))
    requests (suc zero) r lt e =
        let G : Option Request → Type 0 = λ m. IfSome m (λ q. HasArrived (bit settings.bit q.place.«module») q between a) in
        let kept = requests_are_kept settings t s forward small_f few may_0 may_1 in
        request_1 r (came r between a (subst G e kept.1))
    requests (suc (suc i)) r lt e = absurd (omega arith)

    replies : (side : ℕ) (y : Reply) → side < 2 → message_at t.replies side ≡ Some y → HasReply settings.bit y after
    replies zero y lt e = returns y (Contains-append_left _ _ y (itself a.wait (message_at t.replies 0) y e))
    replies (suc zero) y lt e = returns y (Contains-append_right _ _ y (itself (returns_to settings (message_at t.replies 0) a).wait (message_at t.replies 1) y e))
    replies (suc (suc side)) y lt e = absurd (omega arith)

    combined : (w : Waiting) → Contains s.wait.items w → IsCombined settings.bit w.second after
    combined w c = waits w (arrived_entry settings (message_at t.requests 1) between w (arrived_entry settings (message_at t.requests 0) left w c))
