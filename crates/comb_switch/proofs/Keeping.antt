-- Every reply that returns stands in the queue of its processor afterwards.
use Rattle.std.proofs.Common.{◌≡◌, ℕ, zero, suc, ◌+◌, ◌-◌, ◌<◌, ◌≤◌, ◌/◌, ◌^◌, Bool, true, false, cond, List, [], ◌∷◌, ◌++◌, length, refl, ap, sym, ◌∙◌, Option, None, Some, arith, length-append, append_assoc, append-nil}
use Rattle.std.specs.Prelude.{is_some, nat_le, ◌||◌, ◌&&◌, ◌==◌, position, slice_index_or}
use Rattle.std.proofs.Math.Nat.{mod-lt, min-le_left, min-le_right}
use Rattle.std.proofs.lemmas.Bool.Decides.{nat_tests}
use Rattle.std.proofs.lemmas.List.Elements.{filter-append}
use Rattle.arrayvec.specs.ArrayVec.{ArrayVec}
use Rattle.omega_net.specs.declared.message.Request.{Request}
use Rattle.omega_net.specs.declared.message.Reply.{Reply}
use Rattle.omega_net.specs.Wires.{bit}
use Rattle.omega_net.specs.Limits.{queue_places}
use Rattle.omega_net.specs.Queues.{without_head}
use Rattle.omega_net.specs.Ports.{queue_at, message_at, mark_at, joined_at, same_tag}
use Rattle.omega_net.proofs.Keeping.{joined_in, shorter}
use Rattle.comb_switch.specs.declared.waiting.Waiting.{Waiting}
use Rattle.comb_switch.specs.declared.state.CombState.{CombState}
use Rattle.comb_switch.specs.declared.settings.CombSettings.{CombSettings}
use Rattle.comb_switch.specs.CombSwitch.{reply_room, youngest_for, combines, last_in, combined_in, meets, arrives, splits, returns_to, departed, requests_in, comb_after, entry_at, first_answer, second_answer}
use Rattle.comb_switch.specs.Kept.{answers_at, answers, to_input, back_from, RepliesAreKept}

-- two reverse queues that hold these replies
abbrev queues : List Reply → List Reply → List (ArrayVec Reply)
queues xs ys = record { items = xs } ∷ record { items = ys } ∷ []

-- with what goes to each of them behind
abbrev behind : ℕ → List Reply → List Reply → List Reply → List (ArrayVec Reply)
behind b xs ys back = queues (xs ++ to_input b 0 back) (ys ++ to_input b 1 back)

-- a reply goes behind the others of its queue
sent_to : (k : ℕ) (y : Reply) (xs ys : List Reply) → k < 2 → length xs < queue_places → length ys < queue_places
    → joined_at (queues xs ys) k y ≡ queues (xs ++ cond (k == 0) (y ∷ []) []) (ys ++ cond (k == 1) (y ∷ []) [])
sent_to zero y xs ys small hx hy = ap (λ v. queues v ys) (joined_in (record { items = xs }) y hx) ∙ ap (λ v. queues (xs ++ y ∷ []) v) (sym (append-nil ys))
sent_to (suc zero) y xs ys small hx hy = ap (λ v. queues xs v) (joined_in (record { items = ys }) y hy) ∙ ap (λ v. queues v (ys ++ y ∷ [])) (sym (append-nil xs))
sent_to (suc (suc k)) y xs ys small hx hy = absurd (omega arith)

sent : (b : ℕ) (y : Reply) (xs ys : List Reply) → length xs < queue_places → length ys < queue_places
    → joined_at (queues xs ys) (bit b y.tag.proc) y ≡ behind b xs ys (y ∷ [])
sent b y xs ys hx hy = sent_to (bit b y.tag.proc) y xs ys (mod-lt (y.tag.proc / 2 ^ b) (omega arith)) hx hy

-- what goes behind in two parts goes behind as a whole
behind_both : (b : ℕ) (xs ys first then : List Reply)
    → behind b (xs ++ to_input b 0 first) (ys ++ to_input b 1 first) then ≡ behind b xs ys (first ++ then)
behind_both b xs ys first then =
    ap (λ u. queues u ((ys ++ to_input b 1 first) ++ to_input b 1 then)) (append_assoc xs _ _ ∙ ap (λ zs. xs ++ zs) (sym (filter-append _ first then)))
    ∙ ap (λ v. queues (xs ++ to_input b 0 (first ++ then)) v) (append_assoc ys _ _ ∙ ap (λ zs. ys ++ zs) (sym (filter-append _ first then)))

-- one reply adds one at most
one_more : (b i : ℕ) (y : Reply) (xs : List Reply) → length (xs ++ to_input b i (y ∷ [])) ≤ length xs + 1
one_more b i y xs = by_test (bit b y.tag.proc == i)
  where
    by_test : (t : Bool) → length (xs ++ cond t (y ∷ []) []) ≤ length xs + 1
    by_test true = omega (arith, length-append xs (y ∷ []))
    by_test false = omega (arith, length-append xs [])

-- two replies
sent_both : (b : ℕ) (y z : Reply) (xs ys : List Reply) → length xs + 1 < queue_places → length ys + 1 < queue_places
    → joined_at (joined_at (queues xs ys) (bit b y.tag.proc) y) (bit b z.tag.proc) z ≡ behind b xs ys (y ∷ z ∷ [])
sent_both b y z xs ys hx hy =
    ap (λ rev. joined_at rev (bit b z.tag.proc) z) (sent b y xs ys (omega arith) (omega arith))
    ∙ sent b z (xs ++ to_input b 0 (y ∷ [])) (ys ++ to_input b 1 (y ∷ [])) (omega (arith, one_more b 0 y xs)) (omega (arith, one_more b 1 y ys))
    ∙ behind_both b xs ys (y ∷ []) (z ∷ [])

-- a reply that returns
returned_at : (settings : CombSettings) (y : Reply) (at : Option ℕ) (a : CombState) (xs ys : List Reply) → a.rev ≡ queues xs ys
    → length xs + 1 < queue_places → length ys + 1 < queue_places
    → (splits settings y at a).rev ≡ behind settings.bit xs ys (answers_at a.wait y at)
returned_at settings y None a xs ys e hx hy = ap (λ rev. joined_at rev (bit settings.bit y.tag.proc) y) e ∙ sent settings.bit y xs ys (omega arith) (omega arith)
returned_at settings y (Some i) a xs ys e hx hy =
    let w = entry_at a.wait y i in
    ap (λ rev. joined_at (joined_at rev (bit settings.bit w.first.proc) (first_answer w y)) (bit settings.bit w.second.proc) (second_answer w y)) e
    ∙ sent_both settings.bit (first_answer w y) (second_answer w y) xs ys hx hy

returned : (settings : CombSettings) (m : Option Reply) (a : CombState) (xs ys : List Reply) → a.rev ≡ queues xs ys
    → (is_some m ≡ true → (length xs + 1 < queue_places) × (length ys + 1 < queue_places))
    → (returns_to settings m a).rev ≡ behind settings.bit xs ys (answers a.wait m)
returned settings None a xs ys e room = e ∙ ap (λ u. queues u ys) (sym (append-nil xs)) ∙ ap (λ v. queues (xs ++ []) v) (sym (append-nil ys))
returned settings (Some y) a xs ys e room = returned_at settings y (position (λ w. same_tag w.first y.tag) a.wait.items) a xs ys e (room refl).0 (room refl).1

-- a reply becomes two at most
two_at_most : (wait : ArrayVec Waiting) (y : Reply) (at : Option ℕ) → length (answers_at wait y at) ≤ 2
two_at_most wait y None = omega arith
two_at_most wait y (Some i) = omega arith

-- those that go to one input are no more than all
fewer : (b i : ℕ) (ys : List Reply) → length (to_input b i ys) ≤ length ys
fewer b i [] = omega arith
fewer b i (y ∷ ys) = by_test (bit b y.tag.proc == i) (fewer b i ys)
  where
    by_test : (t : Bool) → length (to_input b i ys) ≤ length ys → length (cond t (y ∷ to_input b i ys) (to_input b i ys)) ≤ length (y ∷ ys)
    by_test true rest = omega arith
    by_test false rest = omega arith

longer : (b i : ℕ) (xs ys : List Reply) → length (xs ++ to_input b i ys) ≤ length xs + length ys
longer b i xs ys = omega (arith, length-append xs (to_input b i ys), fewer b i ys)

-- both replies, where room R is enough for what comes
all_back : (settings : CombSettings) (m n : Option Reply) (a : CombState) (xs ys : List Reply) (room : ℕ) → a.rev ≡ queues xs ys
    → (1 ≤ room → length xs + room ≤ queue_places) → (1 ≤ room → length ys + room ≤ queue_places)
    → (is_some m ≡ true → 2 ≤ room) → (is_some n ≡ true → 2 ≤ room) → (is_some m ≡ true → is_some n ≡ true → 4 ≤ room)
    → (returns_to settings n (returns_to settings m a)).rev ≡ behind settings.bit xs ys (answers a.wait m ++ answers (returns_to settings m a).wait n)
all_back settings None n a xs ys room e fx fy two_m two_n four =
    returned settings n a xs ys e (λ is. (omega (arith, two_n is, fx (omega (arith, two_n is))), omega (arith, two_n is, fy (omega (arith, two_n is)))))
all_back settings (Some y) n a xs ys room e fx fy two_m two_n four =
    let at = position (λ w. same_tag w.first y.tag) a.wait.items in
    let back = answers_at a.wait y at in
    let two : 2 ≤ room = two_m refl in
    let fits_x : length xs + room ≤ queue_places = fx (omega arith) in
    let fits_y : length ys + room ≤ queue_places = fy (omega arith) in
    let few : length back ≤ 2 = two_at_most a.wait y at in
    returned settings n (splits settings y at a) (xs ++ to_input settings.bit 0 back) (ys ++ to_input settings.bit 1 back)
    (returned_at settings y at a xs ys e (omega arith) (omega arith))
    (λ is. (omega (arith, four refl is, longer settings.bit 0 xs back), omega (arith, four refl is, longer settings.bit 1 ys back)))
    ∙ behind_both settings.bit xs ys back (answers (splits settings y at a).wait n)

-- requests that arrive leave the reverse queues
meets_back : (settings : CombSettings) (r : Request) (o : ℕ) (at : Option ℕ) (a : CombState) → (meets settings r o at a).rev ≡ a.rev
meets_back settings r o None a = refl
meets_back settings r o (Some i) a = by_test (combines settings a.wait queued r)
  where
    queued : Request
    queued = slice_index_or (queue_at a.fwd o).items i r

    by_test : (t : Bool) → (let next : CombState = cond t (combined_in r o i queued a) (last_in r o a) in next.rev ≡ a.rev)
    by_test true = refl
    by_test false = refl

pub arrives_back : (settings : CombSettings) (m : Option Request) (a : CombState) → (arrives settings m a).rev ≡ a.rev
arrives_back settings None a = refl
arrives_back settings (Some r) a =
    meets_back settings r (bit settings.bit r.place.«module») (youngest_for r.place (queue_at a.fwd (bit settings.bit r.place.«module»)).items) a

-- the room that readiness tells
two_rooms : (room turn side : ℕ) → (nat_le 4 room || (nat_le 2 room && (turn == side))) ≡ true → 2 ≤ room
two_rooms room turn side e = grind (arith, nat_tests)

four_rooms : (room turn : ℕ) → (nat_le 4 room || (nat_le 2 room && (turn == 0))) ≡ true → (nat_le 4 room || (nat_le 2 room && (turn == 1))) ≡ true → 4 ≤ room
four_rooms room turn a b = grind (arith, nat_tests)

fits : (depth room : ℕ) (leaves : Bool) (q : ArrayVec Reply) → depth ≤ queue_places → room ≤ depth - length q.items → 1 ≤ room → length (without_head leaves q).items + room ≤ queue_places
fits depth room leaves q small free_places some = omega (arith, shorter leaves q)

pub replies_are_kept : RepliesAreKept
replies_are_kept settings t s depth small from_0 from_1 i low = at_input i low
  where
    a : CombState
    a = requests_in settings t (departed settings t s)

    room : ℕ
    room = reply_room s depth

    all : (comb_after settings t s).rev ≡ behind settings.bit (without_head (mark_at t.replies_leave 0) (queue_at s.rev 0)).items (without_head (mark_at t.replies_leave 1) (queue_at s.rev 1)).items (back_from settings t a)
    all =
        all_back settings (message_at t.replies 0) (message_at t.replies 1) a _ _ room
        (arrives_back settings (message_at t.requests 1) _ ∙ arrives_back settings (message_at t.requests 0) _)
        (fits depth room (mark_at t.replies_leave 0) (queue_at s.rev 0) small (min-le_left _ _))
        (fits depth room (mark_at t.replies_leave 1) (queue_at s.rev 1) small (min-le_right _ _))
        (λ is. two_rooms room s.rturn 0 (from_0 is)) (λ is. two_rooms room s.rturn 1 (from_1 is))
        (λ is js. four_rooms room s.rturn (from_0 is) (from_1 js))

    at_input : (i : ℕ) → i < 2 → (queue_at (comb_after settings t s).rev i).items ≡ (without_head (mark_at t.replies_leave i) (queue_at s.rev i)).items ++ to_input settings.bit i (back_from settings t a)
    at_input zero low = ap (λ rev. (queue_at rev 0).items) all
    at_input (suc zero) low = ap (λ rev. (queue_at rev 1).items) all
    at_input (suc (suc i)) low = absurd (omega arith)
