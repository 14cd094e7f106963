-- Components are told by their words.
use Rattle.std.proofs.Common.{◌≡◌, ℕ, suc, ◌+◌, ◌*◌, ◌/◌, ◌%◌, ◌^◌, ◌<◌, Bool, List, [], ◌∷◌, length, drop, slice_index, slice_index_or, refl, ap, ◌∙◌, Option, Some, None, is_some, arith, All}
use Rattle.std.proofs.lemmas.List.Elements.{All-head, All-tail}
use Rattle.arrayvec.specs.ArrayVec.{ArrayVec}
use Rattle.omega_net.specs.declared.component.Net.{Net}
use Rattle.omega_net.specs.declared.message.Request.{Request}
use Rattle.omega_net.specs.declared.message.Reply.{Reply}
use Rattle.omega_net.specs.Wires.{net_number}
use Rattle.omega_net.specs.Ports.{empty, queue_at, message_at}
use Rattle.ref_proc.specs.declared.state.Outgoing.{Outgoing}
use Rattle.ref_proc.specs.declared.state.ProcState.{ProcState}
use Rattle.mem_module.specs.declared.words.Stored.{Stored}
use Rattle.mem_module.specs.declared.state.ModuleState.{ModuleState}
use Rattle.low_switch.specs.declared.state.LowState.{LowState}
use Rattle.comb_switch.specs.declared.waiting.Waiting.{Waiting}
use Rattle.comb_switch.specs.declared.state.CombState.{CombState}
use Rattle.state_words.specs.Messages.{request_first, request_second, request_from, out_first, out_second, out_from, reply_first, reply_second, reply_from, wait_first, wait_second, wait_from, net_from, message_words}
use Rattle.state_words.specs.Words.{one_if, size_at, bytes, ports_words, queues_words, option_words, proc_head, proc_body, module_head, module_body, low_head, low_body, comb_head, comb_body}
use Rattle.state_words.specs.Reading.{messages_from, after, queue_from, queues_from, option_from, after_option, count_in, mark_in, proc_from, module_from, low_from, comb_from, after_requests, after_replies}
use Rattle.state_words.specs.Fits.{IsRequest, IsReply, IsOutgoing, IsWaiting, IsQueue, AreQueues, IfThere, IsProc, IsModule, IsLow, IsComb}
use Rattle.state_words.proofs.Telling.{request_back, out_back, reply_back, wait_back, IsHead, head_parts, IsProcHead, proc_parts, bytes_back, turn_bit, served_bit, one_back, one_small, net_back, net_small, counted}

-- messages
pub messages_back : {T : Type 0} (first second : T → ℕ) (from : ℕ → ℕ → T) (Is : T → Type 0) → ((m : T) → Is m → from (first m) (second m) ≡ m)
    → (ms : List T) (rest : List ℕ) → All Is ms → messages_from from (length ms) (message_words first second ms rest) ≡ ms
messages_back first second from Is back [] rest h = refl
messages_back first second from Is back (m ∷ ms) rest h =
    ap (λ x. x ∷ messages_from from (length ms) (message_words first second ms rest)) (back m (All-head Is m ms h))
    ∙ ap (λ xs. m ∷ xs) (messages_back first second from Is back ms rest (All-tail Is m ms h))

pub after_back : {T : Type 0} (first second : T → ℕ) (ms : List T) (rest : List ℕ) → after (length ms) (message_words first second ms rest) ≡ rest
after_back first second [] rest = refl
after_back first second (m ∷ ms) rest =
    ap (λ n. drop n (first m ∷ second m ∷ message_words first second ms rest)) (two_more (length ms)) ∙ after_back first second ms rest
  where
    two_more : (n : ℕ) → 2 * suc n ≡ suc (suc (2 * n))
    two_more n = omega arith

queue_back : {T : Type 0} (first second : T → ℕ) (from : ℕ → ℕ → T) (Is : T → Type 0) → ((m : T) → Is m → from (first m) (second m) ≡ m)
    → (q : ArrayVec T) (rest : List ℕ) (n : ℕ) → n ≡ length q.items → IsQueue Is q → queue_from from n (message_words first second q.items rest) ≡ q
queue_back first second from Is back q rest n e h =
    ap (λ k. queue_from from k (message_words first second q.items rest)) e
    ∙ ap (λ ms. record { items = ms }) (messages_back first second from Is back q.items rest h.each)

after_queue : {T : Type 0} (first second : T → ℕ) (q : ArrayVec T) (rest : List ℕ) (n : ℕ) → n ≡ length q.items → after n (message_words first second q.items rest) ≡ rest
after_queue first second q rest n e = ap (λ k. after k (message_words first second q.items rest)) e ∙ after_back first second q.items rest

-- what has two parts is those two
pub two_of : {X : Type 0} (d : X) (xs : List X) → length xs ≡ 2 → slice_index_or xs 0 d ∷ slice_index_or xs 1 d ∷ [] ≡ xs
two_of d [] h = absurd (omega arith)
two_of d (x ∷ []) h = absurd (omega arith)
two_of d (x ∷ y ∷ []) h = refl
two_of d (x ∷ y ∷ z ∷ xs) h = absurd (omega arith)

-- the queues of two ports
queues_back : {T : Type 0} (first second : T → ℕ) (from : ℕ → ℕ → T) (Is : T → Type 0) → ((m : T) → Is m → from (first m) (second m) ≡ m)
    → (qs : List (ArrayVec T)) (rest : List ℕ) (a b : ℕ) → a ≡ size_at qs 0 → b ≡ size_at qs 1 → AreQueues Is qs
    → queues_from from a b (ports_words first second qs rest) ≡ qs
queues_back first second from Is back qs rest a b ea eb h =
    let p = queue_at qs 0 in
    let q = queue_at qs 1 in
    let others = message_words first second q.items rest in
    ap (λ x. x ∷ queue_from from b (after a (message_words first second p.items others)) ∷ []) (queue_back first second from Is back p others a ea h.first)
    ∙ ap (λ ws. p ∷ queue_from from b ws ∷ []) (after_queue first second p others a ea)
    ∙ ap (λ x. p ∷ x ∷ []) (queue_back first second from Is back q rest b eb h.second)
    ∙ two_of empty qs h.two

after_ports : {T : Type 0} (first second : T → ℕ) (qs : List (ArrayVec T)) (rest : List ℕ) (a b : ℕ) → a ≡ size_at qs 0 → b ≡ size_at qs 1
    → after b (after a (ports_words first second qs rest)) ≡ rest
after_ports first second qs rest a b ea eb =
    let p = queue_at qs 0 in
    let q = queue_at qs 1 in
    ap (after b) (after_queue first second p (message_words first second q.items rest) a ea) ∙ after_queue first second q rest b eb

-- a message that is there, or isn't
option_back : {T : Type 0} (first second : T → ℕ) (from : ℕ → ℕ → T) (Is : T → Type 0) → ((m : T) → Is m → from (first m) (second m) ≡ m)
    → (o : Option T) (rest : List ℕ) (b : Bool) → b ≡ is_some o → IfThere Is o → option_from from b (option_words first second o rest) ≡ o
option_back first second from Is back None rest b e h = ap (λ t. option_from from t rest) e
option_back first second from Is back (Some m) rest b e h = ap (λ t. option_from from t (first m ∷ second m ∷ rest)) e ∙ ap Some (back m h)

after_one : {T : Type 0} (first second : T → ℕ) (o : Option T) (rest : List ℕ) (b : Bool) → b ≡ is_some o → after_option b (option_words first second o rest) ≡ rest
after_one first second None rest b e = ap (λ t. after_option t rest) e
after_one first second (Some m) rest b e = ap (λ t. after_option t (first m ∷ second m ∷ rest)) e

-- requests and replies behind a head that has their lengths
pub record TellsQueues (h : ℕ) (xs : List (ArrayVec Request)) (ys : List (ArrayVec Reply)) (after_all : List ℕ) : Type 0 where
  pub requests : queues_from request_from (count_in (h / 2 ^ 2)) (count_in (h / 2 ^ 7)) (queues_words xs ys after_all) ≡ xs
  pub replies : queues_from reply_from (count_in (h / 2 ^ 12)) (count_in (h / 2 ^ 17)) (after_requests h (queues_words xs ys after_all)) ≡ ys
  pub rest : after_replies h (queues_words xs ys after_all) ≡ after_all

tells_queues : (h k e s : ℕ) (xs : List (ArrayVec Request)) (ys : List (ArrayVec Reply)) (rest : List ℕ)
    → IsHead h k (size_at xs 0) (size_at xs 1) (size_at ys 0) (size_at ys 1) e s → AreQueues IsRequest xs → AreQueues IsReply ys → TellsQueues h xs ys rest
tells_queues h k e s xs ys rest head are were =
    let a = counted (h / 2 ^ 2) (size_at xs 0) are.first.fits head.first in
    let b = counted (h / 2 ^ 7) (size_at xs 1) are.second.fits head.second in
    let c = counted (h / 2 ^ 12) (size_at ys 0) were.first.fits head.third in
    let d = counted (h / 2 ^ 17) (size_at ys 1) were.second.fits head.fourth in
    let others = ports_words reply_first reply_second ys rest in
    let passed : after_requests h (queues_words xs ys rest) ≡ others = after_ports request_first request_second xs others (count_in (h / 2 ^ 2)) (count_in (h / 2 ^ 7)) a b in
    record {
      requests = queues_back request_first request_second request_from IsRequest request_back xs others (count_in (h / 2 ^ 2)) (count_in (h / 2 ^ 7)) a b are;
      replies = ap (queues_from reply_from (count_in (h / 2 ^ 12)) (count_in (h / 2 ^ 17))) passed ∙ queues_back reply_first reply_second reply_from IsReply reply_back ys rest (count_in (h / 2 ^ 12)) (count_in (h / 2 ^ 17)) c d were;
      rest = ap (λ ws. after (count_in (h / 2 ^ 17)) (after (count_in (h / 2 ^ 12)) ws)) passed ∙ after_ports reply_first reply_second ys rest (count_in (h / 2 ^ 12)) (count_in (h / 2 ^ 17)) c d;
    }

-- a module
module_is : (memory : List Stored) (xs vs : List (ArrayVec Request)) (ys ws : List (ArrayVec Reply)) (t u : Net) (s v : Bool) → xs ≡ vs → ys ≡ ws → t ≡ u → s ≡ v
    → (let made : ModuleState = record { words = memory; requests = xs; replies = ys; turn = t; served = s } in made) ≡ record { words = memory; requests = vs; replies = ws; turn = u; served = v }
module_is memory xs vs ys ws t u s v a b c d =
    let M : List (ArrayVec Request) → List (ArrayVec Reply) → Net → Bool → ModuleState = λ i j k l. record { words = memory; requests = i; replies = j; turn = k; served = l } in
    ap (λ i. M i ys t s) a ∙ ap (λ j. M vs j t s) b ∙ ap (λ k. M vs ws k s) c ∙ ap (λ l. M vs ws u l) d

pub module_with : (h : ℕ) (s : ModuleState) (memory : List Stored)
    → IsHead h 1 (size_at s.requests 0) (size_at s.requests 1) (size_at s.replies 0) (size_at s.replies 1) 0 (net_number s.turn + 2 * one_if s.served) → IsModule s
    → module_from h (module_body s) memory ≡ record s { words = memory }
module_with h s memory head is =
    let q = tells_queues h 1 0 (net_number s.turn + 2 * one_if s.served) s.requests s.replies [] head is.requests is.replies in
    module_is memory _ s.requests _ s.replies _ s.turn _ s.served q.requests q.replies
    (ap net_from (turn_bit h (net_number s.turn) (one_if s.served) head.small (net_small s.turn)) ∙ net_back s.turn)
    (one_back s.served (h / 2 ^ 28) (served_bit h (net_number s.turn) (one_if s.served) head.small (net_small s.turn) (one_small s.served)))

pub module_head_is : (s : ModuleState) → IsModule s
    → IsHead (module_head s) 1 (size_at s.requests 0) (size_at s.requests 1) (size_at s.replies 0) (size_at s.replies 1) 0 (net_number s.turn + 2 * one_if s.served)
module_head_is s is = head_parts 1 _ _ _ _ 0 _ (omega arith) is.requests.first.fits is.requests.second.fits is.replies.first.fits is.replies.second.fits (omega arith)

-- a low switch
low_is : (xs vs : List (ArrayVec Request)) (ys ws : List (ArrayVec Reply)) (t u s v : List ℕ) → xs ≡ vs → ys ≡ ws → t ≡ u → s ≡ v
    → (let made : LowState = record { fwd = xs; turn = t; rev = ys; rturn = s } in made) ≡ record { fwd = vs; turn = u; rev = ws; rturn = v }
low_is xs vs ys ws t u s v a b c d =
    let M : List (ArrayVec Request) → List (ArrayVec Reply) → List ℕ → List ℕ → LowState = λ i j k l. record { fwd = i; turn = k; rev = j; rturn = l } in
    ap (λ i. M i ys t s) a ∙ ap (λ j. M vs j t s) b ∙ ap (λ k. M vs ws k s) c ∙ ap (λ l. M vs ws u l) d

turns_are : (a b : ℕ) (turns : List ℕ) → a ≡ slice_index turns 0 → b ≡ slice_index turns 1 → length turns ≡ 2 → a ∷ b ∷ [] ≡ turns
turns_are a b turns ea eb h = ap (λ x. x ∷ b ∷ []) ea ∙ ap (λ y. slice_index turns 0 ∷ y ∷ []) eb ∙ two_of 0 turns h

pub low_with : (h : ℕ) (s : LowState)
    → IsHead h 2 (size_at s.fwd 0) (size_at s.fwd 1) (size_at s.rev 0) (size_at s.rev 1) 0 (bytes (slice_index s.turn 0) (slice_index s.turn 1) (slice_index s.rturn 0) (slice_index s.rturn 1)) → IsLow s
    → low_from h (low_body s) ≡ s
low_with h s head is =
    let q = tells_queues h 2 0 _ s.fwd s.rev [] head is.fwd is.rev in
    let b = bytes_back h _ _ _ _ head.small is.turn.first is.turn.second is.rturn.first is.rturn.second in
    low_is _ s.fwd _ s.rev _ s.turn _ s.rturn q.requests q.replies (turns_are _ _ s.turn b.first b.second is.turn.two) (turns_are _ _ s.rturn b.third b.fourth is.rturn.two)

pub low_head_is : (s : LowState) → IsLow s
    → IsHead (low_head s) 2 (size_at s.fwd 0) (size_at s.fwd 1) (size_at s.rev 0) (size_at s.rev 1) 0 (bytes (slice_index s.turn 0) (slice_index s.turn 1) (slice_index s.rturn 0) (slice_index s.rturn 1))
low_head_is s is = head_parts 2 _ _ _ _ 0 _ (omega arith) is.fwd.first.fits is.fwd.second.fits is.rev.first.fits is.rev.second.fits (omega arith)

-- a combining switch
comb_is : (xs vs : List (ArrayVec Request)) (ys ws : List (ArrayVec Reply)) (p q : ArrayVec Waiting) (t u : List ℕ) (r s m n : ℕ) → xs ≡ vs → ys ≡ ws → p ≡ q → t ≡ u → r ≡ s → m ≡ n
    → (let made : CombState = record { fwd = xs; rev = ys; wait = p; turn = t; rturn = r; combined = m } in made) ≡ record { fwd = vs; rev = ws; wait = q; turn = u; rturn = s; combined = n }
comb_is xs vs ys ws p q t u r s m n a b c d e f =
    let M : List (ArrayVec Request) → List (ArrayVec Reply) → ArrayVec Waiting → List ℕ → ℕ → ℕ → CombState = λ i j w k x y. record { fwd = i; rev = j; wait = w; turn = k; rturn = x; combined = y } in
    ap (λ i. M i ys p t r m) a ∙ ap (λ j. M vs j p t r m) b ∙ ap (λ w. M vs ws w t r m) c ∙ ap (λ k. M vs ws q k r m) d ∙ ap (λ x. M vs ws q u x m) e ∙ ap (λ y. M vs ws q u s y) f

pub comb_with : (h : ℕ) (s : CombState)
    → IsHead h 3 (size_at s.fwd 0) (size_at s.fwd 1) (size_at s.rev 0) (size_at s.rev 1) (length s.wait.items) (bytes (slice_index s.turn 0) (slice_index s.turn 1) s.rturn s.combined) → IsComb s
    → comb_from h (comb_body s) ≡ s
comb_with h s head is =
    let waits = message_words wait_first wait_second s.wait.items [] in
    let q = tells_queues h 3 (length s.wait.items) _ s.fwd s.rev waits head is.fwd is.rev in
    let b = bytes_back h _ _ _ _ head.small is.turn.first is.turn.second is.rturn is.combined in
    comb_is _ s.fwd _ s.rev _ s.wait _ s.turn _ s.rturn _ s.combined q.requests q.replies
    (ap (queue_from wait_from (count_in (h / 2 ^ 22))) q.rest
    ∙ queue_back wait_first wait_second wait_from IsWaiting wait_back s.wait [] (count_in (h / 2 ^ 22)) (counted (h / 2 ^ 22) (length s.wait.items) is.wait.fits head.fifth) is.wait)
    (turns_are _ _ s.turn b.first b.second is.turn.two) b.third b.fourth

pub comb_head_is : (s : CombState) → IsComb s
    → IsHead (comb_head s) 3 (size_at s.fwd 0) (size_at s.fwd 1) (size_at s.rev 0) (size_at s.rev 1) (length s.wait.items) (bytes (slice_index s.turn 0) (slice_index s.turn 1) s.rturn s.combined)
comb_head_is s is = head_parts 3 _ _ _ _ _ _ (omega arith) is.fwd.first.fits is.fwd.second.fits is.rev.first.fits is.rev.second.fits is.wait.fits

-- a processor
proc_is : (i j p q a b m n : ℕ) (o e : Option Outgoing) (g f : List (Option Reply)) (s t : Bool) → i ≡ j → p ≡ q → a ≡ b → m ≡ n → o ≡ e → g ≡ f → s ≡ t
    → (let made : ProcState = record { index = i; spent = p; issued = a; pending = m; out = o; got = g; sent = s } in made) ≡ record { index = j; spent = q; issued = b; pending = n; out = e; got = f; sent = t }
proc_is i j p q a b m n o e g f s t h1 h2 h3 h4 h5 h6 h7 =
    let M : ℕ → ℕ → ℕ → ℕ → Option Outgoing → List (Option Reply) → Bool → ProcState = λ u v w x y z r. record { index = u; spent = v; issued = w; pending = x; out = y; got = z; sent = r } in
    ap (λ u. M u p a m o g s) h1 ∙ ap (λ v. M j v a m o g s) h2 ∙ ap (λ w. M j q w m o g s) h3 ∙ ap (λ x. M j q b x o g s) h4 ∙ ap (λ y. M j q b n y g s) h5 ∙ ap (λ z. M j q b n e z s) h6 ∙ ap (λ r. M j q b n e f r) h7

low_half : (a b : ℕ) → a < 2 ^ 32 → (a + 2 ^ 32 * b) % 2 ^ 32 ≡ a
low_half a b h = omega (arith, h)

high_half : (a b : ℕ) → a < 2 ^ 32 → (a + 2 ^ 32 * b) / 2 ^ 32 ≡ b
high_half a b h = omega (arith, h)

pub proc_with : (h : ℕ) (s : ProcState)
    → IsProcHead h (one_if (is_some s.out)) (one_if (is_some (message_at s.got 0))) (one_if (is_some (message_at s.got 1))) (one_if s.sent) s.index s.pending → IsProc s
    → proc_from h (proc_body s) ≡ s
proc_with h s head is =
    let first = message_at s.got 0 in
    let second = message_at s.got 1 in
    let out : mark_in (h / 2 ^ 2) ≡ is_some s.out = one_back (is_some s.out) (h / 2 ^ 2) head.out in
    let low : mark_in (h / 2 ^ 3) ≡ is_some first = one_back (is_some first) (h / 2 ^ 3) head.first in
    let comb : mark_in (h / 2 ^ 4) ≡ is_some second = one_back (is_some second) (h / 2 ^ 4) head.second in
    let rest = option_words reply_first reply_second second [] in
    let replies = option_words reply_first reply_second first rest in
    let passed : after_option (mark_in (h / 2 ^ 2)) (option_words out_first out_second s.out replies) ≡ replies = after_one out_first out_second s.out replies (mark_in (h / 2 ^ 2)) out in
    let past : after_option (mark_in (h / 2 ^ 3)) replies ≡ rest = after_one reply_first reply_second first rest (mark_in (h / 2 ^ 3)) low in
    let got_first : option_from reply_from (mark_in (h / 2 ^ 3)) (after_option (mark_in (h / 2 ^ 2)) (option_words out_first out_second s.out replies)) ≡ first =
    ap (option_from reply_from (mark_in (h / 2 ^ 3))) passed ∙ option_back reply_first reply_second reply_from IsReply reply_back first rest (mark_in (h / 2 ^ 3)) low is.first in
    let got_second : option_from reply_from (mark_in (h / 2 ^ 4)) (after_option (mark_in (h / 2 ^ 3)) (after_option (mark_in (h / 2 ^ 2)) (option_words out_first out_second s.out replies))) ≡ second =
    ap (λ ws. option_from reply_from (mark_in (h / 2 ^ 4)) (after_option (mark_in (h / 2 ^ 3)) ws)) passed
    ∙ ap (option_from reply_from (mark_in (h / 2 ^ 4))) past
    ∙ option_back reply_first reply_second reply_from IsReply reply_back second [] (mark_in (h / 2 ^ 4)) comb is.second in
    proc_is _ s.index _ s.spent _ s.issued _ s.pending _ s.out _ s.got _ s.sent
    head.index
    (low_half s.spent s.issued is.spent)
    (high_half s.spent s.issued is.spent)
    head.pending
    (option_back out_first out_second out_from IsOutgoing out_back s.out replies (mark_in (h / 2 ^ 2)) out is.out)
    (ap (λ x. x ∷ option_from reply_from (mark_in (h / 2 ^ 4)) (after_option (mark_in (h / 2 ^ 3)) (after_option (mark_in (h / 2 ^ 2)) (option_words out_first out_second s.out replies))) ∷ []) got_first
    ∙ ap (λ y. first ∷ y ∷ []) got_second ∙ two_of None s.got is.two)
    (one_back s.sent (h / 2 ^ 5) head.sent)

pub proc_head_is : (s : ProcState) → IsProc s
    → IsProcHead (proc_head s) (one_if (is_some s.out)) (one_if (is_some (message_at s.got 0))) (one_if (is_some (message_at s.got 1))) (one_if s.sent) s.index s.pending
proc_head_is s is = proc_parts _ _ _ _ s.index s.pending (one_small (is_some s.out)) (one_small (is_some (message_at s.got 0))) (one_small (is_some (message_at s.got 1))) (one_small s.sent) is.index is.pending
