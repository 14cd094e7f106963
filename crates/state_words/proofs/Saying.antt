-- What words say of components.
use Rattle.std.proofs.Common.{◌≡◌, ℕ, ◌+◌, ◌*◌, ◌/◌, ◌%◌, ◌^◌, ◌<◌, ◌≤◌, false, cond, List, [], ◌∷◌, refl, ap, ◌∙◌, Option, Some, None, is_some, arith, nat_eq, All}
use Rattle.std.proofs.lemmas.List.Elements.{All-nil, All-cons, All-head, All-tail}
use Rattle.arrayvec.specs.ArrayVec.{ArrayVec}
use Rattle.word_ops.proofs.Known.{known}
use Rattle.omega_net.specs.declared.message.Request.{Request}
use Rattle.omega_net.specs.declared.message.Reply.{Reply}
use Rattle.omega_net.specs.Wires.{net_number}
use Rattle.omega_net.specs.Limits.{queue_places}
use Rattle.omega_net.specs.Ports.{queue_at, message_at}
use Rattle.ref_proc.specs.declared.state.Outgoing.{Outgoing}
use Rattle.ref_proc.specs.declared.state.ProcState.{ProcState}
use Rattle.mem_module.specs.declared.state.ModuleState.{ModuleState}
use Rattle.low_switch.specs.declared.state.LowState.{LowState}
use Rattle.comb_switch.specs.declared.state.CombState.{CombState}
use Rattle.comb_switch.specs.declared.waiting.Waiting.{Waiting}
use Rattle.state_words.specs.Messages.{request_first, request_second, out_first, out_second, reply_first, reply_second, wait_first, wait_second, message_words}
use Rattle.state_words.specs.Words.{one_if, queues_head, bytes, queues_words, option_words, proc_head, proc_body, module_head, module_body, low_head, low_body, comb_head, comb_body, length_of}
use Rattle.state_words.specs.Fits.{IsRequest, IsReply, IsOutgoing, IsWaiting, AreQueues, IfThere, IsProc, IsModule, IsLow, IsComb}
use Rattle.state_words.specs.Laws.{ProcsAreTold, ModulesAreTold, LowsAreTold, CombsAreTold, ProcsAreWords, ModulesAreWords, LowsAreWords, CombsAreWords}
use Rattle.state_words.proofs.Telling.{IsHead, IsProcHead, net_small, one_small}
use Rattle.state_words.proofs.Measuring.{proc_long, module_long, low_long, comb_long}
use Rattle.state_words.proofs.Stating.{proc_with, module_with, low_with, comb_with, module_head_is, low_head_is, comb_head_is, proc_head_is}

-- a component is told
pub procs_are_told : ProcsAreTold
procs_are_told s h = proc_with (proc_head s) s (proc_head_is s h) h

pub modules_are_told : ModulesAreTold
modules_are_told s memory h = module_with (module_head s) s memory (module_head_is s h) h

pub lows_are_told : LowsAreTold
lows_are_told s h = low_with (low_head s) s (low_head_is s h) h

pub combs_are_told : CombsAreTold
combs_are_told s h = comb_with (comb_head s) s (comb_head_is s h) h

-- words are below 2^64
abbrev IsWord : ℕ → Type 0
IsWord w = w < 2 ^ 64

quarters_fit : (a b c d : ℕ) → a < 2 ^ 8 → b < 2 ^ 8 → c < 2 ^ 16 → d < 2 ^ 32 → a + 2 ^ 8 * b + 2 ^ 16 * c + 2 ^ 32 * d < 2 ^ 64
quarters_fit a b c d ha hb hc hd = omega (arith, ha, hb, hc, hd)

halves_fit : (a b : ℕ) → a < 2 ^ 32 → b < 2 ^ 32 → a + 2 ^ 32 * b < 2 ^ 64
halves_fit a b ha hb = omega (arith, ha, hb)

request_first_fits : (r : Request) → IsRequest r → request_first r < 2 ^ 64
request_first_fits r h = quarters_fit r.tag.proc r.place.«module» r.place.row r.op.operand h.tag.proc h.«module» h.row h.operand

request_second_fits : (r : Request) → IsRequest r → request_second r < 2 ^ 64
request_second_fits r h = omega (arith, h.tag.issue, (known r.op.kind).small)

out_second_fits : (o : Outgoing) → IsOutgoing o → out_second o < 2 ^ 64
out_second_fits o h = omega (arith, h.request.tag.issue, (known o.request.op.kind).small, net_small o.net)

reply_first_fits : (r : Reply) → IsReply r → reply_first r < 2 ^ 64
reply_first_fits r h = halves_fit r.tag.issue r.word h.tag.issue h.word

reply_second_fits : (r : Reply) → IsReply r → reply_second r < 2 ^ 64
reply_second_fits r h = omega (arith, h.tag.proc)

wait_first_fits : (w : Waiting) → IsWaiting w → wait_first w < 2 ^ 64
wait_first_fits w h = halves_fit w.first.issue w.op.operand h.first.issue h.operand

wait_second_fits : (w : Waiting) → IsWaiting w → wait_second w < 2 ^ 64
wait_second_fits w h = omega (arith, h.second.issue, h.first.proc, h.second.proc, (known w.op.kind).small)

messages_fit : {T : Type 0} (first second : T → ℕ) (Is : T → Type 0) → ((m : T) → Is m → first m < 2 ^ 64) → ((m : T) → Is m → second m < 2 ^ 64)
    → (ms : List T) (rest : List ℕ) → All Is ms → All IsWord rest → All IsWord (message_words first second ms rest)
messages_fit first second Is one two [] rest h k = k
messages_fit first second Is one two (m ∷ ms) rest h k =
    let is : Is m = All-head Is m ms h in
    let others = message_words first second ms rest in
    All-cons IsWord (first m) (second m ∷ others) (one m is)
    (All-cons IsWord (second m) others (two m is) (messages_fit first second Is one two ms rest (All-tail Is m ms h) k))

option_fits : {T : Type 0} (first second : T → ℕ) (Is : T → Type 0) → ((m : T) → Is m → first m < 2 ^ 64) → ((m : T) → Is m → second m < 2 ^ 64)
    → (o : Option T) (rest : List ℕ) → IfThere Is o → All IsWord rest → All IsWord (option_words first second o rest)
option_fits first second Is one two None rest h k = k
option_fits first second Is one two (Some m) rest h k =
    All-cons IsWord (first m) (second m ∷ rest) (one m h) (All-cons IsWord (second m) rest (two m h) k)

queues_fit : (xs : List (ArrayVec Request)) (ys : List (ArrayVec Reply)) (rest : List ℕ) → AreQueues IsRequest xs → AreQueues IsReply ys → All IsWord rest
    → All IsWord (queues_words xs ys rest)
queues_fit xs ys rest a b k =
    messages_fit request_first request_second IsRequest request_first_fits request_second_fits (queue_at xs 0).items _ a.first.each
    (messages_fit request_first request_second IsRequest request_first_fits request_second_fits (queue_at xs 1).items _ a.second.each
    (messages_fit reply_first reply_second IsReply reply_first_fits reply_second_fits (queue_at ys 0).items _ b.first.each
    (messages_fit reply_first reply_second IsReply reply_first_fits reply_second_fits (queue_at ys 1).items rest b.second.each k)))

head_fits : (k a b c d e s : ℕ) → k < 4 → a ≤ queue_places → b ≤ queue_places → c ≤ queue_places → d ≤ queue_places → e ≤ queue_places → s < 2 ^ 32
    → queues_head k a b c d e s < 2 ^ 64
head_fits k a b c d e s hk ha hb hc hd he hs = omega (arith, hk, ha, hb, hc, hd, he, hs)

proc_fits : (o f g t i p : ℕ) → o < 2 → f < 2 → g < 2 → t < 2 → i < 2 ^ 16 → p < 2 ^ 32
    → 2 ^ 2 * o + 2 ^ 3 * f + 2 ^ 4 * g + 2 ^ 5 * t + 2 ^ 6 * i + 2 ^ 22 * p < 2 ^ 64
proc_fits o f g t i p ho hf hg ht hi hp = omega (arith, ho, hf, hg, ht, hi, hp)

bytes_fit : (a b c d : ℕ) → a < 2 ^ 8 → b < 2 ^ 8 → c < 2 ^ 8 → d < 2 ^ 8 → bytes a b c d < 2 ^ 32
bytes_fit a b c d ha hb hc hd = omega (arith, ha, hb, hc, hd)

bits_fit : (a b : ℕ) → a < 2 → b < 2 → a + 2 * b < 2 ^ 32
bits_fit a b ha hb = omega (arith, ha, hb)

proc_fit : (s : ProcState) → IsProc s → All IsWord (proc_head s ∷ proc_body s)
proc_fit s h =
    All-cons IsWord (proc_head s) (proc_body s)
    (proc_fits _ _ _ _ s.index s.pending (one_small (is_some s.out)) (one_small (is_some (message_at s.got 0))) (one_small (is_some (message_at s.got 1))) (one_small s.sent) h.index h.pending)
    (All-cons IsWord (s.spent + 2 ^ 32 * s.issued) _ (halves_fit s.spent s.issued h.spent h.issued)
    (option_fits out_first out_second IsOutgoing (λ o is. request_first_fits o.request is.request) out_second_fits s.out _ h.out
    (option_fits reply_first reply_second IsReply reply_first_fits reply_second_fits (message_at s.got 0) _ h.first
    (option_fits reply_first reply_second IsReply reply_first_fits reply_second_fits (message_at s.got 1) [] h.second (All-nil IsWord)))))

module_fit : (s : ModuleState) → IsModule s → All IsWord (module_head s ∷ module_body s)
module_fit s h =
    All-cons IsWord (module_head s) (module_body s)
    (head_fits 1 _ _ _ _ 0 _ (omega arith) h.requests.first.fits h.requests.second.fits h.replies.first.fits h.replies.second.fits (omega arith)
    (bits_fit (net_number s.turn) (one_if s.served) (net_small s.turn) (one_small s.served)))
    (queues_fit s.requests s.replies [] h.requests h.replies (All-nil IsWord))

low_fit : (s : LowState) → IsLow s → All IsWord (low_head s ∷ low_body s)
low_fit s h =
    All-cons IsWord (low_head s) (low_body s)
    (head_fits 2 _ _ _ _ 0 _ (omega arith) h.fwd.first.fits h.fwd.second.fits h.rev.first.fits h.rev.second.fits (omega arith)
    (bytes_fit _ _ _ _ h.turn.first h.turn.second h.rturn.first h.rturn.second))
    (queues_fit s.fwd s.rev [] h.fwd h.rev (All-nil IsWord))

comb_fit : (s : CombState) → IsComb s → All IsWord (comb_head s ∷ comb_body s)
comb_fit s h =
    All-cons IsWord (comb_head s) (comb_body s)
    (head_fits 3 _ _ _ _ _ _ (omega arith) h.fwd.first.fits h.fwd.second.fits h.rev.first.fits h.rev.second.fits h.wait.fits
    (bytes_fit _ _ _ _ h.turn.first h.turn.second h.rturn h.combined))
    (queues_fit s.fwd s.rev _ h.fwd h.rev
    (messages_fit wait_first wait_second IsWaiting wait_first_fits wait_second_fits s.wait.items [] h.wait.each (All-nil IsWord)))

-- lengths
-- what a head says, where its kind isn't 0, and where it is
head_long : (h k a b c d e s : ℕ) → nat_eq k 0 ≡ false → IsHead h k a b c d e s → length_of h ≡ 1 + 2 * (a + b + c + d + e)
head_long h k a b c d e s other is =
    let some : ℕ = 1 + 2 * (h / 2 ^ 2 % 2 ^ 5 + h / 2 ^ 7 % 2 ^ 5 + h / 2 ^ 12 % 2 ^ 5 + h / 2 ^ 17 % 2 ^ 5 + h / 2 ^ 22 % 2 ^ 5) in
    ap (λ n. cond (nat_eq n 0) (2 + 2 * (h / 2 ^ 2 % 2 + h / 2 ^ 3 % 2 + h / 2 ^ 4 % 2)) some) is.kind
    ∙ ap (λ t. cond t (2 + 2 * (h / 2 ^ 2 % 2 + h / 2 ^ 3 % 2 + h / 2 ^ 4 % 2)) some) other
    ∙ sums _ _ _ _ _ a b c d e is.first is.second is.third is.fourth is.fifth
  where
    sums : (v w x y z p q r t u : ℕ) → v ≡ p → w ≡ q → x ≡ r → y ≡ t → z ≡ u → 1 + 2 * (v + w + x + y + z) ≡ 1 + 2 * (p + q + r + t + u)
    sums v w x y z p q r t u h1 h2 h3 h4 h5 = omega (arith, h1, h2, h3, h4, h5)

proc_head_long : (h o f g t i p : ℕ) → IsProcHead h o f g t i p → length_of h ≡ 2 + 2 * (o + f + g)
proc_head_long h o f g t i p is =
    let some : ℕ = 2 + 2 * (h / 2 ^ 2 % 2 + h / 2 ^ 3 % 2 + h / 2 ^ 4 % 2) in
    ap (λ n. cond (nat_eq n 0) some (1 + 2 * (h / 2 ^ 2 % 2 ^ 5 + h / 2 ^ 7 % 2 ^ 5 + h / 2 ^ 12 % 2 ^ 5 + h / 2 ^ 17 % 2 ^ 5 + h / 2 ^ 22 % 2 ^ 5))) is.kind
    ∙ sums _ _ _ o f g is.out is.first is.second
  where
    sums : (v w x p q r : ℕ) → v ≡ p → w ≡ q → x ≡ r → 2 + 2 * (v + w + x) ≡ 2 + 2 * (p + q + r)
    sums v w x p q r h1 h2 h3 = omega (arith, h1, h2, h3)

one_more : (n m a : ℕ) → n ≡ 1 + a → m ≡ 2 + a → 1 + n ≡ m
one_more n m a x y = omega (arith, x, y)

head_more : (n m a : ℕ) → n ≡ a → m ≡ 1 + a → 1 + n ≡ m
head_more n m a x y = omega (arith, x, y)

no_waits : (m a : ℕ) → m ≡ 1 + 2 * (a + 0) → m ≡ 1 + 2 * a
no_waits m a h = omega (arith, h)

-- a component's words
pub procs_are_words : ProcsAreWords
procs_are_words s h =
    let is = proc_head_is s h in
    record { kind = is.kind; exact = one_more _ _ _ (proc_long s) (proc_head_long (proc_head s) _ _ _ _ _ _ is); fit = proc_fit s h }

pub modules_are_words : ModulesAreWords
modules_are_words s h =
    let is = module_head_is s h in
    record { kind = is.kind; exact = head_more _ _ _ (module_long s) (no_waits _ _ (head_long (module_head s) 1 _ _ _ _ _ _ refl is)); fit = module_fit s h }

pub lows_are_words : LowsAreWords
lows_are_words s h =
    let is = low_head_is s h in
    record { kind = is.kind; exact = head_more _ _ _ (low_long s) (no_waits _ _ (head_long (low_head s) 2 _ _ _ _ _ _ refl is)); fit = low_fit s h }

pub combs_are_words : CombsAreWords
combs_are_words s h =
    let is = comb_head_is s h in
    record { kind = is.kind; exact = head_more _ _ _ (comb_long s) (head_long (comb_head s) 3 _ _ _ _ _ _ refl is); fit = comb_fit s h }
