-- How long words are.
use Rattle.std.proofs.Common.{◌≡◌, ℕ, suc, ◌+◌, ◌*◌, List, [], ◌∷◌, length, ap, ◌∙◌, Option, Some, None, is_some, arith}
use Rattle.arrayvec.specs.ArrayVec.{ArrayVec}
use Rattle.omega_net.specs.declared.message.Request.{Request}
use Rattle.omega_net.specs.declared.message.Reply.{Reply}
use Rattle.omega_net.specs.Ports.{queue_at, message_at}
use Rattle.ref_proc.specs.declared.state.ProcState.{ProcState}
use Rattle.mem_module.specs.declared.state.ModuleState.{ModuleState}
use Rattle.low_switch.specs.declared.state.LowState.{LowState}
use Rattle.comb_switch.specs.declared.state.CombState.{CombState}
use Rattle.state_words.specs.Messages.{request_first, request_second, out_first, out_second, reply_first, reply_second, wait_first, wait_second, message_words}
use Rattle.state_words.specs.Words.{one_if, size_at, queues_words, option_words, proc_body, module_body, low_body, comb_body}

pub messages_long : {T : Type 0} (first second : T → ℕ) (ms : List T) (rest : List ℕ) → length (message_words first second ms rest) ≡ 2 * length ms + length rest
messages_long first second [] rest = plain (length rest)
  where
    plain : (n : ℕ) → n ≡ 2 * 0 + n
    plain n = omega arith
messages_long first second (m ∷ ms) rest = ap (λ n. suc (suc n)) (messages_long first second ms rest) ∙ more (length ms) (length rest)
  where
    more : (n r : ℕ) → suc (suc (2 * n + r)) ≡ 2 * suc n + r
    more n r = omega arith

pub option_long : {T : Type 0} (first second : T → ℕ) (o : Option T) (rest : List ℕ) → length (option_words first second o rest) ≡ 2 * one_if (is_some o) + length rest
option_long first second None rest = plain (length rest)
  where
    plain : (n : ℕ) → n ≡ 2 * 0 + n
    plain n = omega arith
option_long first second (Some m) rest = plain (length rest)
  where
    plain : (n : ℕ) → suc (suc n) ≡ 2 * 1 + n
    plain n = omega arith

pub queues_long : (xs : List (ArrayVec Request)) (ys : List (ArrayVec Reply)) (rest : List ℕ)
    → length (queues_words xs ys rest) ≡ 2 * (size_at xs 0 + size_at xs 1 + size_at ys 0 + size_at ys 1) + length rest
queues_long xs ys rest =
    let d = message_words reply_first reply_second (queue_at ys 1).items rest in
    let c = message_words reply_first reply_second (queue_at ys 0).items d in
    let b = message_words request_first request_second (queue_at xs 1).items c in
    let first : length (queues_words xs ys rest) ≡ 2 * size_at xs 0 + length b = messages_long request_first request_second (queue_at xs 0).items b in
    let second : length b ≡ 2 * size_at xs 1 + length c = messages_long request_first request_second (queue_at xs 1).items c in
    let third : length c ≡ 2 * size_at ys 0 + length d = messages_long reply_first reply_second (queue_at ys 0).items d in
    let fourth : length d ≡ 2 * size_at ys 1 + length rest = messages_long reply_first reply_second (queue_at ys 1).items rest in
    omega (arith, first, second, third, fourth)

pub proc_long : (s : ProcState) → length (proc_body s) ≡ 1 + 2 * (one_if (is_some s.out) + one_if (is_some (message_at s.got 0)) + one_if (is_some (message_at s.got 1)))
proc_long s =
    let second = option_words reply_first reply_second (message_at s.got 1) [] in
    let first = option_words reply_first reply_second (message_at s.got 0) second in
    sums _ _ _ _ _ _ (option_long out_first out_second s.out first) (option_long reply_first reply_second (message_at s.got 0) second) (option_long reply_first reply_second (message_at s.got 1) [])
  where
    sums : (n m k o f g : ℕ) → n ≡ 2 * o + m → m ≡ 2 * f + k → k ≡ 2 * g + 0 → suc n ≡ 1 + 2 * (o + f + g)
    sums n m k o f g x y z = omega (arith, x, y, z)

no_more : (n a : ℕ) → n ≡ 2 * a + 0 → n ≡ 2 * a
no_more n a h = omega (arith, h)

pub module_long : (s : ModuleState) → length (module_body s) ≡ 2 * (size_at s.requests 0 + size_at s.requests 1 + size_at s.replies 0 + size_at s.replies 1)
module_long s = no_more _ _ (queues_long s.requests s.replies [])

pub low_long : (s : LowState) → length (low_body s) ≡ 2 * (size_at s.fwd 0 + size_at s.fwd 1 + size_at s.rev 0 + size_at s.rev 1)
low_long s = no_more _ _ (queues_long s.fwd s.rev [])

pub comb_long : (s : CombState) → length (comb_body s) ≡ 2 * (size_at s.fwd 0 + size_at s.fwd 1 + size_at s.rev 0 + size_at s.rev 1 + length s.wait.items)
comb_long s = sums _ _ _ _ (queues_long s.fwd s.rev _) (messages_long wait_first wait_second s.wait.items [])
  where
    sums : (n m a e : ℕ) → n ≡ 2 * a + m → m ≡ 2 * e + 0 → n ≡ 2 * (a + e)
    sums n m a e x y = omega (arith, x, y)
