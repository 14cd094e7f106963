-- Words of 64 bits are states of the machine's types, whatever they are.
use Rattle.std.proofs.Common.{◌≡◌, ℕ, zero, suc, ◌*◌, ◌/◌, ◌%◌, ◌^◌, ◌<◌, ◌≤◌, ◌==◌, if◌then◌else◌, Bool, true, false, cond, nat_eq, List, [], ◌∷◌, length, drop, slice_index, All, refl, sym, ap, subst, ◌∙◌, arith, ◌⊎◌, inl, inr}
use Rattle.std.proofs.lemmas.Bool.{cases_lt}
use Rattle.std.proofs.lemmas.List.{get_or_past}
use Rattle.std.proofs.lemmas.List.Elements.{All-nil, All-cons, All-drop, All-get_or}
use Rattle.omega_net.specs.declared.component.Component.TheVariants.{Proc as ProcAt, Module as ModuleAt, Switch}
use Rattle.omega_net.specs.declared.component.Net.TheVariants.{Low as LowNet, Comb as CombNet}
use Rattle.omega_net.specs.Limits.{queue_places}
use Rattle.mem_module.specs.declared.words.Stored.{Stored}
use Rattle.grid_law.specs.Codec.{IsTold}
use Rattle.state_words.specs.Fits.{IsRequest, IsOutgoing, IsReply, IsWaiting, IsQueue, AreQueues, AreTurns, IfThere, IsProc, IsModule, IsLow, IsComb}
use Rattle.state_words.specs.Messages.{request_from, out_from, reply_from, wait_from}
use Rattle.state_words.specs.Reading.{messages_from, queue_from, queues_from, option_from, after_option, after, after_requests, after_replies, count_in, mark_in, proc_from, module_from, low_from, comb_from}
use Rattle.machine_cells.specs.declared.state.MachineState.{MachineState}
use Rattle.machine_cells.specs.declared.state.MachineState.TheVariants.{Proc, Module, Low, Comb}
use Rattle.machine_cells.specs.Words.{words_of, state_with, state_from, IsState}
use Rattle.machine_cells.specs.Codec.{memory_in, or_none, rp3_codec}
use Rattle.flat_row.specs.Loading.{CanHold}
use Rattle.whole_rows.specs.Rows.{HasTurns}

abbrev AreWords : List ℕ → Type 0
AreWords ws = All (λ w. w < 2 ^ 64) ws

word_in : (ws : List ℕ) (i : ℕ) → AreWords ws → slice_index ws i < 2 ^ 64
word_in ws i all = by_place (cases_lt i (length ws))
  where
    by_place : (i < length ws) ⊎ (length ws ≤ i) → slice_index ws i < 2 ^ 64
    by_place (inl h) = All-get_or (λ w. w < 2 ^ 64) ws i 0 h all
    by_place (inr h) = let e : slice_index ws i ≡ 0 = get_or_past ws i 0 h in omega (arith, e)

-- fields
high : (a : ℕ) → a < 2 ^ 64 → a / 2 ^ 32 < 2 ^ 32
high a h = omega (arith, h)

byte : (a : ℕ) → a % 2 ^ 8 < 2 ^ 8
byte a = omega arith

half : (a : ℕ) → a % 2 ^ 16 < 2 ^ 16
half a = omega arith

low : (a : ℕ) → a % 2 ^ 32 < 2 ^ 32
low a = omega arith

is_request : (a b : ℕ) → a < 2 ^ 64 → IsRequest (request_from a b)
is_request a b h = record {
  tag = record { proc = byte a; issue = low b };
  «module» = byte (a / 2 ^ 8);
  row = half (a / 2 ^ 16);
  operand = high a h;
}

is_reply : (a b : ℕ) → a < 2 ^ 64 → IsReply (reply_from a b)
is_reply a b h = record { tag = record { proc = byte b; issue = low a }; word = high a h }

is_waiting : (a b : ℕ) → a < 2 ^ 64 → IsWaiting (wait_from a b)
is_waiting a b h = record {
  first = record { proc = byte (b / 2 ^ 32); issue = low a };
  operand = high a h;
  second = record { proc = byte (b / 2 ^ 40); issue = low b };
}

-- queues
count_few : (part : ℕ) → count_in part ≤ queue_places
count_few part = omega arith

module _ {T : Type 0} (Is : T → Type 0) (from : ℕ → ℕ → T) (is : (a b : ℕ) → a < 2 ^ 64 → Is (from a b)) where
  messages_fit : (n : ℕ) (ws : List ℕ) → AreWords ws → All Is (messages_from from n ws)
  messages_fit zero ws all = All-nil Is
  messages_fit (suc n) ws all = All-cons Is (from (slice_index ws 0) (slice_index ws 1)) (messages_from from n (drop 2 ws)) (is (slice_index ws 0) (slice_index ws 1) (word_in ws 0 all)) (messages_fit n (drop 2 ws) (All-drop (λ w. w < 2 ^ 64) 2 ws all))

  messages_many : (n : ℕ) (ws : List ℕ) → length (messages_from from n ws) ≡ n
  messages_many zero ws = refl
  messages_many (suc n) ws = ap suc (messages_many n (drop 2 ws))

  queue_fits : (part : ℕ) (ws : List ℕ) → AreWords ws → IsQueue Is (queue_from from (count_in part) ws)
  queue_fits part ws all = record { fits = omega (arith, messages_many (count_in part) ws, count_few part); each = messages_fit (count_in part) ws all }

  after_fits : (n : ℕ) (ws : List ℕ) → AreWords ws → AreWords (after n ws)
  after_fits n ws all = All-drop (λ w. w < 2 ^ 64) (2 * n) ws all

  queues_fit : (a b : ℕ) (ws : List ℕ) → AreWords ws → AreQueues Is (queues_from from (count_in a) (count_in b) ws)
  queues_fit a b ws all = record { two = refl; first = queue_fits a ws all; second = queue_fits b (after (count_in a) ws) (after_fits (count_in a) ws all) }

  option_fits : (there : Bool) (ws : List ℕ) → AreWords ws → IfThere Is (option_from from there ws)
  option_fits true ws all = is (slice_index ws 0) (slice_index ws 1) (word_in ws 0 all)
  option_fits false ws all = tt

after_option_fits : (there : Bool) (ws : List ℕ) → AreWords ws → AreWords (after_option there ws)
after_option_fits true ws all = All-drop (λ w. w < 2 ^ 64) 2 ws all
after_option_fits false ws all = all

requests_past : (h : ℕ) (ws : List ℕ) → AreWords ws → AreWords (after_requests h ws)
requests_past h ws all = All-drop (λ w. w < 2 ^ 64) (2 * count_in (h / 2 ^ 7)) (after (count_in (h / 2 ^ 2)) ws) (All-drop (λ w. w < 2 ^ 64) (2 * count_in (h / 2 ^ 2)) ws all)

replies_past : (h : ℕ) (ws : List ℕ) → AreWords ws → AreWords (after_replies h ws)
replies_past h ws all = All-drop (λ w. w < 2 ^ 64) (2 * count_in (h / 2 ^ 17)) (after (count_in (h / 2 ^ 12)) (after_requests h ws)) (All-drop (λ w. w < 2 ^ 64) (2 * count_in (h / 2 ^ 12)) (after_requests h ws) (requests_past h ws all))

-- the four kinds
is_outgoing : (a b : ℕ) → a < 2 ^ 64 → IsOutgoing (out_from a b)
is_outgoing a b h = record { request = is_request a b h }

proc_fits : (h : ℕ) (ws : List ℕ) → AreWords ws → IsProc (proc_from h ws)
proc_fits h ws all =
    let ms = drop 1 ws in
    let out = mark_in (h / 2 ^ 2) in
    let first = mark_in (h / 2 ^ 3) in
    let here : AreWords ms = All-drop (λ w. w < 2 ^ 64) 1 ws all in
    let past : AreWords (after_option out ms) = after_option_fits out ms here in
    record {
      index = half (h / 2 ^ 6);
      spent = low (slice_index ws 0);
      issued = high (slice_index ws 0) (word_in ws 0 all);
      pending = low (h / 2 ^ 22);
      out = option_fits IsOutgoing out_from is_outgoing out ms here;
      two = refl;
      first = option_fits IsReply reply_from is_reply first (after_option out ms) past;
      second = option_fits IsReply reply_from is_reply (mark_in (h / 2 ^ 4)) (after_option first (after_option out ms)) (after_option_fits first (after_option out ms) past);
    }

module_fits : (h : ℕ) (ws : List ℕ) (memory : List Stored) → AreWords ws → IsModule (module_from h ws memory)
module_fits h ws memory all = record {
  requests = queues_fit IsRequest request_from is_request (h / 2 ^ 2) (h / 2 ^ 7) ws all;
  replies = queues_fit IsReply reply_from is_reply (h / 2 ^ 12) (h / 2 ^ 17) (after_requests h ws) (requests_past h ws all);
}

turns_fit : (a b : ℕ) → AreTurns ((a % 2 ^ 8) ∷ (b % 2 ^ 8) ∷ [])
turns_fit a b = record { two = refl; first = byte a; second = byte b }

low_fits : (h : ℕ) (ws : List ℕ) → AreWords ws → IsLow (low_from h ws)
low_fits h ws all = record {
  fwd = queues_fit IsRequest request_from is_request (h / 2 ^ 2) (h / 2 ^ 7) ws all;
  rev = queues_fit IsReply reply_from is_reply (h / 2 ^ 12) (h / 2 ^ 17) (after_requests h ws) (requests_past h ws all);
  turn = turns_fit (h / 2 ^ 27) (h / 2 ^ 35);
  rturn = turns_fit (h / 2 ^ 43) (h / 2 ^ 51);
}

comb_fits : (h : ℕ) (ws : List ℕ) → AreWords ws → IsComb (comb_from h ws)
comb_fits h ws all = record {
  fwd = queues_fit IsRequest request_from is_request (h / 2 ^ 2) (h / 2 ^ 7) ws all;
  rev = queues_fit IsReply reply_from is_reply (h / 2 ^ 12) (h / 2 ^ 17) (after_requests h ws) (requests_past h ws all);
  wait = queue_fits IsWaiting wait_from is_waiting (h / 2 ^ 22) (after_replies h ws) (replies_past h ws all);
  turn = turns_fit (h / 2 ^ 27) (h / 2 ^ 35);
  rturn = byte (h / 2 ^ 43);
  combined = byte (h / 2 ^ 51);
}

by_kind : (a b c : Bool) (h : ℕ) (ws : List ℕ) (memory : List Stored) → AreWords ws → IsState (cond a (Proc (proc_from h ws)) (cond b (Module (module_from h ws memory)) (cond c (Low (low_from h ws)) (Comb (comb_from h ws)))))
by_kind true b c h ws memory all = proc_fits h ws all
by_kind false true c h ws memory all = module_fits h ws memory all
by_kind false false true h ws memory all = low_fits h ws all
by_kind false false false h ws memory all = comb_fits h ws all

state_fits : (ws : List ℕ) (memory : List Stored) → AreWords ws → IsState (state_from ws memory)
state_fits ws memory all = by_kind (nat_eq (slice_index ws 0 % 2 ^ 2) 0) (nat_eq (slice_index ws 0 % 2 ^ 2) 1) (nat_eq (slice_index ws 0 % 2 ^ 2) 2) (slice_index ws 0) (drop 1 ws) memory (All-drop (λ w. w < 2 ^ 64) 1 ws all)

-- a state that its words and its memory tell is the one that they are read as
told_is : (x : MachineState) (ws : List ℕ) → IsTold rp3_codec x → words_of x ≡ ws → state_from ws (or_none (memory_in x)) ≡ x
told_is x ws told e = ap (λ v. state_from v (or_none (memory_in x))) (sym e) ∙ told

pub told_fits : (ws : List ℕ) → AreWords ws → (x : MachineState) → IsTold rp3_codec x → words_of x ≡ ws → IsState x
told_fits ws all x told e = subst IsState (told_is x ws told e) (state_fits ws (or_none (memory_in x)) all)

-- what a row can hold
chosen : (h k : ℕ) (ws : List ℕ) (memory : List Stored) → h % 2 ^ 2 ≡ k
    → state_with h ws memory ≡ (if k == 0 then Proc (proc_from h ws) else if k == 1 then Module (module_from h ws memory) else if k == 2 then Low (low_from h ws) else Comb (comb_from h ws))
chosen h k ws memory e = ap (λ n. if n == 0 then Proc (proc_from h ws) else if n == 1 then Module (module_from h ws memory) else if n == 2 then Low (low_from h ws) else Comb (comb_from h ws)) e

module _ (ws : List ℕ) (h : ℕ) (head : h ≡ slice_index ws 0) (x : MachineState) (told : IsTold rp3_codec x) (words : words_of x ≡ ws) where
  abbrev memory : List Stored
  memory = or_none (memory_in x)

  is_read : state_with h (drop 1 ws) memory ≡ x
  is_read = ap (λ n. state_with n (drop 1 ws) memory) head ∙ told_is x ws told words

  pub holds_proc : (p : ℕ) → h % 2 ^ 2 ≡ 0 → CanHold (ProcAt p) x
  holds_proc p e = subst (CanHold (ProcAt p)) (sym (chosen h 0 (drop 1 ws) memory e) ∙ is_read) tt

  pub holds_module : (m : ℕ) → h % 2 ^ 2 ≡ 1 → CanHold (ModuleAt m) x
  holds_module m e = subst (CanHold (ModuleAt m)) (sym (chosen h 1 (drop 1 ws) memory e) ∙ is_read) tt

  pub holds_low : (s j : ℕ) → h % 2 ^ 2 ≡ 2 → HasTurns h 2 → CanHold (Switch LowNet s j) x
  holds_low s j e t = subst (CanHold (Switch LowNet s j)) (sym (chosen h 2 (drop 1 ws) memory e) ∙ is_read) (record { first = t.first; second = t.second }, record { first = t.third; second = t.last })

  pub holds_comb : (s j : ℕ) → h % 2 ^ 2 ≡ 3 → HasTurns h 3 → CanHold (Switch CombNet s j) x
  holds_comb s j e t = subst (CanHold (Switch CombNet s j)) (sym (chosen h 3 (drop 1 ws) memory e) ∙ is_read) (record { first = t.first; second = t.second }, t.third, omega (arith, t.last))
