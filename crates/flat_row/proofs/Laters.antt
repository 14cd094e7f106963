-- The words of a low switch and of a module one cycle later, by the messages in their queues.
use Rattle.std.proofs.Common.{◌≡◌, ℕ, suc, ◌+◌, ◌*◌, ◌<◌, ◌≤◌, length, All, subst, Bool, true, false, cond, List, [], refl, ap, sym, ◌∙◌, Option, None, Some, arith}
use Rattle.std.specs.Prelude.{◌||◌, is_some, slice_get}
use Rattle.arrayvec.specs.ArrayVec.{ArrayVec}
use Rattle.omega_net.specs.declared.component.Net.{Net}
use Rattle.omega_net.specs.declared.component.Net.TheVariants.{Low as LowNet, Comb as CombNet}
use Rattle.omega_net.specs.declared.message.Request.{Request}
use Rattle.omega_net.specs.declared.message.Reply.{Reply}
use Rattle.omega_net.specs.declared.message.Traffic.{Traffic}
use Rattle.omega_net.specs.declared.component.Component.TheVariants.{Module as ModuleAt}
use Rattle.omega_net.specs.Limits.{queue_places}
use Rattle.omega_net.specs.Numbers.{lines}
use Rattle.omega_net.specs.Wires.{net_number}
use Rattle.omega_net.specs.Queues.{head, queue_after, turn_after}
use Rattle.omega_net.specs.Ports.{mark_at, message_at, queue_at}
use Rattle.ref_proc.specs.RefProc.{net_for}
use Rattle.mem_module.specs.declared.words.Stored.{Stored}
use Rattle.mem_module.specs.declared.state.ModuleState.{ModuleState}
use Rattle.mem_module.specs.declared.step.ModuleTraffic.{ModuleTraffic}
use Rattle.mem_module.specs.MemModule.{is_net, served_net, served_on, answer_to, answer_if, turn_from, words_after, requests_after, replies_after, module_serving}
use Rattle.low_switch.specs.LowSwitch.{low_after, request_through, reply_through}
use Rattle.project_book.specs.Project.{Project, depth_of}
use Rattle.project_book.specs.declared.edit.Depths.TheVariants.{ModuleQueue}
use Rattle.machine_cells.specs.declared.state.MachineState.TheVariants.{Module, Low}
use Rattle.machine_cells.specs.Moves.{moves}
use Rattle.machine_cells.specs.Cycle.{module_traffic, part_of}
use Rattle.state_words.specs.Fits.{IsRequest, IsReply, IsModule, IsLow}
use Rattle.state_words.specs.Words.{bytes, one_if}
use Rattle.machine_cells.specs.Words.{words_of, memory_of, IsState}
use Rattle.flat_row.specs.Parts.{parts_words}
use Rattle.flat_row.specs.Masks.{has}
use Rattle.flat_row.specs.Next.{module_given, part_given, memory_left}
use Rattle.flat_row.specs.Row.{Network, Arrays, queue_of, port_label, turn_of, low_of, module_of, states_of}
use Rattle.flat_row.specs.Step.{Serves}
use Rattle.flat_row.proofs.Handing.{given_module}
use Rattle.flat_row.proofs.Telling.{queue_fits, turn_fits, turn_later}

pub parts_alike : (kind : ℕ) (a f b g : List Request) (c u d v : List Reply) (m n : ℕ) → a ≡ f → b ≡ g → c ≡ u → d ≡ v → m ≡ n → parts_words kind a b c d [] m ≡ parts_words kind f g u v [] n
parts_alike kind a f b g c u d v m n ae be ce de me =
    ap (λ x. parts_words kind x b c d [] m) ae ∙ ap (λ x. parts_words kind f x c d [] m) be ∙ ap (λ x. parts_words kind f g x d [] m) ce
    ∙ ap (λ x. parts_words kind f g u x [] m) de ∙ ap (λ x. parts_words kind f g u v [] x) me

abbrev requests_in : ℕ → Traffic → ℕ → ArrayVec Request → ArrayVec Request
requests_in b t o q = queue_after (mark_at t.requests_leave o) (request_through b t 0 o) (request_through b t 1 o) q

abbrev replies_in : ℕ → Traffic → ℕ → ArrayVec Reply → ArrayVec Reply
replies_in b t i q = queue_after (mark_at t.replies_leave i) (reply_through b t 0 i) (reply_through b t 1 i) q

abbrev turn_in : ℕ → Traffic → ℕ → ℕ → ℕ
turn_in b t o turn = turn_after turn (is_some (request_through b t 0 o)) (is_some (request_through b t 1 o))

abbrev back_turn_in : ℕ → Traffic → ℕ → ℕ → ℕ
back_turn_in b t i turn = turn_after turn (is_some (reply_through b t 0 i)) (is_some (reply_through b t 1 i))

-- a low switch of a row
module _ (k : ℕ) (n N : Network) (same : N ≡ n) (s j b c : ℕ) (t T : Traffic) (bit_is : c ≡ b) (handed : t ≡ T) (x y l : ℕ) (x_is : x ≡ port_label k s j 0) (y_is : y ≡ port_label k s j 1) (behind : l ≡ suc s) where
  requests_so : (o z w : ℕ) (ms new : List Request) → z ≡ w → ms ≡ (queue_of N.requests l z).items → new ≡ (requests_in c t o (record { items = ms })).items
      → new ≡ (requests_in b T o (queue_of n.requests (suc s) w)).items
  requests_so o z w ms new z_is there so =
      so ∙ ap (λ xs. (requests_in c t o (record { items = xs })).items) there
      ∙ ap (λ (m : Network). (requests_in c t o (queue_of m.requests l z)).items) same
      ∙ ap (λ i. (requests_in c t o (queue_of n.requests i z)).items) behind
      ∙ ap (λ z. (requests_in c t o (queue_of n.requests (suc s) z)).items) z_is
      ∙ ap (λ t. (requests_in c t o (queue_of n.requests (suc s) w)).items) handed
      ∙ ap (λ c. (requests_in c T o (queue_of n.requests (suc s) w)).items) bit_is

  replies_so : (o z w : ℕ) (ms new : List Reply) → z ≡ w → ms ≡ (queue_of N.replies s z).items → new ≡ (replies_in c t o (record { items = ms })).items
      → new ≡ (replies_in b T o (queue_of n.replies s w)).items
  replies_so o z w ms new z_is there so =
      so ∙ ap (λ xs. (replies_in c t o (record { items = xs })).items) there
      ∙ ap (λ (m : Network). (replies_in c t o (queue_of m.replies s z)).items) same
      ∙ ap (λ z. (replies_in c t o (queue_of n.replies s z)).items) z_is
      ∙ ap (λ t. (replies_in c t o (queue_of n.replies s w)).items) handed
      ∙ ap (λ c. (replies_in c T o (queue_of n.replies s w)).items) bit_is

  turn_so : (o z w a turn : ℕ) → z ≡ w → turn ≡ turn_of N.turns s z → a ≡ turn_in c t o turn → a ≡ turn_in b T o (turn_of n.turns s w)
  turn_so o z w a turn z_is there so =
      so ∙ ap (turn_in c t o) (there ∙ ap (λ (m : Network). turn_of m.turns s z) same ∙ ap (turn_of n.turns s) z_is)
      ∙ ap (λ t. turn_in c t o (turn_of n.turns s w)) handed ∙ ap (λ c. turn_in c T o (turn_of n.turns s w)) bit_is

  back_turn_so : (o z w a turn : ℕ) → z ≡ w → turn ≡ turn_of N.back_turns s z → a ≡ back_turn_in c t o turn → a ≡ back_turn_in b T o (turn_of n.back_turns s w)
  back_turn_so o z w a turn z_is there so =
      so ∙ ap (back_turn_in c t o) (there ∙ ap (λ (m : Network). turn_of m.back_turns s z) same ∙ ap (turn_of n.back_turns s) z_is)
      ∙ ap (λ t. back_turn_in c t o (turn_of n.back_turns s w)) handed ∙ ap (λ c. back_turn_in c T o (turn_of n.back_turns s w)) bit_is

  abbrev own : ℕ → ℕ
  own o = port_label k s j o

  abbrev fwd_then : ℕ → List Request
  fwd_then o = (requests_in b T o (queue_of n.requests (suc s) (own o))).items

  abbrev rev_then : ℕ → List Reply
  rev_then i = (replies_in b T i (queue_of n.replies s (own i))).items

  abbrev turn_then : ℕ → ℕ
  turn_then o = turn_in b T o (turn_of n.turns s (own o))

  abbrev back_then : ℕ → ℕ
  back_then i = back_turn_in b T i (turn_of n.back_turns s (own i))

  pub low_told : (f g new_f new_g : List Request) (u v new_u new_v : List Reply) (a0 a1 r0 r1 p0 p1 q0 q1 small : ℕ)
      → f ≡ (queue_of N.requests l x).items → g ≡ (queue_of N.requests l y).items → u ≡ (queue_of N.replies s x).items → v ≡ (queue_of N.replies s y).items
      → new_f ≡ (requests_in c t 0 (record { items = f })).items → new_g ≡ (requests_in c t 1 (record { items = g })).items
      → new_u ≡ (replies_in c t 0 (record { items = u })).items → new_v ≡ (replies_in c t 1 (record { items = v })).items
      → p0 ≡ turn_of N.turns s x → p1 ≡ turn_of N.turns s y → q0 ≡ turn_of N.back_turns s x → q1 ≡ turn_of N.back_turns s y
      → a0 ≡ turn_in c t 0 p0 → a1 ≡ turn_in c t 1 p1 → r0 ≡ back_turn_in c t 0 q0 → r1 ≡ back_turn_in c t 1 q1 → small ≡ bytes a0 a1 r0 r1
      → parts_words 2 new_f new_g new_u new_v [] small ≡ words_of (Low (low_after b T (low_of k n s j)))
  low_told f g new_f new_g u v new_u new_v a0 a1 r0 r1 p0 p1 q0 q1 small fe ge ue ve nf ng nu nv p0e p1e q0e q1e a0e a1e r0e r1e se =
      parts_alike 2 new_f (fwd_then 0) new_g (fwd_then 1) new_u (rev_then 0) new_v (rev_then 1) small (bytes (turn_then 0) (turn_then 1) (back_then 0) (back_then 1))
      (requests_so 0 x (own 0) f new_f x_is fe nf) (requests_so 1 y (own 1) g new_g y_is ge ng)
      (replies_so 0 x (own 0) u new_u x_is ue nu) (replies_so 1 y (own 1) v new_v y_is ve nv)
      (se
      ∙ ap (λ i. bytes i a1 r0 r1) (turn_so 0 x (own 0) a0 p0 x_is p0e a0e)
      ∙ ap (λ i. bytes (turn_then 0) i r0 r1) (turn_so 1 y (own 1) a1 p1 y_is p1e a1e)
      ∙ ap (λ i. bytes (turn_then 0) (turn_then 1) i r1) (back_turn_so 0 x (own 0) r0 q0 x_is q0e r0e)
      ∙ ap (bytes (turn_then 0) (turn_then 1) (back_then 0)) (back_turn_so 1 y (own 1) r1 q1 y_is q1e r1e))

  pub low_fits : (f g new_f new_g : List Request) (u v new_u new_v : List Reply)
      → f ≡ (queue_of N.requests l x).items → g ≡ (queue_of N.requests l y).items → u ≡ (queue_of N.replies s x).items → v ≡ (queue_of N.replies s y).items
      → new_f ≡ (requests_in c t 0 (record { items = f })).items → new_g ≡ (requests_in c t 1 (record { items = g })).items
      → new_u ≡ (replies_in c t 0 (record { items = u })).items → new_v ≡ (replies_in c t 1 (record { items = v })).items
      → length new_f ≤ queue_places → length new_g ≤ queue_places → length new_u ≤ queue_places → length new_v ≤ queue_places
      → All IsRequest new_f → All IsRequest new_g → All IsReply new_u → All IsReply new_v → IsLow (low_after b T (low_of k n s j))
  low_fits f g new_f new_g u v new_u new_v fe ge ue ve nf ng nu nv lf lg lu lv af ag au av = record {
    fwd = record {
      two = refl;
      first = queue_fits IsRequest (requests_in b T 0 (queue_of n.requests (suc s) (own 0))) new_f (requests_so 0 x (own 0) f new_f x_is fe nf) lf af;
      second = queue_fits IsRequest (requests_in b T 1 (queue_of n.requests (suc s) (own 1))) new_g (requests_so 1 y (own 1) g new_g y_is ge ng) lg ag;
    };
    rev = record {
      two = refl;
      first = queue_fits IsReply (replies_in b T 0 (queue_of n.replies s (own 0))) new_u (replies_so 0 x (own 0) u new_u x_is ue nu) lu au;
      second = queue_fits IsReply (replies_in b T 1 (queue_of n.replies s (own 1))) new_v (replies_so 1 y (own 1) v new_v y_is ve nv) lv av;
    };
    turn = record { two = refl; first = turn_later (turn_of n.turns s (own 0)) _ _ (turn_fits n.turns s (own 0)); second = turn_later (turn_of n.turns s (own 1)) _ _ (turn_fits n.turns s (own 1)) };
    rturn = record { two = refl; first = turn_later (turn_of n.back_turns s (own 0)) _ _ (turn_fits n.back_turns s (own 0)); second = turn_later (turn_of n.back_turns s (own 1)) _ _ (turn_fits n.back_turns s (own 1)) };
  }

-- a module that serves, by the queues of both networks
one_served : (N : Option Net) → (is_net LowNet N || is_net CombNet N) ≡ is_some N
one_served None = refl
one_served (Some LowNet) = refl
one_served (Some CombNet) = refl

if_answered : (t : Bool) (o : Option Reply) → cond t o None ≡ answer_if t o
if_answered true o = refl
if_answered false o = refl

number_of_turn : (t : Bool) → one_if t ≡ net_number (net_for t)
number_of_turn true = refl
number_of_turn false = refl

module _ (t : ModuleTraffic) (s : ModuleState) (N : Option Net) (at_low at_comb : Bool) (low_so : at_low ≡ is_net LowNet N) (comb_so : at_comb ≡ is_net CombNet N) where
  -- the request that is served
  pub served_so : cond at_low (head (queue_at s.requests 0)) (cond at_comb (head (queue_at s.requests 1)) None) ≡ served_on s N
  served_so =
      ap (λ x. cond x (head (queue_at s.requests 0)) (cond at_comb (head (queue_at s.requests 1)) None)) low_so
      ∙ ap (λ x. cond (is_net LowNet N) (head (queue_at s.requests 0)) (cond x (head (queue_at s.requests 1)) None)) comb_so ∙ by_net N
    where
      by_net : (N : Option Net) → cond (is_net LowNet N) (head (queue_at s.requests 0)) (cond (is_net CombNet N) (head (queue_at s.requests 1)) None) ≡ served_on s N
      by_net None = refl
      by_net (Some LowNet) = refl
      by_net (Some CombNet) = refl

  on_net_so : (answer : Option Reply) → answer ≡ answer_to s.words (served_on s N) → (at : Bool) (net : Net) → at ≡ is_net net N → cond at answer None ≡ answer_if (is_net net N) (answer_to s.words (served_on s N))
  on_net_so answer answered at net e = if_answered at answer ∙ ap (λ x. answer_if x answer) e ∙ ap (answer_if (is_net net N)) answered

  -- its queues one cycle later
  abbrev ServesThen : List Request → List Request → List Reply → List Reply → Type 0
  ServesThen a b c d = ((a ≡ (requests_after t s N LowNet).items) × (b ≡ (requests_after t s N CombNet).items)) × ((c ≡ (replies_after t s N LowNet).items) × (d ≡ (replies_after t s N CombNet).items))

  queues_then : (answer : Option Reply) (new_a new_b : List Request) (new_c new_d : List Reply) → answer ≡ answer_to s.words (served_on s N)
      → new_a ≡ (queue_after at_low (message_at t.requests 0) None (queue_at s.requests 0)).items → new_b ≡ (queue_after at_comb (message_at t.requests 1) None (queue_at s.requests 1)).items
      → new_c ≡ (queue_after (mark_at t.replies_leave 0) (cond at_low answer None) None (queue_at s.replies 0)).items
      → new_d ≡ (queue_after (mark_at t.replies_leave 1) (cond at_comb answer None) None (queue_at s.replies 1)).items
      → ServesThen new_a new_b new_c new_d
  queues_then answer new_a new_b new_c new_d answered ae be ce de = (
    (ae ∙ ap (λ x. (queue_after x (message_at t.requests 0) None (queue_at s.requests 0)).items) low_so, be ∙ ap (λ x. (queue_after x (message_at t.requests 1) None (queue_at s.requests 1)).items) comb_so),
    (ce ∙ ap (λ o. (queue_after (mark_at t.replies_leave 0) o None (queue_at s.replies 0)).items) (on_net_so answer answered at_low LowNet low_so), de ∙ ap (λ o. (queue_after (mark_at t.replies_leave 1) o None (queue_at s.replies 1)).items) (on_net_so answer answered at_comb CombNet comb_so)),
  )

  pub serving_fits : (answer : Option Reply) (new_a new_b : List Request) (new_c new_d : List Reply) → answer ≡ answer_to s.words (served_on s N)
      → new_a ≡ (queue_after at_low (message_at t.requests 0) None (queue_at s.requests 0)).items → new_b ≡ (queue_after at_comb (message_at t.requests 1) None (queue_at s.requests 1)).items
      → new_c ≡ (queue_after (mark_at t.replies_leave 0) (cond at_low answer None) None (queue_at s.replies 0)).items
      → new_d ≡ (queue_after (mark_at t.replies_leave 1) (cond at_comb answer None) None (queue_at s.replies 1)).items
      → length new_a ≤ queue_places → length new_b ≤ queue_places → length new_c ≤ queue_places → length new_d ≤ queue_places
      → All IsRequest new_a → All IsRequest new_b → All IsReply new_c → All IsReply new_d → IsModule (module_serving t s N)
  serving_fits answer new_a new_b new_c new_d answered ae be ce de la lb lc ld fa fb fc fd =
      let so : ServesThen new_a new_b new_c new_d = queues_then answer new_a new_b new_c new_d answered ae be ce de in
      record {
        requests = record { two = refl; first = queue_fits IsRequest (requests_after t s N LowNet) new_a so.0.0 la fa; second = queue_fits IsRequest (requests_after t s N CombNet) new_b so.0.1 lb fb };
        replies = record { two = refl; first = queue_fits IsReply (replies_after t s N LowNet) new_c so.1.0 lc fc; second = queue_fits IsReply (replies_after t s N CombNet) new_d so.1.1 ld fd };
      }

  pub module_told : (answer : Option Reply) (turn : Bool) (new_a new_b : List Request) (new_c new_d : List Reply) (small : ℕ)
      → answer ≡ answer_to s.words (served_on s N) → net_for turn ≡ turn_from s.turn N
      → new_a ≡ (queue_after at_low (message_at t.requests 0) None (queue_at s.requests 0)).items → new_b ≡ (queue_after at_comb (message_at t.requests 1) None (queue_at s.requests 1)).items
      → new_c ≡ (queue_after (mark_at t.replies_leave 0) (cond at_low answer None) None (queue_at s.replies 0)).items
      → new_d ≡ (queue_after (mark_at t.replies_leave 1) (cond at_comb answer None) None (queue_at s.replies 1)).items
      → small ≡ one_if turn + 2 * one_if (at_low || at_comb)
      → parts_words 1 new_a new_b new_c new_d [] small ≡ words_of (Module (module_serving t s N))
  module_told answer turn new_a new_b new_c new_d small answered turns ae be ce de se =
      parts_alike 1 new_a (requests_after t s N LowNet).items new_b (requests_after t s N CombNet).items new_c (replies_after t s N LowNet).items new_d (replies_after t s N CombNet).items small
      (net_number (turn_from s.turn N) + 2 * one_if (is_some N))
      (ae ∙ ap (λ x. (queue_after x (message_at t.requests 0) None (queue_at s.requests 0)).items) low_so)
      (be ∙ ap (λ x. (queue_after x (message_at t.requests 1) None (queue_at s.requests 1)).items) comb_so)
      (ce ∙ ap (λ o. (queue_after (mark_at t.replies_leave 0) o None (queue_at s.replies 0)).items) (on_net at_low LowNet low_so))
      (de ∙ ap (λ o. (queue_after (mark_at t.replies_leave 1) o None (queue_at s.replies 1)).items) (on_net at_comb CombNet comb_so))
      (se ∙ ap (λ i. i + 2 * one_if (at_low || at_comb)) (number_of_turn turn ∙ ap net_number turns)
      ∙ ap (λ x. net_number (turn_from s.turn N) + 2 * one_if x) (ap (λ x. x || at_comb) low_so ∙ ap (λ x. is_net LowNet N || x) comb_so ∙ one_served N))
    where
      on_net : (at : Bool) (net : Net) → at ≡ is_net net N → cond at answer None ≡ answer_if (is_net net N) (answer_to s.words (served_on s N))
      on_net at net e = if_answered at answer ∙ ap (λ x. answer_if x answer) e ∙ ap (answer_if (is_net net N)) answered

-- a module of a row, with the memory that is handed over
module _ (P : Project) (R : Arrays) (size : R.k ≡ P.k) (m : ℕ) (within : m < lines P.k) (memory : Option (List Stored)) (low comb next : ℕ) (serves : Serves P R low comb next)
    (t : ModuleTraffic) (handed : t ≡ module_traffic (moves P (states_of R)) P.k m) (L C : Network) (L_is : L ≡ R.low) (C_is : C ≡ R.comb) (last : ℕ) (last_is : last ≡ P.k)
    (at_low at_comb : Bool) (low_is : at_low ≡ has low m) (comb_is : at_comb ≡ has comb m)
    (low_waits comb_waits : List Request) (low_there : low_waits ≡ (queue_of L.requests (last + 1) m).items) (comb_there : comb_waits ≡ (queue_of C.requests (last + 1) m).items)
    (low_shows comb_shows : List Reply) (low_shown : low_shows ≡ (queue_of L.replies last m).items) (comb_shown : comb_shows ≡ (queue_of C.replies last m).items)
    (request : Option Request) (request_is : request ≡ cond at_low (slice_get low_waits 0) (cond at_comb (slice_get comb_waits 0) None)) where
  abbrev s : ModuleState
  s = module_given R m memory

  abbrev N : Option Net
  N = served_net s (depth_of P ModuleQueue)

  abbrev T : ModuleTraffic
  T = module_traffic (moves P (states_of R)) P.k m

  -- a memory isn't seen in what it serves, nor in its queues
  serves_same : (memory : Option (List Stored)) → served_net (module_of R m) (depth_of P ModuleQueue) ≡ served_net (module_given R m memory) (depth_of P ModuleQueue)
  serves_same None = refl
  serves_same (Some ws) = refl

  same_queues : (memory : Option (List Stored)) → ((module_of R m).requests ≡ (module_given R m memory).requests) × ((module_of R m).replies ≡ (module_given R m memory).replies) × ((module_of R m).turn ≡ (module_given R m memory).turn)
  same_queues None = (refl, refl, refl)
  same_queues (Some ws) = (refl, refl, refl)

  low_so : at_low ≡ is_net LowNet N
  low_so = low_is ∙ serves.low_so m within ∙ ap (is_net LowNet) (serves_same memory)

  comb_so : at_comb ≡ is_net CombNet N
  comb_so = comb_is ∙ serves.comb_so m within ∙ ap (is_net CombNet) (serves_same memory)

  level_is : last + 1 ≡ suc R.k
  level_is = omega (arith, last_is, size)

  low_queue : record { items = low_waits } ≡ queue_at s.requests 0
  low_queue =
      ap (λ xs. record { items = xs }) low_there ∙ ap (λ (n : Network). queue_of n.requests (last + 1) m) L_is ∙ ap (λ l. queue_of R.low.requests l m) level_is
      ∙ ap (λ qs. queue_at qs 0) (same_queues memory).0

  comb_queue : record { items = comb_waits } ≡ queue_at s.requests 1
  comb_queue =
      ap (λ xs. record { items = xs }) comb_there ∙ ap (λ (n : Network). queue_of n.requests (last + 1) m) C_is ∙ ap (λ l. queue_of R.comb.requests l m) level_is
      ∙ ap (λ qs. queue_at qs 1) (same_queues memory).0

  low_replies : record { items = low_shows } ≡ queue_at s.replies 0
  low_replies =
      ap (λ xs. record { items = xs }) low_shown ∙ ap (λ (n : Network). queue_of n.replies last m) L_is ∙ ap (λ l. queue_of R.low.replies l m) (last_is ∙ sym size)
      ∙ ap (λ qs. queue_at qs 0) (same_queues memory).1

  comb_replies : record { items = comb_shows } ≡ queue_at s.replies 1
  comb_replies =
      ap (λ xs. record { items = xs }) comb_shown ∙ ap (λ (n : Network). queue_of n.replies last m) C_is ∙ ap (λ l. queue_of R.comb.replies l m) (last_is ∙ sym size)
      ∙ ap (λ qs. queue_at qs 1) (same_queues memory).1

  it_serves : request ≡ served_on s N
  it_serves =
      request_is ∙ ap (λ (q : ArrayVec Request). cond at_low (head q) (cond at_comb (slice_get comb_waits 0) None)) low_queue
      ∙ ap (λ (q : ArrayVec Request). cond at_low (head (queue_at s.requests 0)) (cond at_comb (head q) None)) comb_queue
      ∙ served_so T s N at_low at_comb low_so comb_so

  part_is : words_of (Module (module_serving T s N)) ≡ words_of (part_given P R (ModuleAt m) memory)
  part_is = sym (ap (λ x. words_of (part_of P (moves P (states_of R)) (Some (ModuleAt m)) x)) (given_module R m memory))

  pub module_words : (answer low_answer comb_answer : Option Reply) (new_a new_b : List Request) (new_c new_d : List Reply) (small : ℕ)
      → answer ≡ answer_to s.words request → low_answer ≡ cond at_low answer None → comb_answer ≡ cond at_comb answer None
      → new_a ≡ (queue_after at_low (message_at t.requests 0) None (record { items = low_waits })).items → new_b ≡ (queue_after at_comb (message_at t.requests 1) None (record { items = comb_waits })).items
      → new_c ≡ (queue_after (mark_at t.replies_leave 0) low_answer None (record { items = low_shows })).items → new_d ≡ (queue_after (mark_at t.replies_leave 1) comb_answer None (record { items = comb_shows })).items
      → small ≡ one_if (has next m) + 2 * one_if (at_low || at_comb)
      → parts_words 1 new_a new_b new_c new_d [] small ≡ words_of (part_given P R (ModuleAt m) memory)
  module_words answer low_answer comb_answer new_a new_b new_c new_d small answered low_answered comb_answered ae be ce de se =
      module_told T s N at_low at_comb low_so comb_so answer (has next m) new_a new_b new_c new_d small
      (answered ∙ ap (answer_to s.words) it_serves)
      (serves.turn_so m within ∙ ap (λ n. turn_from (module_of R m).turn n) (serves_same memory) ∙ ap (λ n. turn_from n N) (same_queues memory).2)
      (ae ∙ ap (λ q. (queue_after at_low (message_at t.requests 0) None q).items) low_queue ∙ ap (λ t. (queue_after at_low (message_at t.requests 0) None (queue_at s.requests 0)).items) handed)
      (be ∙ ap (λ q. (queue_after at_comb (message_at t.requests 1) None q).items) comb_queue ∙ ap (λ t. (queue_after at_comb (message_at t.requests 1) None (queue_at s.requests 1)).items) handed)
      (ce ∙ ap (λ q. (queue_after (mark_at t.replies_leave 0) low_answer None q).items) low_replies ∙ ap (λ t. (queue_after (mark_at t.replies_leave 0) low_answer None (queue_at s.replies 0)).items) handed
      ∙ ap (λ o. (queue_after (mark_at T.replies_leave 0) o None (queue_at s.replies 0)).items) low_answered)
      (de ∙ ap (λ q. (queue_after (mark_at t.replies_leave 1) comb_answer None q).items) comb_replies ∙ ap (λ t. (queue_after (mark_at t.replies_leave 1) comb_answer None (queue_at s.replies 1)).items) handed
      ∙ ap (λ o. (queue_after (mark_at T.replies_leave 1) o None (queue_at s.replies 1)).items) comb_answered)
      se
      ∙ part_is

  pub module_fits : (answer low_answer comb_answer : Option Reply) (new_a new_b : List Request) (new_c new_d : List Reply)
      → answer ≡ answer_to s.words request → low_answer ≡ cond at_low answer None → comb_answer ≡ cond at_comb answer None
      → new_a ≡ (queue_after at_low (message_at t.requests 0) None (record { items = low_waits })).items → new_b ≡ (queue_after at_comb (message_at t.requests 1) None (record { items = comb_waits })).items
      → new_c ≡ (queue_after (mark_at t.replies_leave 0) low_answer None (record { items = low_shows })).items → new_d ≡ (queue_after (mark_at t.replies_leave 1) comb_answer None (record { items = comb_shows })).items
      → length new_a ≤ queue_places → length new_b ≤ queue_places → length new_c ≤ queue_places → length new_d ≤ queue_places
      → All IsRequest new_a → All IsRequest new_b → All IsReply new_c → All IsReply new_d → IsState (part_given P R (ModuleAt m) memory)
  module_fits answer low_answer comb_answer new_a new_b new_c new_d answered low_answered comb_answered ae be ce de la lb lc ld fa fb fc fd =
      subst IsState (sym (ap (λ x. part_of P (moves P (states_of R)) (Some (ModuleAt m)) x) (given_module R m memory)))
      (serving_fits T s N at_low at_comb low_so comb_so answer new_a new_b new_c new_d
      (answered ∙ ap (answer_to s.words) it_serves)
      (ae ∙ ap (λ q. (queue_after at_low (message_at t.requests 0) None q).items) low_queue ∙ ap (λ t. (queue_after at_low (message_at t.requests 0) None (queue_at s.requests 0)).items) handed)
      (be ∙ ap (λ q. (queue_after at_comb (message_at t.requests 1) None q).items) comb_queue ∙ ap (λ t. (queue_after at_comb (message_at t.requests 1) None (queue_at s.requests 1)).items) handed)
      (ce ∙ ap (λ q. (queue_after (mark_at t.replies_leave 0) low_answer None q).items) low_replies ∙ ap (λ t. (queue_after (mark_at t.replies_leave 0) low_answer None (queue_at s.replies 0)).items) handed
      ∙ ap (λ o. (queue_after (mark_at T.replies_leave 0) o None (queue_at s.replies 0)).items) low_answered)
      (de ∙ ap (λ q. (queue_after (mark_at t.replies_leave 1) comb_answer None q).items) comb_replies ∙ ap (λ t. (queue_after (mark_at t.replies_leave 1) comb_answer None (queue_at s.replies 1)).items) handed
      ∙ ap (λ o. (queue_after (mark_at T.replies_leave 1) o None (queue_at s.replies 1)).items) comb_answered)
      la lb lc ld fa fb fc fd)

  pub module_left : (left : Option Stored) → words_after s.words request ≡ memory_left s.words left → memory_of (part_given P R (ModuleAt m) memory) ≡ memory_left s.words left
  module_left left so =
      ap (λ x. memory_of (part_of P (moves P (states_of R)) (Some (ModuleAt m)) x)) (given_module R m memory)
      ∙ ap (words_after s.words) (sym it_serves) ∙ so
