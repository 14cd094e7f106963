-- A combining switch one cycle later, by what its levels and its wait buffer hold.
use Rattle.std.proofs.Common.{◌≡◌, ℕ, zero, suc, ◌+◌, ◌-◌, ◌*◌, ◌^◌, ◌<◌, ◌≤◌, Bool, true, false, cond, List, [], ◌∷◌, get_or, refl, ap, sym, ◌∙◌, subst, Option, None, Some, arith}
use Rattle.std.specs.Prelude.{is_some, slice_index_or, position}
use Rattle.std.proofs.lemmas.Nat.Bits.{bit_at-zero}
use Rattle.arrayvec.specs.ArrayVec.{ArrayVec}
use Rattle.omega_net.specs.declared.component.Net.TheVariants.{Comb as CombNet}
use Rattle.omega_net.specs.declared.message.Request.{Request}
use Rattle.omega_net.specs.declared.message.Reply.{Reply}
use Rattle.omega_net.specs.Numbers.{half}
use Rattle.omega_net.specs.Wires.{bit, wire_into, wire_out}
use Rattle.omega_net.specs.Queues.{without_head, turn_after}
use Rattle.omega_net.specs.Ports.{queue_at, empty, request_to, same_tag}
use Rattle.comb_switch.specs.declared.waiting.Waiting.{Waiting}
use Rattle.comb_switch.specs.declared.state.CombState.{CombState}
use Rattle.comb_switch.specs.declared.settings.CombSettings.{CombSettings}
use Rattle.comb_switch.specs.CombSwitch.{youngest_for, combines, last_in, combined_in, meets, arrives, splits, returns_to, comb_after}
use Rattle.project_book.specs.Project.{Project}
use Rattle.machine_cells.specs.Moves.{Move, moves, moved_request, moved_reply}
use Rattle.machine_cells.specs.Cycle.{switch_traffic, comb_settings}
use Rattle.flat_row.specs.Labels.{port, switch_label}
use Rattle.flat_row.specs.Masks.{has}
use Rattle.flat_row.specs.Queues.{Queues}
use Rattle.flat_row.specs.Row.{Network, Buffers, Arrays, queue_of, port_label, turn_of, states_of, wait_of, combined_of, comb_of}
use Rattle.flat_row.specs.Rows.{if_leaves}
use Rattle.flat_row.specs.Moving.{leaves_forth, left_back, leaves_back}
use Rattle.flat_row.specs.Combining.{core, at_ports, meeting, splitting, cleared}
use Rattle.flat_row.specs.Stages.{buffers_in, met_at, returned_at}
use Rattle.flat_row.specs.Leaving.{AllForth, AllBack, Enters, Receives}
use Rattle.flat_row.proofs.Turning.{stands}
use Rattle.flat_row.proofs.Stepping.{leaves_same, comes_in, goes_out, comes_back, goes_back}

abbrev two_empty : List (ArrayVec Reply)
two_empty = empty ∷ empty ∷ []

-- a switch with other replies and turns, and with other requests and turns
abbrev with_back : CombState → List (ArrayVec Reply) → List ℕ → ℕ → CombState
with_back a rev turn rturn = record { fwd = a.fwd; rev = rev; wait = a.wait; turn = turn; rturn = rturn; combined = a.combined }

abbrev with_forth : CombState → List (ArrayVec Request) → List ℕ → ℕ → CombState
with_forth a fwd turn rturn = record { fwd = fwd; rev = a.rev; wait = a.wait; turn = turn; rturn = rturn; combined = a.combined }

-- a request is met by the queues of requests and the wait buffer alone
meets_back : (settings : CombSettings) (r : Request) (o : ℕ) (f : Option ℕ) (a : CombState) (rev : List (ArrayVec Reply)) (turn : List ℕ) (rturn : ℕ)
    → meets settings r o f (with_back a rev turn rturn) ≡ with_back (meets settings r o f a) rev turn rturn
meets_back settings r o None a rev turn rturn = refl
meets_back settings r o (Some i) a rev turn rturn = by_test (combines settings a.wait (get_or (queue_at a.fwd o).items i r) r)
  where
    by_test : (t : Bool)
        → cond t (combined_in r o i (get_or (queue_at a.fwd o).items i r) (with_back a rev turn rturn)) (last_in r o (with_back a rev turn rturn))
        ≡ with_back (cond t (combined_in r o i (get_or (queue_at a.fwd o).items i r) a) (last_in r o a)) rev turn rturn
    by_test true = refl
    by_test false = refl

pub arrives_back : (settings : CombSettings) (m : Option Request) (a : CombState) (rev : List (ArrayVec Reply)) (turn : List ℕ) (rturn : ℕ)
    → arrives settings m (with_back a rev turn rturn) ≡ with_back (arrives settings m a) rev turn rturn
arrives_back settings None a rev turn rturn = refl
arrives_back settings (Some r) a rev turn rturn =
    meets_back settings r (bit settings.bit r.place.«module») (youngest_for r.place (queue_at a.fwd (bit settings.bit r.place.«module»)).items) a rev turn rturn

-- and a reply by those of replies
splits_forth : (settings : CombSettings) (y : Reply) (f : Option ℕ) (a : CombState) (fwd : List (ArrayVec Request)) (turn : List ℕ) (rturn : ℕ)
    → splits settings y f (with_forth a fwd turn rturn) ≡ with_forth (splits settings y f a) fwd turn rturn
splits_forth settings y None a fwd turn rturn = refl
splits_forth settings y (Some i) a fwd turn rturn = refl

pub returns_forth : (settings : CombSettings) (m : Option Reply) (a : CombState) (fwd : List (ArrayVec Request)) (turn : List ℕ) (rturn : ℕ)
    → returns_to settings m (with_forth a fwd turn rturn) ≡ with_forth (returns_to settings m a) fwd turn rturn
returns_forth settings None a fwd turn rturn = refl
returns_forth settings (Some y) a fwd turn rturn = splits_forth settings y (position (λ w. same_tag w.first y.tag) a.wait.items) a fwd turn rturn

-- a combining switch of these parts
abbrev made_of : List (ArrayVec Request) → List (ArrayVec Reply) → ArrayVec Waiting → List ℕ → ℕ → ℕ → CombState
made_of fwd rev wait turn rturn combined = record { fwd = fwd; rev = rev; wait = wait; turn = turn; rturn = rturn; combined = combined }

-- a combining switch
module _ (P : Project) (few : P.k ≤ 6) (R : Arrays) (n : Network) (forth turns back back_turns : List ℕ) (enter received : ℕ)
    (all : AllForth P R CombNet P.k forth turns) (ends : Enters P R CombNet enter) (all_back : AllBack P R CombNet P.k back back_turns) (receives : Receives P R CombNet received)
    (before : List (Queues Request)) (kept : (l z : ℕ) → l ≤ P.k → z < 64 → queue_of before l z ≡ queue_of R.comb.requests l z)
    (behind : List (Queues Reply)) (took : (z : ℕ) → z < 64 → queue_of behind 0 z ≡ without_head (has received z) (queue_of R.comb.replies 0 z))
    (rest : (l z : ℕ) → 0 < l → z < 64 → queue_of behind l z ≡ queue_of R.comb.replies l z)
    (waits among next : List Buffers) (moved : List (Queues Request))
    (forth_so : (s x : ℕ) → s < P.k → x < 64 → bit (P.k - 1 - s) x ≡ 0 → meeting (P.k - 1 - s) (queue_of moved (suc s)) (buffers_in among s) x ≡ met_at P forth enter before waits s x)
    (back_so : (s x : ℕ) → s < P.k → x < 64 → bit (P.k - 1 - s) x ≡ 0 → splitting (P.k - 1 - s) (queue_of n.replies s) (buffers_in next s) x ≡ returned_at P back behind among s x)
    (requests_kept : (l z : ℕ) → 0 < l → z < 64 → queue_of n.requests l z ≡ queue_of moved l z)
    (turns_so : n.turns ≡ turns) (back_turns_so : n.back_turns ≡ back_turns)
    (s j : ℕ) (lt : s < P.k) (small : j < half P.k) where
  abbrev b : ℕ
  b = P.k - 1 - s

  abbrev x : ℕ → ℕ
  x o = port_label P.k s j o

  abbrev own : ℕ
  own = switch_label P.k s j

  abbrev M : List Move
  M = moves P (states_of R)

  abbrev settings : CombSettings
  settings = comb_settings P s

  first_is : x 0 ≡ own
  first_is = none (switch_label P.k s j) (2 ^ (P.k - 1 - s))
    where
      none : (a d : ℕ) → a + 0 * d ≡ a
      none a d = omega arith

  own_small : own < 64
  own_small = subst (λ y. y < 64) first_is (stands P few s j lt small 0 (omega arith)).small

  own_first : bit b own ≡ 0
  own_first = subst (λ y. bit b y ≡ 0) first_is (stands P few s j lt small 0 (omega arith)).own

  at_port : (o : ℕ) → port b o own ≡ x o
  at_port o = ap (port b o) (sym first_is) ∙ (stands P few s j lt small 0 (omega arith)).ports o

  at_small : (o : ℕ) → o < 2 → x o < 64
  at_small o h = (stands P few s j lt small o h).small

  abbrev request_in : ℕ → Option Request
  request_in i = moved_request M (wire_into P.k CombNet s j i)

  abbrev reply_in : ℕ → Option Reply
  reply_in o = moved_reply M (wire_out CombNet s j o)

  -- the heads have left
  abbrev fwd_left : ℕ → ArrayVec Request
  fwd_left o = without_head (is_some (moved_request M (wire_out CombNet s j o))) (queue_of R.comb.requests (suc s) (x o))

  abbrev rev_left : ℕ → ArrayVec Reply
  rev_left i = without_head (is_some (moved_reply M (wire_into P.k CombNet s j i))) (queue_of R.comb.replies s (x i))

  fwd_is : (o : ℕ) → o < 2 → without_head (leaves_forth P.k forth enter (suc s) (port b o own)) (queue_of before (suc s) (port b o own)) ≡ fwd_left o
  fwd_is o h =
      ap (λ y. without_head (leaves_forth P.k forth enter (suc s) y) (queue_of before (suc s) y)) (at_port o)
      ∙ ap (without_head (leaves_forth P.k forth enter (suc s) (x o))) (kept (suc s) (x o) (omega (arith, lt)) (at_small o h))
      ∙ leaves_same (leaves_forth P.k forth enter (suc s) (x o)) (queue_of R.comb.requests (suc s) (x o))
      ∙ ap (λ m. without_head (is_some m) (queue_of R.comb.requests (suc s) (x o))) (sym (goes_out P R CombNet forth turns enter all ends few s j lt small o h))

  left_is : (t z : ℕ) → z < 64 → left_back back behind t z ≡ without_head (leaves_back received back t z) (queue_of R.comb.replies t z)
  left_is zero z zs = took z zs
  left_is (suc t) z zs = ap (without_head (has (slice_index_or back t 0) z)) (rest (suc t) z (omega arith) zs)

  rev_is : (i : ℕ) → i < 2 → left_back back behind s (port b i own) ≡ rev_left i
  rev_is i h =
      ap (left_back back behind s) (at_port i) ∙ left_is s (x i) (at_small i h)
      ∙ leaves_same (leaves_back received back s (x i)) (queue_of R.comb.replies s (x i))
      ∙ ap (λ m. without_head (is_some m) (queue_of R.comb.replies s (x i))) (sym (goes_back P R CombNet back back_turns received all_back receives few s j lt small i h))

  -- what comes
  request_is : (i : ℕ) → i < 2 → if_leaves (has (slice_index_or forth s 0) (port b i own)) (queue_of before s (port b i own)) ≡ request_in i
  request_is i h =
      ap (λ y. if_leaves (has (slice_index_or forth s 0) y) (queue_of before s y)) (at_port i)
      ∙ ap (if_leaves (has (slice_index_or forth s 0) (x i))) (kept s (x i) (omega (arith, lt)) (at_small i h))
      ∙ sym (comes_in P R CombNet forth turns enter all ends few s j lt small i h)

  reply_is : (o : ℕ) → o < 2 → if_leaves (has (slice_index_or back s 0) (port b o own)) (queue_of behind (suc s) (port b o own)) ≡ reply_in o
  reply_is o h =
      ap (λ y. if_leaves (has (slice_index_or back s 0) y) (queue_of behind (suc s) y)) (at_port o)
      ∙ ap (if_leaves (has (slice_index_or back s 0) (x o))) (rest (suc s) (x o) (omega arith) (at_small o h))
      ∙ sym (comes_back P R CombNet back back_turns received all_back receives few s j lt small o h)

  -- requests have arrived
  abbrev started : CombState
  started = core (fwd_left 0 ∷ fwd_left 1 ∷ []) two_empty (wait_of (buffers_in waits s) own) 0

  abbrev met : CombState
  met = arrives settings (request_in 1) (arrives settings (request_in 0) started)

  none_yet : combined_of (cleared (buffers_in waits s)) own ≡ 0
  none_yet = ap (λ k. k + k) (none own)
    where
      none : (y : ℕ) → bit y 0 ≡ 0
      none y = bit_at-zero y

  met_is : meeting b (queue_of moved (suc s)) (buffers_in among s) own ≡ met
  met_is =
      forth_so s own lt own_small own_first
      ∙ ap (λ m. arrives settings m (arrives settings (if_leaves (has (slice_index_or forth s 0) (port b 0 own)) (queue_of before s (port b 0 own))) (meeting b (λ z. without_head (leaves_forth P.k forth enter (suc s) z) (queue_of before (suc s) z)) (cleared (buffers_in waits s)) own))) (request_is 1 (omega arith))
      ∙ ap (λ m. arrives settings (request_in 1) (arrives settings m (meeting b (λ z. without_head (leaves_forth P.k forth enter (suc s) z) (queue_of before (suc s) z)) (cleared (buffers_in waits s)) own))) (request_is 0 (omega arith))
      ∙ ap (λ q. arrives settings (request_in 1) (arrives settings (request_in 0) (core (q ∷ without_head (leaves_forth P.k forth enter (suc s) (port b 1 own)) (queue_of before (suc s) (port b 1 own)) ∷ []) two_empty (wait_of (buffers_in waits s) own) (combined_of (cleared (buffers_in waits s)) own)))) (fwd_is 0 (omega arith))
      ∙ ap (λ q. arrives settings (request_in 1) (arrives settings (request_in 0) (core (fwd_left 0 ∷ q ∷ []) two_empty (wait_of (buffers_in waits s) own) (combined_of (cleared (buffers_in waits s)) own)))) (fwd_is 1 (omega arith))
      ∙ ap (λ c. arrives settings (request_in 1) (arrives settings (request_in 0) (core (fwd_left 0 ∷ fwd_left 1 ∷ []) two_empty (wait_of (buffers_in waits s) own) c))) none_yet

  -- replies have returned
  abbrev returning : CombState
  returning = core (empty ∷ empty ∷ []) (rev_left 0 ∷ rev_left 1 ∷ []) (wait_of (buffers_in among s) own) (combined_of (buffers_in among s) own)

  abbrev returned : CombState
  returned = returns_to settings (reply_in 1) (returns_to settings (reply_in 0) returning)

  returned_is : splitting b (queue_of n.replies s) (buffers_in next s) own ≡ returned
  returned_is =
      back_so s own lt own_small own_first
      ∙ ap (λ m. returns_to settings m (returns_to settings (if_leaves (has (slice_index_or back s 0) (port b 0 own)) (queue_of behind (suc s) (port b 0 own))) (splitting b (left_back back behind s) (buffers_in among s) own))) (reply_is 1 (omega arith))
      ∙ ap (λ m. returns_to settings (reply_in 1) (returns_to settings m (splitting b (left_back back behind s) (buffers_in among s) own))) (reply_is 0 (omega arith))
      ∙ ap (λ q. returns_to settings (reply_in 1) (returns_to settings (reply_in 0) (core (empty ∷ empty ∷ []) (q ∷ left_back back behind s (port b 1 own) ∷ []) (wait_of (buffers_in among s) own) (combined_of (buffers_in among s) own)))) (rev_is 0 (omega arith))
      ∙ ap (λ q. returns_to settings (reply_in 1) (returns_to settings (reply_in 0) (core (empty ∷ empty ∷ []) (rev_left 0 ∷ q ∷ []) (wait_of (buffers_in among s) own) (combined_of (buffers_in among s) own)))) (rev_is 1 (omega arith))

  -- the turns
  abbrev turn_then : ℕ → ℕ
  turn_then o = turn_after (turn_of R.comb.turns s (x o)) (is_some (request_to b o (request_in 0))) (is_some (request_to b o (request_in 1)))

  abbrev back_turn_then : ℕ
  back_turn_then = turn_after (turn_of R.comb.back_turns s (x 0)) (is_some (reply_in 0)) (is_some (reply_in 1))

  comb_turn : (o : ℕ) → o < 2 → turn_of n.turns s (x o) ≡ turn_then o
  comb_turn o h = ap (λ ts. turn_of ts s (x o)) turns_so ∙ (all s lt).turns j o small h

  comb_back_turn : turn_of n.back_turns s (x 0) ≡ back_turn_then
  comb_back_turn =
      ap (λ ts. turn_of ts s (x 0)) back_turns_so ∙ ap (λ y. bit y (slice_index_or back_turns s 0)) first_is ∙ (all_back s lt).turns j small
      ∙ ap (λ y. turn_after (turn_of R.comb.back_turns s y) (is_some (reply_in 0)) (is_some (reply_in 1))) (sym first_is)

  pub comb_steps : comb_of P.k n s j (wait_of (buffers_in next s) own) (combined_of (buffers_in next s) own)
      ≡ comb_after settings (switch_traffic M P.k CombNet s j) (comb_of P.k R.comb s j (wait_of (buffers_in waits s) own) (combined_of (buffers_in waits s) own))
  comb_steps =
      ap (λ q. made_of (q ∷ queue_of n.requests (suc s) (x 1) ∷ []) (queue_of n.replies s (x 0) ∷ queue_of n.replies s (x 1) ∷ []) (wait_of (buffers_in next s) own) (turn_of n.turns s (x 0) ∷ turn_of n.turns s (x 1) ∷ []) (turn_of n.back_turns s (x 0)) (combined_of (buffers_in next s) own)) (fwd_new 0 (omega arith))
      ∙ ap (λ q. made_of (queue_of moved (suc s) (port b 0 own) ∷ q ∷ []) (queue_of n.replies s (x 0) ∷ queue_of n.replies s (x 1) ∷ []) (wait_of (buffers_in next s) own) (turn_of n.turns s (x 0) ∷ turn_of n.turns s (x 1) ∷ []) (turn_of n.back_turns s (x 0)) (combined_of (buffers_in next s) own)) (fwd_new 1 (omega arith))
      ∙ ap (λ q. made_of (at_ports b (queue_of moved (suc s)) own) (q ∷ queue_of n.replies s (x 1) ∷ []) (wait_of (buffers_in next s) own) (turn_of n.turns s (x 0) ∷ turn_of n.turns s (x 1) ∷ []) (turn_of n.back_turns s (x 0)) (combined_of (buffers_in next s) own)) (ap (queue_of n.replies s) (sym (at_port 0)))
      ∙ ap (λ q. made_of (at_ports b (queue_of moved (suc s)) own) (queue_of n.replies s (port b 0 own) ∷ q ∷ []) (wait_of (buffers_in next s) own) (turn_of n.turns s (x 0) ∷ turn_of n.turns s (x 1) ∷ []) (turn_of n.back_turns s (x 0)) (combined_of (buffers_in next s) own)) (ap (queue_of n.replies s) (sym (at_port 1)))
      ∙ ap (λ t. with_forth (splitting b (queue_of n.replies s) (buffers_in next s) own) (at_ports b (queue_of moved (suc s)) own) (t ∷ turn_of n.turns s (x 1) ∷ []) (turn_of n.back_turns s (x 0))) (comb_turn 0 (omega arith))
      ∙ ap (λ t. with_forth (splitting b (queue_of n.replies s) (buffers_in next s) own) (at_ports b (queue_of moved (suc s)) own) (turn_then 0 ∷ t ∷ []) (turn_of n.back_turns s (x 0))) (comb_turn 1 (omega arith))
      ∙ ap (λ t. with_forth (splitting b (queue_of n.replies s) (buffers_in next s) own) (at_ports b (queue_of moved (suc s)) own) (turn_then 0 ∷ turn_then 1 ∷ []) t) comb_back_turn
      ∙ ap (λ a. with_forth a (at_ports b (queue_of moved (suc s)) own) (turn_then 0 ∷ turn_then 1 ∷ []) back_turn_then) returned_is
      ∙ sym (
      ap (returns_to settings (reply_in 1)) (returns_forth settings (reply_in 0) returning (at_ports b (queue_of moved (suc s)) own) (turn_then 0 ∷ turn_then 1 ∷ []) back_turn_then)
      ∙ returns_forth settings (reply_in 1) (returns_to settings (reply_in 0) returning) (at_ports b (queue_of moved (suc s)) own) (turn_then 0 ∷ turn_then 1 ∷ []) back_turn_then
      )
      ∙ ap (λ a. returns_to settings (reply_in 1) (returns_to settings (reply_in 0) (with_back a (rev_left 0 ∷ rev_left 1 ∷ []) (turn_then 0 ∷ turn_then 1 ∷ []) back_turn_then))) met_is
      ∙ sym (ap (λ a. returns_to settings (reply_in 1) (returns_to settings (reply_in 0) a)) (
      ap (arrives settings (request_in 1)) (arrives_back settings (request_in 0) started (rev_left 0 ∷ rev_left 1 ∷ []) (turn_then 0 ∷ turn_then 1 ∷ []) back_turn_then)
      ∙ arrives_back settings (request_in 1) (arrives settings (request_in 0) started) (rev_left 0 ∷ rev_left 1 ∷ []) (turn_then 0 ∷ turn_then 1 ∷ []) back_turn_then
      ))
    where
      fwd_new : (o : ℕ) → o < 2 → queue_of n.requests (suc s) (x o) ≡ queue_of moved (suc s) (port b o own)
      fwd_new o h = requests_kept (suc s) (x o) (omega arith) (at_small o h) ∙ ap (queue_of moved (suc s)) (sym (at_port o))
