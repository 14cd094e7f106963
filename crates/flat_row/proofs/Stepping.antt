-- The whole state of a row one cycle later is the cycle of its whole state, component by component.
use Rattle.std.proofs.Common.{◌≡◌, ℕ, zero, suc, ◌+◌, ◌-◌, ◌*◌, ◌<◌, ◌≤◌, Bool, true, false, cond, List, [], ◌∷◌, refl, ap, sym, ◌∙◌, ◌⊎◌, inl, inr, arith}
use Rattle.std.specs.Prelude.{◌==◌, is_some, slice_get, slice_index_or}
use Rattle.std.proofs.lemmas.Bool.{cases_lt, eqb-true, eq-eqb, ne_eqb, lt-ltb}
use Rattle.arrayvec.specs.ArrayVec.{ArrayVec}
use Rattle.omega_net.specs.declared.component.Net.{Net}
use Rattle.omega_net.specs.declared.component.Net.TheVariants.{Low as LowNet}
use Rattle.omega_net.specs.declared.message.Request.{Request}
use Rattle.omega_net.specs.declared.message.Reply.{Reply}
use Rattle.omega_net.specs.Numbers.{lines, half}
use Rattle.omega_net.specs.Wires.{bit, wire_into, wire_out}
use Rattle.omega_net.specs.Queues.{without_head, joined, queue_after, turn_after}
use Rattle.omega_net.specs.Ports.{request_to, reply_to}
use Rattle.low_switch.specs.declared.state.LowState.{LowState}
use Rattle.low_switch.specs.LowSwitch.{low_after}
use Rattle.project_book.specs.Project.{Project}
use Rattle.machine_cells.specs.Moves.{Move, moves, moved_request, moved_reply}
use Rattle.machine_cells.specs.Cycle.{switch_traffic}
use Rattle.flat_row.specs.Labels.{label, port}
use Rattle.flat_row.specs.Masks.{has}
use Rattle.flat_row.specs.Queues.{Queues}
use Rattle.flat_row.specs.Shows.{on_line}
use Rattle.flat_row.specs.Row.{Network, Arrays, queue_of, port_label, turn_of, states_of, low_of}
use Rattle.flat_row.specs.Rows.{if_leaves, network}
use Rattle.flat_row.specs.Moving.{sent_to, arrival, leaves_forth, forth_after, left_back, leaves_back, back_after}
use Rattle.flat_row.specs.Leaving.{AllForth, AllBack, Enters, Receives}
use Rattle.flat_row.proofs.Turning.{request_sent, reply_sent, stands, line_in, line_out, into, out}

-- a head leaves where a message moves
pub leaves_same : {T : Type 0} (l : Bool) (q : ArrayVec T) → without_head l q ≡ without_head (is_some (if_leaves l q)) q
leaves_same false q = refl
leaves_same {T} true q = by_items q.items
  where
    by_items : (xs : List T) → without_head true (record { items = xs }) ≡ without_head (is_some (slice_get xs 0)) (record { items = xs })
    by_items [] = refl
    by_items (x ∷ xs) = refl

-- what has left a level of replies when all have
abbrev pub gone_back : {T : Type 0} → ℕ → List ℕ → List (Queues T) → ℕ → ℕ → ArrayVec T
gone_back received back levels l z = without_head (leaves_back received back l z) (queue_of levels l z)

module _ (P : Project) (R : Arrays) (net : Net) (forth turns : List ℕ) (enter : ℕ) (all : AllForth P R net P.k forth turns) (ends : Enters P R net enter) where
  -- what moves over the wires of a level
  pub level_moved : (l x : ℕ) → l ≤ P.k → x < lines P.k → moved_request (moves P (states_of R)) (on_line net l x)
      ≡ if_leaves (leaves_forth P.k forth enter l (label P.k (on_line net l x))) (queue_of (network R net).requests l (label P.k (on_line net l x)))
  level_moved l x le within = by_test (l == P.k) refl
    where
      not_both : false ≡ true → ⊥
      not_both e = cc

      by_test : (t : Bool) → (l == P.k) ≡ t → moved_request (moves P (states_of R)) (on_line net l x)
          ≡ if_leaves (leaves_forth P.k forth enter l (label P.k (on_line net l x))) (queue_of (network R net).requests l (label P.k (on_line net l x)))
      by_test true e =
          let same : l ≡ P.k = eqb-true l P.k e in
          ap (λ n. moved_request (moves P (states_of R)) (on_line net n x)) same ∙ ends.moved x within
          ∙ ap (λ n. if_leaves (has enter (label P.k (on_line net n x))) (queue_of (network R net).requests n (label P.k (on_line net n x)))) (sym same)
          ∙ sym (ap (λ t. if_leaves (cond t (has enter (label P.k (on_line net l x))) (has (slice_index_or forth l 0) (label P.k (on_line net l x)))) (queue_of (network R net).requests l (label P.k (on_line net l x)))) e)
      by_test false e =
          let lt : l < P.k = below (cases_lt l P.k) in
          (all l lt).moved x within
          ∙ sym (ap (λ t. if_leaves (cond t (has enter (label P.k (on_line net l x))) (has (slice_index_or forth l 0) (label P.k (on_line net l x)))) (queue_of (network R net).requests l (label P.k (on_line net l x)))) e)
        where
          below : (l < P.k) ⊎ (P.k ≤ l) → l < P.k
          below (inl h) = h
          below (inr h) = absurd (not_both (sym e ∙ eq-eqb l P.k (omega (arith, le, h))))

  module _ (few : P.k ≤ 6) (s j : ℕ) (lt : s < P.k) (small : j < half P.k) where
    abbrev at : ℕ → ℕ
    at o = port_label P.k s j o

    -- what comes to a switch, and what leaves it
    pub comes_in : (i : ℕ) → i < 2 → moved_request (moves P (states_of R)) (wire_into P.k net s j i) ≡ if_leaves (has (slice_index_or forth s 0) (at i)) (queue_of (network R net).requests s (at i))
    comes_in i h =
        (all s lt).moved (i * half P.k + j) (line_in P few s j lt small i h)
        ∙ ap (λ x. if_leaves (has (slice_index_or forth s 0) x) (queue_of (network R net).requests s x)) (into P few s j lt small net i h)

    pub goes_out : (o : ℕ) → o < 2 → moved_request (moves P (states_of R)) (wire_out net s j o) ≡ if_leaves (leaves_forth P.k forth enter (suc s) (at o)) (queue_of (network R net).requests (suc s) (at o))
    goes_out o h =
        level_moved (suc s) (2 * j + o) (omega (arith, lt)) (line_out P few s j lt small o h)
        ∙ ap (λ x. if_leaves (leaves_forth P.k forth enter (suc s) x) (queue_of (network R net).requests (suc s) x)) (out P few s j lt small net o h)

module _ (P : Project) (R : Arrays) (net : Net) (back turns : List ℕ) (received : ℕ) (all : AllBack P R net P.k back turns) (ends : Receives P R net received) where
  pub back_moved : (l x : ℕ) → l ≤ P.k → x < lines P.k → moved_reply (moves P (states_of R)) (on_line net l x)
      ≡ if_leaves (leaves_back received back l (label P.k (on_line net l x))) (queue_of (network R net).replies l (label P.k (on_line net l x)))
  back_moved zero x le within = ends.moved x within
  back_moved (suc s) x le within = (all s (omega (arith, le))).moved x within

  module _ (few : P.k ≤ 6) (s j : ℕ) (lt : s < P.k) (small : j < half P.k) where
    abbrev place : ℕ → ℕ
    place i = port_label P.k s j i

    pub comes_back : (o : ℕ) → o < 2 → moved_reply (moves P (states_of R)) (wire_out net s j o) ≡ if_leaves (has (slice_index_or back s 0) (place o)) (queue_of (network R net).replies (suc s) (place o))
    comes_back o h =
        (all s lt).moved (2 * j + o) (line_out P few s j lt small o h)
        ∙ ap (λ x. if_leaves (has (slice_index_or back s 0) x) (queue_of (network R net).replies (suc s) x)) (out P few s j lt small net o h)

    pub goes_back : (i : ℕ) → i < 2 → moved_reply (moves P (states_of R)) (wire_into P.k net s j i) ≡ if_leaves (leaves_back received back s (place i)) (queue_of (network R net).replies s (place i))
    goes_back i h =
        back_moved s (i * half P.k + j) (omega (arith, lt)) (line_in P few s j lt small i h)
        ∙ ap (λ x. if_leaves (leaves_back received back s x) (queue_of (network R net).replies s x)) (into P few s j lt small net i h)

-- a low switch
module _ (P : Project) (few : P.k ≤ 6) (R : Arrays) (n : Network) (forth turns back back_turns : List ℕ) (enter received : ℕ)
    (all : AllForth P R LowNet P.k forth turns) (ends : Enters P R LowNet enter) (all_back : AllBack P R LowNet P.k back back_turns) (receives : Receives P R LowNet received)
    (before : List (Queues Request)) (kept : (l z : ℕ) → l ≤ P.k → z < 64 → queue_of before l z ≡ queue_of R.low.requests l z)
    (behind : List (Queues Reply)) (took : (z : ℕ) → z < 64 → queue_of behind 0 z ≡ without_head (has received z) (queue_of R.low.replies 0 z))
    (rest : (l z : ℕ) → 0 < l → z < 64 → queue_of behind l z ≡ queue_of R.low.replies l z)
    (requests : (l z : ℕ) → 0 < l → l ≤ P.k → z < 64 → queue_of n.requests l z ≡ forth_after (λ (r : Request). r.place.«module») P.k forth enter before l z)
    (replies : (l z : ℕ) → l < P.k → z < 64 → queue_of n.replies l z ≡ back_after (λ (y : Reply). y.tag.proc) P.k back behind l z)
    (turns_so : n.turns ≡ turns) (back_turns_so : n.back_turns ≡ back_turns)
    (s j : ℕ) (lt : s < P.k) (small : j < half P.k) where
  abbrev b : ℕ
  b = P.k - 1 - s

  abbrev x : ℕ → ℕ
  x o = port_label P.k s j o

  abbrev M : List Move
  M = moves P (states_of R)

  at_small : (o : ℕ) → o < 2 → x o < 64
  at_small o h = (stands P few s j lt small o h).small

  ports_at : (i o : ℕ) → i < 2 → o < 2 → port b i (x o) ≡ x i
  ports_at i o h g = (stands P few s j lt small o g).ports i

  own_at : (o : ℕ) → o < 2 → bit b (x o) ≡ o
  own_at o h = (stands P few s j lt small o h).own

  -- what comes to a queue of requests from a port
  arrives_at : (i o : ℕ) → i < 2 → o < 2 → arrival (λ (r : Request). r.place.«module») b (has (slice_index_or forth s 0)) before s i (x o) ≡ request_to b o (moved_request M (wire_into P.k LowNet s j i))
  arrives_at i o h g =
      ap (λ y. sent_to (λ (r : Request). r.place.«module») b (bit b (x o)) (if_leaves (has (slice_index_or forth s 0) y) (queue_of before s y))) (ports_at i o h g)
      ∙ ap (λ t. sent_to (λ (r : Request). r.place.«module») b t (if_leaves (has (slice_index_or forth s 0) (x i)) (queue_of before s (x i)))) (own_at o g)
      ∙ ap (λ q. sent_to (λ (r : Request). r.place.«module») b o (if_leaves (has (slice_index_or forth s 0) (x i)) q)) (kept s (x i) (omega (arith, lt)) (at_small i h))
      ∙ request_sent b o (if_leaves (has (slice_index_or forth s 0) (x i)) (queue_of R.low.requests s (x i)))
      ∙ ap (request_to b o) (sym (comes_in P R LowNet forth turns enter all ends few s j lt small i h))

  pub low_forward : (o : ℕ) → o < 2 → queue_of n.requests (suc s) (x o)
      ≡ queue_after (is_some (moved_request M (wire_out LowNet s j o))) (request_to b o (moved_request M (wire_into P.k LowNet s j 0))) (request_to b o (moved_request M (wire_into P.k LowNet s j 1))) (queue_of R.low.requests (suc s) (x o))
  low_forward o h =
      requests (suc s) (x o) (omega arith) (omega (arith, lt)) (at_small o h)
      ∙ ap (λ t. cond t (joined (queue_of before (suc P.k) (x o)) (if_leaves (has enter (x o)) (queue_of before P.k (x o))))
      (joined (joined (without_head (leaves_forth P.k forth enter (suc s) (x o)) (queue_of before (suc s) (x o))) (arrival (λ (r : Request). r.place.«module») b (has (slice_index_or forth s 0)) before s 0 (x o)))
      (arrival (λ (r : Request). r.place.«module») b (has (slice_index_or forth s 0)) before s 1 (x o)))) (ne_eqb s P.k (λ e. omega (arith, e, lt)))
      ∙ ap (λ m. joined (joined (without_head (leaves_forth P.k forth enter (suc s) (x o)) (queue_of before (suc s) (x o))) m) (arrival (λ (r : Request). r.place.«module») b (has (slice_index_or forth s 0)) before s 1 (x o))) (arrives_at 0 o (omega arith) h)
      ∙ ap (λ m. joined (joined (without_head (leaves_forth P.k forth enter (suc s) (x o)) (queue_of before (suc s) (x o))) (request_to b o (moved_request M (wire_into P.k LowNet s j 0)))) m) (arrives_at 1 o (omega arith) h)
      ∙ ap (λ q. joined (joined q (request_to b o (moved_request M (wire_into P.k LowNet s j 0)))) (request_to b o (moved_request M (wire_into P.k LowNet s j 1))))
      (ap (without_head (leaves_forth P.k forth enter (suc s) (x o))) (kept (suc s) (x o) (omega (arith, lt)) (at_small o h))
      ∙ leaves_same (leaves_forth P.k forth enter (suc s) (x o)) (queue_of R.low.requests (suc s) (x o))
      ∙ ap (λ m. without_head (is_some m) (queue_of R.low.requests (suc s) (x o))) (sym (goes_out P R LowNet forth turns enter all ends few s j lt small o h)))

  -- and to a queue of replies
  returns_at : (o i : ℕ) → o < 2 → i < 2 → arrival (λ (y : Reply). y.tag.proc) b (has (slice_index_or back s 0)) behind (suc s) o (x i) ≡ reply_to b i (moved_reply M (wire_out LowNet s j o))
  returns_at o i h g =
      ap (λ y. sent_to (λ (y : Reply). y.tag.proc) b (bit b (x i)) (if_leaves (has (slice_index_or back s 0) y) (queue_of behind (suc s) y))) (ports_at o i h g)
      ∙ ap (λ t. sent_to (λ (y : Reply). y.tag.proc) b t (if_leaves (has (slice_index_or back s 0) (x o)) (queue_of behind (suc s) (x o)))) (own_at i g)
      ∙ ap (λ q. sent_to (λ (y : Reply). y.tag.proc) b i (if_leaves (has (slice_index_or back s 0) (x o)) q)) (rest (suc s) (x o) (omega arith) (at_small o h))
      ∙ reply_sent b i (if_leaves (has (slice_index_or back s 0) (x o)) (queue_of R.low.replies (suc s) (x o)))
      ∙ ap (reply_to b i) (sym (comes_back P R LowNet back back_turns received all_back receives few s j lt small o h))

  -- what is left of a queue of replies
  left_so : (t z : ℕ) → z < 64 → left_back back behind t z ≡ without_head (leaves_back received back t z) (queue_of R.low.replies t z)
  left_so zero z zs = took z zs
  left_so (suc t) z zs = ap (without_head (has (slice_index_or back t 0) z)) (rest (suc t) z (omega arith) zs)

  pub low_reverse : (i : ℕ) → i < 2 → queue_of n.replies s (x i)
      ≡ queue_after (is_some (moved_reply M (wire_into P.k LowNet s j i))) (reply_to b i (moved_reply M (wire_out LowNet s j 0))) (reply_to b i (moved_reply M (wire_out LowNet s j 1))) (queue_of R.low.replies s (x i))
  low_reverse i h =
      replies s (x i) lt (at_small i h)
      ∙ ap (λ t. cond t (joined (joined (left_back back behind s (x i)) (arrival (λ (y : Reply). y.tag.proc) b (has (slice_index_or back s 0)) behind (suc s) 0 (x i))) (arrival (λ (y : Reply). y.tag.proc) b (has (slice_index_or back s 0)) behind (suc s) 1 (x i)))
      (left_back back behind s (x i))) (lt-ltb s P.k lt)
      ∙ ap (λ m. joined (joined (left_back back behind s (x i)) m) (arrival (λ (y : Reply). y.tag.proc) b (has (slice_index_or back s 0)) behind (suc s) 1 (x i))) (returns_at 0 i (omega arith) h)
      ∙ ap (λ m. joined (joined (left_back back behind s (x i)) (reply_to b i (moved_reply M (wire_out LowNet s j 0)))) m) (returns_at 1 i (omega arith) h)
      ∙ ap (λ q. joined (joined q (reply_to b i (moved_reply M (wire_out LowNet s j 0)))) (reply_to b i (moved_reply M (wire_out LowNet s j 1))))
      (left_so s (x i) (at_small i h)
      ∙ leaves_same (leaves_back received back s (x i)) (queue_of R.low.replies s (x i))
      ∙ ap (λ m. without_head (is_some m) (queue_of R.low.replies s (x i))) (sym (goes_back P R LowNet back back_turns received all_back receives few s j lt small i h)))

  low_turn : (o : ℕ) → o < 2 → turn_of n.turns s (x o) ≡ turn_after (turn_of R.low.turns s (x o)) (is_some (request_to b o (moved_request M (wire_into P.k LowNet s j 0)))) (is_some (request_to b o (moved_request M (wire_into P.k LowNet s j 1))))
  low_turn o h = ap (λ ts. turn_of ts s (x o)) turns_so ∙ (all s lt).turns j o small h

  low_back_turn : (i : ℕ) → i < 2 → turn_of n.back_turns s (x i) ≡ turn_after (turn_of R.low.back_turns s (x i)) (is_some (reply_to b i (moved_reply M (wire_out LowNet s j 0)))) (is_some (reply_to b i (moved_reply M (wire_out LowNet s j 1))))
  low_back_turn i h = ap (λ ts. turn_of ts s (x i)) back_turns_so ∙ (all_back s lt).turns j i small h

  abbrev low_made : ArrayVec Request → ArrayVec Request → ℕ → ℕ → ArrayVec Reply → ArrayVec Reply → ℕ → ℕ → LowState
  low_made f g t u v w y z = record { fwd = f ∷ g ∷ []; turn = t ∷ u ∷ []; rev = v ∷ w ∷ []; rturn = y ∷ z ∷ [] }

  abbrev forward_then : ℕ → ArrayVec Request
  forward_then o = queue_after (is_some (moved_request M (wire_out LowNet s j o))) (request_to b o (moved_request M (wire_into P.k LowNet s j 0))) (request_to b o (moved_request M (wire_into P.k LowNet s j 1))) (queue_of R.low.requests (suc s) (x o))

  abbrev reverse_then : ℕ → ArrayVec Reply
  reverse_then i = queue_after (is_some (moved_reply M (wire_into P.k LowNet s j i))) (reply_to b i (moved_reply M (wire_out LowNet s j 0))) (reply_to b i (moved_reply M (wire_out LowNet s j 1))) (queue_of R.low.replies s (x i))

  abbrev turn_then : ℕ → ℕ
  turn_then o = turn_after (turn_of R.low.turns s (x o)) (is_some (request_to b o (moved_request M (wire_into P.k LowNet s j 0)))) (is_some (request_to b o (moved_request M (wire_into P.k LowNet s j 1))))

  abbrev back_then : ℕ → ℕ
  back_then i = turn_after (turn_of R.low.back_turns s (x i)) (is_some (reply_to b i (moved_reply M (wire_out LowNet s j 0)))) (is_some (reply_to b i (moved_reply M (wire_out LowNet s j 1))))

  pub low_steps : low_of P.k n s j ≡ low_after b (switch_traffic M P.k LowNet s j) (low_of P.k R.low s j)
  low_steps =
      let o0 : 0 < 2 = omega arith in
      let o1 : 1 < 2 = omega arith in
      ap (λ q. low_made q (queue_of n.requests (suc s) (x 1)) (turn_of n.turns s (x 0)) (turn_of n.turns s (x 1)) (queue_of n.replies s (x 0)) (queue_of n.replies s (x 1)) (turn_of n.back_turns s (x 0)) (turn_of n.back_turns s (x 1))) (low_forward 0 o0)
      ∙ ap (λ q. low_made (forward_then 0) q (turn_of n.turns s (x 0)) (turn_of n.turns s (x 1)) (queue_of n.replies s (x 0)) (queue_of n.replies s (x 1)) (turn_of n.back_turns s (x 0)) (turn_of n.back_turns s (x 1))) (low_forward 1 o1)
      ∙ ap (λ t. low_made (forward_then 0) (forward_then 1) t (turn_of n.turns s (x 1)) (queue_of n.replies s (x 0)) (queue_of n.replies s (x 1)) (turn_of n.back_turns s (x 0)) (turn_of n.back_turns s (x 1))) (low_turn 0 o0)
      ∙ ap (λ t. low_made (forward_then 0) (forward_then 1) (turn_then 0) t (queue_of n.replies s (x 0)) (queue_of n.replies s (x 1)) (turn_of n.back_turns s (x 0)) (turn_of n.back_turns s (x 1))) (low_turn 1 o1)
      ∙ ap (λ q. low_made (forward_then 0) (forward_then 1) (turn_then 0) (turn_then 1) q (queue_of n.replies s (x 1)) (turn_of n.back_turns s (x 0)) (turn_of n.back_turns s (x 1))) (low_reverse 0 o0)
      ∙ ap (λ q. low_made (forward_then 0) (forward_then 1) (turn_then 0) (turn_then 1) (reverse_then 0) q (turn_of n.back_turns s (x 0)) (turn_of n.back_turns s (x 1))) (low_reverse 1 o1)
      ∙ ap (λ t. low_made (forward_then 0) (forward_then 1) (turn_then 0) (turn_then 1) (reverse_then 0) (reverse_then 1) t (turn_of n.back_turns s (x 1))) (low_back_turn 0 o0)
      ∙ ap (λ t. low_made (forward_then 0) (forward_then 1) (turn_then 0) (turn_then 1) (reverse_then 0) (reverse_then 1) (back_then 0) t) (low_back_turn 1 o1)
