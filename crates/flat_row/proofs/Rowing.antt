-- What is decided from the marks of a row's levels is what moves in the whole state that the row is.
use Rattle.std.proofs.Common.{◌≡◌, ℕ, zero, suc, ◌+◌, ◌-◌, ◌*◌, ◌^◌, ◌<◌, ◌≤◌, Bool, true, false, cond, List, [], ◌∷◌, length, refl, ap, sym, ◌∙◌, subst, Option, None, Some, arith}
use Rattle.std.specs.Prelude.{◌==◌, ◌&&◌, nat_le, nat_lt, is_some, slice_get, slice_index, slice_index_or}
use Rattle.std.proofs.lemmas.Bool.{eq-eqb, ne_eqb}
use Rattle.std.proofs.lemmas.Bool.Decides.{nat_tests}
use Rattle.std.proofs.lemmas.Nat.Bits.{bit_at-lt}
use Rattle.std.proofs.Math.Pow.{pow_mono}
use Rattle.arrayvec.specs.ArrayVec.{ArrayVec}
use Rattle.omega_net.specs.declared.component.Net.{Net}
use Rattle.omega_net.specs.declared.component.Net.TheVariants.{Low as LowNet, Comb as CombNet}
use Rattle.omega_net.specs.declared.message.Request.{Request}
use Rattle.omega_net.specs.declared.message.Reply.{Reply}
use Rattle.omega_net.specs.Numbers.{lines, half}
use Rattle.omega_net.specs.Wires.{bit}
use Rattle.omega_net.specs.Queues.{free, head}
use Rattle.comb_switch.specs.declared.waiting.Waiting.{Waiting}
use Rattle.machine_cells.specs.declared.state.MachineState.{MachineState}
use Rattle.machine_cells.specs.Moves.{moves, moved_request, moved_reply, request_between, reply_between, at_ends, if_taken, takes_request, takes_reply, request_on, reply_on, upper_state, lower_state}
use Rattle.machine_cells.proofs.Parts.{request_moved, reply_moved}
use Rattle.project_book.specs.Project.{Project, forward, reverse, depth_of}
use Rattle.project_book.specs.declared.edit.Depths.TheVariants.{ModuleQueue}
use Rattle.flat_row.specs.declared.marks.Rule.{Rule}
use Rattle.flat_row.specs.declared.marks.Marks.{Marks}
use Rattle.flat_row.specs.Labels.{rotated_right, label, switch_label, LabelsName}
use Rattle.flat_row.specs.Masks.{has}
use Rattle.flat_row.specs.Queues.{shown_of, shown_at}
use Rattle.flat_row.specs.Shows.{on_line, IsHead, IsRoom, IsQueues, ShowsRequests, ShowsLowReplies, ShowsCombReplies, ShowsEntering, ShowsReceived, ShowsModule}
use Rattle.flat_row.specs.Row.{Network, Arrays, IsRow, IsRowOf, IsNetworkOf, level_at, queue_of, port_label, turn_of, switch_of, module_of, states_of, places_for}
use Rattle.flat_row.specs.Rows.{MarksRequests, MarksReplies, if_leaves, network, RowsDecide}
use Rattle.flat_row.proofs.Labelling.{each_is_named}
use Rattle.flat_row.proofs.Showing.{stages_decide, ends_decide}
use Rattle.flat_row.proofs.Holding.{Holds, low_holds, comb_holds, at_port, port_small, upper_shown, lower_shown}

same_bits : (p q : ℕ) → p < 2 → q < 2 → (p == 1) ≡ (q == 1) → p ≡ q
same_bits zero zero a b e = refl
same_bits (suc zero) (suc zero) a b e = refl
same_bits zero (suc zero) a b e = cc
same_bits (suc zero) zero a b e = cc
same_bits (suc (suc p)) q a b e = absurd (omega arith)
same_bits zero (suc (suc q)) a b e = absurd (omega arith)
same_bits (suc zero) (suc (suc q)) a b e = absurd (omega arith)

module _ {T : Type 0} where
  -- what marks say of a label is the head of its queue, and its free places
  head_said : (route : T → ℕ) (rule : Rule) (marks : Marks) (x : ℕ) (messages : List T) → shown_at marks x ≡ shown_of route rule messages
      → IsHead route marks rule.by x (slice_get messages 0)
  head_said route rule marks x [] e = ap (λ s. s.any) e
  head_said route rule marks x (m ∷ ms) e = (
    ap (λ s. s.any) e,
    same_bits (bit x marks.asks) (bit rule.by (route m)) (bit_at-lt marks.asks x) (bit_at-lt (route m) rule.by) (ap (λ s. s.asks) e),
  )

  pub head_at : (route : T → ℕ) (rule : Rule) (marks : Marks) (b x : ℕ) (q : ArrayVec T) (shown : Option T) → shown_at marks x ≡ shown_of route rule q.items
      → rule.by ≡ b → head q ≡ shown → IsHead route marks b x shown
  head_at route rule marks b x q shown e by is = subst (λ o. IsHead route marks b x o) is (subst (λ c. IsHead route marks c x (head q)) by (head_said route rule marks x q.items e))

  room_at : (route : T → ℕ) (rule : Rule) (marks : Marks) (x two one depth : ℕ) (q : ArrayVec T) → shown_at marks x ≡ shown_of route rule q.items
      → rule.two ≡ two → rule.one ≡ one → rule.depth ≡ depth → IsRoom two one marks x (free depth q)
  room_at route rule marks x two one depth q e a b c = (
    ap (λ s. s.two) e ∙ ap (λ n. nat_le n (rule.depth - length q.items)) a ∙ ap (λ d. nat_le two (d - length q.items)) c,
    ap (λ s. s.one) e ∙ ap (λ n. nat_le n (rule.depth - length q.items)) b ∙ ap (λ d. nat_le one (d - length q.items)) c,
  )

-- what the levels before and behind a stage are asked
forward_depth : (P : Project) (net : Net) (s : ℕ) → s < P.k → cond (suc s == P.k + 1) (depth_of P ModuleQueue) (forward P net) ≡ forward P net
forward_depth P net s lt = let e : (suc s == P.k + 1) ≡ false = grind (arith, nat_tests) in ap (λ t. cond t (depth_of P ModuleQueue) (forward P net)) e

module_depth : (P : Project) (net : Net) → cond (suc P.k == P.k + 1) (depth_of P ModuleQueue) (forward P net) ≡ depth_of P ModuleQueue
module_depth P net = let e : (suc P.k == P.k + 1) ≡ true = grind (arith, nat_tests) in ap (λ t. cond t (depth_of P ModuleQueue) (forward P net)) e

pub forward_bit : (k s : ℕ) → s < k → cond (nat_lt s k) (k - 1 - s) 63 ≡ k - 1 - s
forward_bit k s lt = let e : nat_lt s k ≡ true = grind (arith, nat_tests) in ap (λ t. cond t (k - 1 - s) 63) e

pub back_bit : (k s : ℕ) → s < k → cond (suc s == 0) 63 (k - suc s) ≡ k - 1 - s
back_bit k s lt =
    let e : (suc s == 0) ≡ false = ne_eqb (suc s) 0 (λ e. omega (arith, e)) in
    let same : k - suc s ≡ k - 1 - s = omega arith in
    ap (λ t. cond t 63 (k - suc s)) e ∙ same

other : (k s a b : ℕ) → s < k → cond (s == k) a b ≡ b
other k s a b lt = let e : (s == k) ≡ false = grind (arith, nat_tests) in ap (λ t. cond t a b) e

own : (k a b : ℕ) → cond (k == k) a b ≡ a
own k a b = ap (λ t. cond t a b) (eq-eqb k k refl)

label_small : (k s l : ℕ) → k ≤ 6 → s ≤ k → l < lines k → rotated_right k s l < 64
label_small k s l few le within =
    let named : LabelsName k = each_is_named k in
    let most : 2 ^ k ≤ 64 = pow_mono few in
    let there : rotated_right k s l < 2 ^ k = named.within s l le within in
    omega (arith, most, there)

abbrev module_route : Request → ℕ
module_route r = r.place.«module»

abbrev proc_route : Reply → ℕ
proc_route y = y.tag.proc

-- the turn at a port
turn_at : (f : ℕ → ℕ) (o : ℕ) → o < 2 → f o ≡ slice_index (f 0 ∷ f 1 ∷ []) o
turn_at f zero h = refl
turn_at f (suc zero) h = refl
turn_at f (suc (suc o)) h = absurd (omega arith)

-- of a whole state whose components hold what the levels and turns of a network say
module _ (P : Project) (few : P.k ≤ 6) (S : List MachineState) (n : Network) where
  -- the queues of requests at a switch
  queues_shown : (net : Net) → IsNetworkOf P net n → (s j : ℕ) → s < P.k → j < half P.k → (behind : Marks) → MarksRequests (level_at n.requests (suc s)) behind
      → (wait : ArrayVec Waiting) (combined o : ℕ) → o < 2 → IsQueues net P behind (slice_index_or n.turns s 0) o (port_label P.k s j o) (switch_of net P.k n s j wait combined)
  queues_shown net asked s j lt small behind marks wait combined o within = by_net net asked
    where
      rule : (net : Net) → IsNetworkOf P net n → IsRoom 2 1 behind (port_label P.k s j o) (free (forward P net) (queue_of n.requests (suc s) (port_label P.k s j o)))
      rule net asked =
          let e = asked.requests (suc s) (omega arith) in
          room_at module_route (level_at n.requests (suc s)).rule behind (port_label P.k s j o) 2 1 (forward P net) (queue_of n.requests (suc s) (port_label P.k s j o))
          (marks (port_label P.k s j o) (port_small P.k s j o few lt small within)) (ap (λ r. r.two) e) (ap (λ r. r.one) e) (ap (λ r. r.depth) e ∙ forward_depth P net s lt)

      turn : bit (port_label P.k s j o) (slice_index_or n.turns s 0) ≡ slice_index (turn_of n.turns s (port_label P.k s j 0) ∷ turn_of n.turns s (port_label P.k s j 1) ∷ []) o
      turn = turn_at (λ i. turn_of n.turns s (port_label P.k s j i)) o within

      by_net : (net : Net) → IsNetworkOf P net n → IsQueues net P behind (slice_index_or n.turns s 0) o (port_label P.k s j o) (switch_of net P.k n s j wait combined)
      by_net LowNet asked = (subst (λ q. IsRoom 2 1 behind (port_label P.k s j o) (free (forward P LowNet) q)) (at_port (λ i. queue_of n.requests (suc s) (port_label P.k s j i)) o within) (rule LowNet asked), turn)
      by_net CombNet asked = (subst (λ q. IsRoom 2 1 behind (port_label P.k s j o) (free (forward P CombNet) q)) (at_port (λ i. queue_of n.requests (suc s) (port_label P.k s j i)) o within) (rule CombNet asked), turn)

  requests_show : (net : Net) → Holds P.k net n S → IsNetworkOf P net n → (s : ℕ) → s < P.k → (before behind : Marks)
      → MarksRequests (level_at n.requests s) before → MarksRequests (level_at n.requests (suc s)) behind
      → ShowsRequests P S net s before behind (slice_index_or n.turns s 0)
  requests_show net holds asked s lt before behind at_before at_behind = record {
    heads = λ l within.
        let u = upper_shown P S net n holds s l (omega arith) within in
        let x = label_small P.k s l few (omega arith) within in (
          u.0,
          u.1,
          head_at module_route (level_at n.requests s).rule before (P.k - 1 - s) (rotated_right P.k s l) (queue_of n.requests s (rotated_right P.k s l)) (request_on (on_line net s l) u.0)
              (at_before (rotated_right P.k s l) x) (ap (λ r. r.by) (asked.requests s (omega arith)) ∙ forward_bit P.k s lt) u.2,
        );
    queues = λ j small.
        let w = holds.switches s j lt small in
        (switch_of net P.k n s j w.0 w.1, w.2, λ o within. queues_shown net asked s j lt small behind at_behind w.0 w.1 o within);
  }

  -- the queues of replies
  back_room : (net : Net) → IsNetworkOf P net n → (s j : ℕ) → s < P.k → j < half P.k → (before : Marks) → MarksReplies (level_at n.replies s) before → (i : ℕ) → i < 2
      → IsRoom (places_for net 2) (places_for net 1) before (port_label P.k s j i) (free (reverse P net) (queue_of n.replies s (port_label P.k s j i)))
  back_room net asked s j lt small before marks i within =
      let e = asked.replies s (omega arith) in
      room_at proc_route (level_at n.replies s).rule before (port_label P.k s j i) (places_for net 2) (places_for net 1) (reverse P net) (queue_of n.replies s (port_label P.k s j i))
      (marks (port_label P.k s j i) (port_small P.k s j i few lt small within))
      (ap (λ r. r.two) e ∙ other P.k s 2 (places_for net 2) lt) (ap (λ r. r.one) e ∙ other P.k s 1 (places_for net 1) lt) (ap (λ r. r.depth) e ∙ other P.k s (depth_of P ModuleQueue) (reverse P net) lt)

  low_replies_show : Holds P.k LowNet n S → IsNetworkOf P LowNet n → (s : ℕ) → s < P.k → (behind before : Marks)
      → MarksReplies (level_at n.replies (suc s)) behind → MarksReplies (level_at n.replies s) before
      → ShowsLowReplies P S s behind before (slice_index_or n.back_turns s 0)
  low_replies_show holds asked s lt behind before at_behind at_before = record {
    heads = λ l within.
        let u = lower_shown P S LowNet n holds (suc s) l (omega arith) within in
        let x = label_small P.k (suc s) l few (omega arith) within in (
          u.0,
          u.1,
          head_at proc_route (level_at n.replies (suc s)).rule behind (P.k - 1 - s) (rotated_right P.k (suc s) l) (queue_of n.replies (suc s) (rotated_right P.k (suc s) l)) (reply_on P.k (on_line LowNet (suc s) l) u.0)
              (at_behind (rotated_right P.k (suc s) l) x) (ap (λ r. r.by) (asked.replies (suc s) (omega arith)) ∙ back_bit P.k s lt) u.2,
        );
    queues = λ j small.
        let w = holds.switches s j lt small in (
          switch_of LowNet P.k n s j w.0 w.1,
          w.2,
          λ i within. (
            subst (λ q. IsRoom 2 1 before (port_label P.k s j i) (free (reverse P LowNet) q)) (at_port (λ i. queue_of n.replies s (port_label P.k s j i)) i within) (back_room LowNet asked s j lt small before at_before i within),
            turn_at (λ i. turn_of n.back_turns s (port_label P.k s j i)) i within,
          ),
        );
  }

  comb_replies_show : Holds P.k CombNet n S → IsNetworkOf P CombNet n → (s : ℕ) → s < P.k → (behind before : Marks)
      → MarksReplies (level_at n.replies (suc s)) behind → MarksReplies (level_at n.replies s) before
      → ShowsCombReplies P S s behind before (slice_index_or n.back_turns s 0)
  comb_replies_show holds asked s lt behind before at_behind at_before = record {
    heads = λ l within.
        let u = lower_shown P S CombNet n holds (suc s) l (omega arith) within in
        let x = label_small P.k (suc s) l few (omega arith) within in
        (u.0, u.1, ap (λ t. t.any) (at_behind (rotated_right P.k (suc s) l) x) ∙ ap is_some u.2);
    queues = λ j small.
        let w = holds.switches s j lt small in (
          switch_of CombNet P.k n s j w.0 w.1,
          w.2,
          (
            subst (λ x. IsRoom 4 2 before x (free (reverse P CombNet) (queue_of n.replies s (port_label P.k s j 0)))) (none (switch_label P.k s j) (2 ^ (P.k - 1 - s))) (back_room CombNet asked s j lt small before at_before 0 (omega arith)),
            subst (λ x. IsRoom 4 2 before x (free (reverse P CombNet) (queue_of n.replies s (port_label P.k s j 1)))) (one (switch_label P.k s j) (2 ^ (P.k - 1 - s))) (back_room CombNet asked s j lt small before at_before 1 (omega arith)),
            ap (λ x. bit x (slice_index_or n.back_turns s 0)) (sym (none (switch_label P.k s j) (2 ^ (P.k - 1 - s)))),
          ),
        );
  }
    where
      none : (a d : ℕ) → a + 0 * d ≡ a
      none a d = omega arith

      one : (a d : ℕ) → a + 1 * d ≡ a + d
      one a d = omega arith

  entering_shows : (net : Net) → Holds P.k net n S → IsNetworkOf P net n → (before behind : Marks)
      → MarksRequests (level_at n.requests P.k) before → MarksRequests (level_at n.requests (suc P.k)) behind → ShowsEntering P S net before behind
  entering_shows net holds asked before behind at_before at_behind = record {
    heads = λ l within.
        let u = upper_shown P S net n holds P.k l (omega arith) within in
        let x = label_small P.k P.k l few (omega arith) within in
        (u.0, u.1, ap (λ t. t.any) (at_before (rotated_right P.k P.k l) x) ∙ ap is_some u.2);
    modules = λ m within.
        let s = holds.modules m within in
        let most : 2 ^ P.k ≤ 64 = pow_mono few in
        let small : m < 64 = omega (arith, most, within) in
        let e = asked.requests (suc P.k) (omega arith) in
        let room = room_at module_route (level_at n.requests (suc P.k)).rule behind m 2 1 (depth_of P ModuleQueue) (queue_of n.requests (suc P.k) m) (at_behind m small) (ap (λ r. r.two) e) (ap (λ r. r.one) e) (ap (λ r. r.depth) e ∙ module_depth P net) in
        (s.0, s.1, room.1 ∙ ap (λ q. nat_le 1 (free (depth_of P ModuleQueue) q)) s.2);
  }

  received_shows : (net : Net) → Holds P.k net n S → (behind : Marks) → MarksReplies (level_at n.replies 0) behind → ShowsReceived P S net behind
  received_shows net holds behind at_behind = record {
    heads = λ l within.
        let u = lower_shown P S net n holds 0 l (omega arith) within in
        let x = label_small P.k 0 l few (omega arith) within in
        (u.0, u.1, ap (λ t. t.any) (at_behind (rotated_right P.k 0 l) x) ∙ ap is_some u.2);
    processors = λ p within. let s = holds.procs p within in (s.0, s.1);
  }

-- what moves over a wire is what is shown on it, or nothing
module _ {T : Type 0} where
  shown_or_none : (takes : T → Bool) (m : Option T) → if_taken takes m ≡ cond (is_some (if_taken takes m)) m None
  shown_or_none takes None = refl
  shown_or_none takes (Some m) = by_test (takes m)
    where
      by_test : (t : Bool) → cond t (Some m) None ≡ cond (is_some (cond t (Some m) None)) (Some m) None
      by_test true = refl
      by_test false = refl

module _ (P : Project) (S : List MachineState) (net : Net) (s l : ℕ) (le : s ≤ P.k) (within : l < lines P.k) (u : MachineState) where
  shown_request : upper_state P S (on_line net s l) ≡ Some u → moved_request (moves P S) (on_line net s l) ≡ cond (is_some (moved_request (moves P S) (on_line net s l))) (request_on (on_line net s l) u) None
  shown_request up =
      let e : moved_request (moves P S) (on_line net s l) ≡ at_ends (request_between P (on_line net s l)) (Some u) (lower_state P S (on_line net s l)) =
      request_moved P S (on_line net s l) le within ∙ ap (λ o. at_ends (request_between P (on_line net s l)) o (lower_state P S (on_line net s l))) up in
      e ∙ by_lower (lower_state P S (on_line net s l)) ∙ ap (λ m. cond (is_some m) (request_on (on_line net s l) u) None) (sym e)
    where
      by_lower : (o : Option MachineState)
          → at_ends (request_between P (on_line net s l)) (Some u) o ≡ cond (is_some (at_ends (request_between P (on_line net s l)) (Some u) o)) (request_on (on_line net s l) u) None
      by_lower None = refl
      by_lower (Some t) = shown_or_none (λ r. takes_request P (on_line net s l) r t) (request_on (on_line net s l) u)

  shown_reply : lower_state P S (on_line net s l) ≡ Some u → moved_reply (moves P S) (on_line net s l) ≡ cond (is_some (moved_reply (moves P S) (on_line net s l))) (reply_on P.k (on_line net s l) u) None
  shown_reply low =
      let e : moved_reply (moves P S) (on_line net s l) ≡ at_ends (reply_between P (on_line net s l)) (upper_state P S (on_line net s l)) (Some u) =
      reply_moved P S (on_line net s l) le within ∙ ap (λ o. at_ends (reply_between P (on_line net s l)) (upper_state P S (on_line net s l)) o) low in
      e ∙ by_upper (upper_state P S (on_line net s l)) ∙ ap (λ m. cond (is_some m) (reply_on P.k (on_line net s l) u) None) (sym e)
    where
      by_upper : (o : Option MachineState)
          → at_ends (reply_between P (on_line net s l)) o (Some u) ≡ cond (is_some (at_ends (reply_between P (on_line net s l)) o (Some u))) (reply_on P.k (on_line net s l) u) None
      by_upper None = refl
      by_upper (Some t) = shown_or_none (λ y. takes_reply P (on_line net s l) y t) (reply_on P.k (on_line net s l) u)

-- so it is the head of the queue at the wire's label, where the label is in the set of those that leave
module _ (P : Project) (S : List MachineState) (net : Net) (n : Network) (holds : Holds P.k net n S) (s l : ℕ) (le : s ≤ P.k) (within : l < lines P.k) (leaves : Bool) where
  pub request_moves : leaves ≡ is_some (moved_request (moves P S) (on_line net s l))
      → moved_request (moves P S) (on_line net s l) ≡ if_leaves leaves (queue_of n.requests s (label P.k (on_line net s l)))
  request_moves e =
      let u = upper_shown P S net n holds s l le within in
      shown_request P S net s l le within u.0 u.1
      ∙ ap (λ t. cond t (request_on (on_line net s l) u.0) None) (sym e) ∙ ap (λ m. cond leaves m None) (sym u.2)

  pub reply_moves : leaves ≡ is_some (moved_reply (moves P S) (on_line net s l))
      → moved_reply (moves P S) (on_line net s l) ≡ if_leaves leaves (queue_of n.replies s (label P.k (on_line net s l)))
  reply_moves e =
      let u = lower_shown P S net n holds s l le within in
      shown_reply P S net s l le within u.0 u.1
      ∙ ap (λ t. cond t (reply_on P.k (on_line net s l) u.0) None) (sym e) ∙ ap (λ m. cond leaves m None) (sym u.2)

-- both networks of a row
pub network_holds : (P : Project) (R : Arrays) → IsRow R → IsRowOf P R → (net : Net) → Holds P.k net (network R net) (states_of R)
network_holds P R row of LowNet = subst (λ k. Holds k LowNet R.low (states_of R)) of.size (low_holds R)
network_holds P R row of CombNet = subst (λ k. Holds k CombNet R.comb (states_of R)) of.size (comb_holds R row)

pub network_asked : (P : Project) (R : Arrays) → IsRowOf P R → (net : Net) → IsNetworkOf P net (network R net)
network_asked P R of LowNet = of.low
network_asked P R of CombNet = of.comb

module _ (P : Project) (R : Arrays) (of : IsRowOf P R) (m : ℕ) (small : m < 64) where
  waits : (net : Net) (marks : Marks) → MarksRequests (level_at (network R net).requests (suc P.k)) marks
      → has marks.any m ≡ is_some (head (queue_of (network R net).requests (suc R.k) m))
  waits net marks at = ap (λ t. t.any) (at m small) ∙ ap (λ k. is_some (head (queue_of (network R net).requests (suc k) m))) (sym of.size)

  answers : (net : Net) (marks : Marks) → MarksReplies (level_at (network R net).replies P.k) marks
      → has marks.one m ≡ nat_le 1 (free (depth_of P ModuleQueue) (queue_of (network R net).replies R.k m))
  answers net marks at =
      let e = (network_asked P R of net).replies P.k (omega arith) in
      let room = room_at proc_route (level_at (network R net).replies P.k).rule marks m _ 1 (depth_of P ModuleQueue) (queue_of (network R net).replies P.k m) (at m small)
      (ap (λ r. r.two) e) (ap (λ r. r.one) e ∙ own P.k 1 (places_for net 1)) (ap (λ r. r.depth) e ∙ own P.k (depth_of P ModuleQueue) (reverse P net)) in
      room.1 ∙ ap (λ k. nat_le 1 (free (depth_of P ModuleQueue) (queue_of (network R net).replies k m))) (sym of.size)

  module_shows : (lq cq lr cr : Marks)
      → MarksRequests (level_at R.low.requests (suc P.k)) lq → MarksRequests (level_at R.comb.requests (suc P.k)) cq
      → MarksReplies (level_at R.low.replies P.k) lr → MarksReplies (level_at R.comb.replies P.k) cr
      → ShowsModule P (module_of R m) m lq cq lr cr R.module_turns
  module_shows lq cq lr cr a b c d = record {
    low_any = waits LowNet lq a;
    comb_any = waits CombNet cq b;
    low_room = answers LowNet lr c;
    comb_room = answers CombNet cr d;
    turns = refl;
  }

pub rows_decide : RowsDecide
rows_decide P isp R row of = record {
  requests = λ net stage before behind leave lt at_before at_behind set l within.
      let decides = stages_decide P isp (states_of R) stage lt in
      let holds = network_holds P R row of net in
      request_moves P (states_of R) net (network R net) holds stage l (omega (arith, lt)) within (has leave (label P.k (on_line net stage l)))
      (decides.requests net before behind (slice_index_or (network R net).turns stage 0) leave
      (requests_show P isp.small (states_of R) (network R net) net holds (network_asked P R of net) stage lt before behind at_before at_behind) set l within);
  low_replies = λ stage behind before leave lt at_behind at_before set l within.
      let decides = stages_decide P isp (states_of R) stage lt in
      let holds = network_holds P R row of LowNet in
      reply_moves P (states_of R) LowNet R.low holds (suc stage) l (omega (arith, lt)) within (has leave (label P.k (on_line LowNet (suc stage) l)))
      (decides.low_replies behind before (slice_index_or R.low.back_turns stage 0) leave
      (low_replies_show P isp.small (states_of R) R.low holds of.low stage lt behind before at_behind at_before) set l within);
  comb_replies = λ stage behind before leave lt at_behind at_before set l within.
      let decides = stages_decide P isp (states_of R) stage lt in
      let holds = network_holds P R row of CombNet in
      reply_moves P (states_of R) CombNet R.comb holds (suc stage) l (omega (arith, lt)) within (has leave (label P.k (on_line CombNet (suc stage) l)))
      (decides.comb_replies behind before (slice_index_or R.comb.back_turns stage 0) leave
      (comb_replies_show P isp.small (states_of R) R.comb holds of.comb stage lt behind before at_behind at_before) set l within);
  entering = λ net before behind at_before at_behind l within.
      let decides = ends_decide P isp (states_of R) in
      let holds = network_holds P R row of net in
      request_moves P (states_of R) net (network R net) holds P.k l (omega arith) within (has before.any (label P.k (on_line net P.k l)) && has behind.one (label P.k (on_line net P.k l)))
      (decides.requests net before behind (entering_shows P isp.small (states_of R) (network R net) net holds (network_asked P R of net) before behind at_before at_behind) l within);
  received = λ net behind at_behind l within.
      let decides = ends_decide P isp (states_of R) in
      let holds = network_holds P R row of net in
      reply_moves P (states_of R) net (network R net) holds 0 l (omega arith) within (has behind.any (label P.k (on_line net 0 l)))
      (decides.replies net behind (received_shows P isp.small (states_of R) (network R net) net holds behind at_behind) l within);
  served = λ lq cq lr cr low comb m within a b c d p q.
      let most : 2 ^ P.k ≤ 64 = pow_mono isp.small in
      let decides = ends_decide P isp (states_of R) in
      decides.served (module_of R m) m low comb R.module_turns lq cq lr cr within (module_shows P R of m (omega (arith, most, within)) lq cq lr cr a b c d) p q;
}
