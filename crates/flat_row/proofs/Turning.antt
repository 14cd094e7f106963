-- The turns that a stage decides are those of what moves to the queues of its switches.
use Rattle.std.proofs.Common.{◌≡◌, ℕ, zero, suc, ◌+◌, ◌-◌, ◌*◌, ◌^◌, ◌<◌, ◌≤◌, Bool, true, false, cond, refl, ap, sym, ◌∙◌, Option, None, Some, arith}
use Rattle.std.specs.Prelude.{◌==◌, ◌&&◌, ◌||◌, is_some, slice_index_or}
use Rattle.std.proofs.lemmas.Bool.{eqb-true}
use Rattle.omega_net.specs.declared.component.Net.{Net}
use Rattle.omega_net.specs.declared.component.Net.TheVariants.{Low as LowNet, Comb as CombNet}
use Rattle.omega_net.specs.declared.message.Request.{Request}
use Rattle.omega_net.specs.declared.message.Reply.{Reply}
use Rattle.omega_net.specs.Numbers.{lines, half}
use Rattle.omega_net.specs.Wires.{bit, wire_into, wire_out}
use Rattle.omega_net.specs.Queues.{head, turn_after}
use Rattle.omega_net.specs.Ports.{request_to, reply_to}
use Rattle.omega_net.proofs.Numbering.{half_twice}
use Rattle.machine_cells.specs.Moves.{moves, moved_request, moved_reply}
use Rattle.project_book.specs.Project.{Project}
use Rattle.flat_row.specs.declared.marks.Marks.{Marks}
use Rattle.flat_row.specs.declared.decide.Room.{Room}
use Rattle.flat_row.specs.Labels.{label, switch_label, port, LabelsName}
use Rattle.flat_row.specs.Masks.{has}
use Rattle.flat_row.specs.Decisions.{takes_from, leaves, comes, takes_both, leaves_both, comes_both}
use Rattle.flat_row.specs.Shows.{IsHead, heads_of, room_of}
use Rattle.flat_row.specs.Row.{Arrays, IsRowOf, queue_of, level_at, port_label, states_of}
use Rattle.flat_row.specs.Rows.{MarksRequests, MarksReplies, if_leaves, network, RowsTurn}
use Rattle.flat_row.specs.Moving.{sent_to}
use Rattle.flat_row.proofs.Labelling.{each_is_named}
use Rattle.flat_row.proofs.Showing.{StandsAt, stands_at}
use Rattle.flat_row.proofs.Holding.{port_within}
use Rattle.flat_row.proofs.Rowing.{head_at, forward_bit, back_bit, network_asked, rows_decide}

-- what comes to a queue from a port is the head there, where it leaves for that queue
module _ {T : Type 0} (route : T → ℕ) (b i o x y : ℕ) (before : Marks) (room : Room) (turn : ℕ) (from : port b i y ≡ x) (own : bit b x ≡ i) (to : bit b y ≡ o) (there : port b o x ≡ y) where
  pub comes_is : (shown : Option T) → IsHead route before b x shown
      → comes b (heads_of before) room turn i y ≡ is_some (sent_to route b o (cond (leaves b (heads_of before) room turn x) shown None))
  comes_is None h =
      ap (λ p. (has before.any p && (bit p before.asks == bit b y)) && takes_from room turn i y) from
      ∙ ap (λ t. (t && (bit x before.asks == bit b y)) && takes_from room turn i y) h
      ∙ sym (ap (λ t. is_some (sent_to route b o (cond (t && takes_from room turn (bit b x) (port b (bit x before.asks) x)) None None))) h)
  comes_is (Some m) h =
      ap (λ p. (has before.any p && (bit p before.asks == bit b y)) && takes_from room turn i y) from
      ∙ ap (λ t. (t && (bit x before.asks == bit b y)) && takes_from room turn i y) h.0
      ∙ ap (λ n. (n == bit b y) && takes_from room turn i y) h.1
      ∙ ap (λ n. (bit b (route m) == n) && takes_from room turn i y) to
      ∙ by_test (bit b (route m) == o) refl
      ∙ sym (
      ap (λ t. is_some (sent_to route b o (cond (t && takes_from room turn (bit b x) (port b (bit x before.asks) x)) (Some m) None))) h.0
      ∙ ap (λ n. is_some (sent_to route b o (cond (takes_from room turn n (port b (bit x before.asks) x)) (Some m) None))) own
      ∙ ap (λ n. is_some (sent_to route b o (cond (takes_from room turn i (port b n x)) (Some m) None))) h.1
      )
    where
      sent : (t s : Bool) → (bit b (route m) == o) ≡ t → is_some (sent_to route b o (cond s (Some m) None)) ≡ (s && t)
      sent t true e = ap (λ r. is_some (cond r (Some m) None)) e ∙ some t
        where
          some : (r : Bool) → is_some (cond r (Some m) None) ≡ r
          some true = refl
          some false = refl
      sent t false e = refl

      and_true : (s : Bool) → s ≡ (s && true)
      and_true true = refl
      and_true false = refl

      and_false : (s : Bool) → false ≡ (s && false)
      and_false true = refl
      and_false false = refl

      by_test : (t : Bool) → (bit b (route m) == o) ≡ t
          → ((bit b (route m) == o) && takes_from room turn i y) ≡ is_some (sent_to route b o (cond (takes_from room turn i (port b (bit b (route m)) x)) (Some m) None))
      by_test true e =
          let same : bit b (route m) ≡ o = eqb-true (bit b (route m)) o e in
          ap (λ t. t && takes_from room turn i y) e
          ∙ and_true (takes_from room turn i y)
          ∙ sym (sent true (takes_from room turn i y) e)
          ∙ ap (λ z. is_some (sent_to route b o (cond (takes_from room turn i z) (Some m) None))) (sym (ap (λ n. port b n x) same ∙ there))
      by_test false e =
          ap (λ t. t && takes_from room turn i y) e
          ∙ and_false (takes_from room turn i (port b (bit b (route m)) x))
          ∙ sym (sent false (takes_from room turn i (port b (bit b (route m)) x)) e)

-- a turn, where both comings are known
turn_alike : (turn : ℕ) (a b c d : Bool) → a ≡ c → b ≡ d → turn_after turn a b ≡ turn_after turn c d
turn_alike turn a b c d e f = ap (λ t. turn_after turn t b) e ∙ ap (λ t. turn_after turn c t) f

pub request_sent : (b o : ℕ) (m : Option Request) → sent_to (λ (r : Request). r.place.«module») b o m ≡ request_to b o m
request_sent b o None = refl
request_sent b o (Some r) = refl

pub reply_sent : (b o : ℕ) (m : Option Reply) → sent_to (λ (y : Reply). y.tag.proc) b o m ≡ reply_to b o m
reply_sent b o None = refl
reply_sent b o (Some y) = refl

module _ (P : Project) (few : P.k ≤ 6) (stage j : ℕ) (lt : stage < P.k) (small : j < half P.k) where
  abbrev b : ℕ
  b = P.k - 1 - stage

  abbrev at : ℕ → ℕ
  at o = port_label P.k stage j o

  pub stands : (i : ℕ) → i < 2 → StandsAt P.k stage j i (at i)
  stands i h = stands_at P.k stage j i (at i) few lt small h refl (port_within P.k stage j i lt small h)

  -- the lines of a switch
  pub line_in : (i : ℕ) → i < 2 → i * half P.k + j < lines P.k
  line_in zero h = omega (arith, half_twice P.k stage lt, small)
  line_in (suc zero) h = omega (arith, half_twice P.k stage lt, small)
  line_in (suc (suc i)) h = absurd (omega arith)

  pub line_out : (i : ℕ) → i < 2 → 2 * j + i < lines P.k
  line_out i h = omega (arith, half_twice P.k stage lt, small, h)

  pub into : (net : Net) (i : ℕ) → i < 2 → label P.k (wire_into P.k net stage j i) ≡ at i
  into net i h = let named : LabelsName P.k = each_is_named P.k in named.into net stage j i lt small h

  pub out : (net : Net) (i : ℕ) → i < 2 → label P.k (wire_out net stage j i) ≡ at i
  out net i h = let named : LabelsName P.k = each_is_named P.k in named.out net stage j i lt small h

  -- what comes to a queue of a switch, from either side of it
  request_comes : (R : Arrays) (net : Net) (before : Marks) (room : Room) (turn leave i o : ℕ) → i < 2 → o < 2
      → IsHead (λ (r : Request). r.place.«module») before b (at i) (head (queue_of (network R net).requests stage (at i)))
      → has leave (at i) ≡ leaves b (heads_of before) room turn (at i)
      → moved_request (moves P (states_of R)) (wire_into P.k net stage j i) ≡ if_leaves (has leave (label P.k (wire_into P.k net stage j i))) (queue_of (network R net).requests stage (label P.k (wire_into P.k net stage j i)))
      → comes b (heads_of before) room turn i (at o) ≡ is_some (request_to b o (moved_request (moves P (states_of R)) (wire_into P.k net stage j i)))
  request_comes R net before room turn leave i o ih oh shown set moved =
      let s = stands i ih in
      let t = stands o oh in
      let q = queue_of (network R net).requests stage (at i) in
      comes_is (λ (r : Request). r.place.«module») b i o (at i) (at o) before room turn (t.ports i) s.own t.own (s.ports o) (head q) shown
      ∙ ap is_some (request_sent b o (cond (leaves b (heads_of before) room turn (at i)) (head q) None))
      ∙ ap (λ l. is_some (request_to b o (cond l (head q) None))) (sym set)
      ∙ ap (λ x. is_some (request_to b o (if_leaves (has leave x) (queue_of (network R net).requests stage x)))) (sym (into net i ih))
      ∙ ap (λ m. is_some (request_to b o m)) (sym moved)

  reply_comes : (R : Arrays) (behind : Marks) (room : Room) (turn leave o i : ℕ) → o < 2 → i < 2
      → IsHead (λ (y : Reply). y.tag.proc) behind b (at o) (head (queue_of R.low.replies (suc stage) (at o)))
      → has leave (at o) ≡ leaves b (heads_of behind) room turn (at o)
      → moved_reply (moves P (states_of R)) (wire_out LowNet stage j o) ≡ if_leaves (has leave (label P.k (wire_out LowNet stage j o))) (queue_of R.low.replies (suc stage) (label P.k (wire_out LowNet stage j o)))
      → comes b (heads_of behind) room turn o (at i) ≡ is_some (reply_to b i (moved_reply (moves P (states_of R)) (wire_out LowNet stage j o)))
  reply_comes R behind room turn leave o i oh ih shown set moved =
      let s = stands o oh in
      let t = stands i ih in
      let q = queue_of R.low.replies (suc stage) (at o) in
      comes_is (λ (y : Reply). y.tag.proc) b o i (at o) (at i) behind room turn (t.ports o) s.own t.own (s.ports i) (head q) shown
      ∙ ap is_some (reply_sent b i (cond (leaves b (heads_of behind) room turn (at o)) (head q) None))
      ∙ ap (λ l. is_some (reply_to b i (cond l (head q) None))) (sym set)
      ∙ ap (λ x. is_some (reply_to b i (if_leaves (has leave x) (queue_of R.low.replies (suc stage) x)))) (sym (out LowNet o oh))
      ∙ ap (λ m. is_some (reply_to b i m)) (sym moved)

  -- and to a combining switch
  reply_comes_both : (R : Arrays) (behind : Marks) (room : Room) (turn leave o : ℕ) → o < 2
      → has behind.any (at o) ≡ is_some (head (queue_of R.comb.replies (suc stage) (at o)))
      → has leave (at o) ≡ leaves_both b behind.any room turn (at o)
      → moved_reply (moves P (states_of R)) (wire_out CombNet stage j o) ≡ if_leaves (has leave (label P.k (wire_out CombNet stage j o))) (queue_of R.comb.replies (suc stage) (label P.k (wire_out CombNet stage j o)))
      → comes_both b behind.any room turn o (at 0) ≡ is_some (moved_reply (moves P (states_of R)) (wire_out CombNet stage j o))
  reply_comes_both R behind room turn leave o oh any set moved =
      let s = stands o oh in
      let t = stands 0 (omega arith) in
      ap (λ n. (n == 0) && (has behind.any (port b o (at 0)) && takes_both b room turn o (at 0))) t.own
      ∙ ap (λ x. has behind.any x && takes_both b room turn o (at 0)) (t.ports o)
      ∙ ap (λ r. has behind.any (at o) && r) taken
      ∙ ap (λ n. has behind.any (at o) && takes_both b room turn n (at o)) (sym s.own)
      ∙ by_any (is_some (head (queue_of R.comb.replies (suc stage) (at o)))) refl
      ∙ ap (λ x. is_some (if_leaves (has leave x) (queue_of R.comb.replies (suc stage) x))) (sym (out CombNet o oh))
      ∙ ap is_some (sym moved)
    where
      -- both labels of a switch have its queues
      taken : takes_both b room turn o (at 0) ≡ takes_both b room turn o (at o)
      taken =
          let s = stands o oh in
          let t = stands 0 (omega arith) in
          ap (λ u. (has room.two u && has room.two (port b 1 (at 0))) || ((has room.one u && has room.one (port b 1 (at 0))) && (bit u turn == o))) (t.ports 0 ∙ sym (s.ports 0))
          ∙ ap (λ u. (has room.two (port b 0 (at o)) && has room.two u) || ((has room.one (port b 0 (at o)) && has room.one u) && (bit (port b 0 (at o)) turn == o))) (t.ports 1 ∙ sym (s.ports 1))

      leaving : Bool
      leaving = leaves_both b behind.any room turn (at o)

      by_any : (a : Bool) → is_some (head (queue_of R.comb.replies (suc stage) (at o))) ≡ a
          → leaves_both b behind.any room turn (at o) ≡ is_some (if_leaves (has leave (at o)) (queue_of R.comb.replies (suc stage) (at o)))
      by_any true e = sym (by_head (has leave (at o)) (head (queue_of R.comb.replies (suc stage) (at o))) e ∙ set)
        where
          by_head : (l : Bool) (m : Option Reply) → is_some m ≡ true → is_some (cond l m None) ≡ l
          by_head true m g = g
          by_head false m g = refl
      by_any false e =
          let none : leaves_both b behind.any room turn (at o) ≡ false = ap (λ t. t && takes_both b room turn (bit b (at o)) (at o)) (any ∙ e) in
          none ∙ sym (ap (λ l. is_some (cond l (head (queue_of R.comb.replies (suc stage) (at o))) None)) (set ∙ none))

  -- the marks of the levels say of each label what waits there
  request_head : (R : Arrays) (net : Net) → IsRowOf P R → (before : Marks) → MarksRequests (level_at (network R net).requests stage) before → (i : ℕ) → i < 2
      → IsHead (λ (r : Request). r.place.«module») before b (at i) (head (queue_of (network R net).requests stage (at i)))
  request_head R net of before marks i h =
      let s = stands i h in
      let asked = network_asked P R of net in
      head_at (λ (r : Request). r.place.«module») (level_at (network R net).requests stage).rule before b (at i) (queue_of (network R net).requests stage (at i))
      (head (queue_of (network R net).requests stage (at i))) (marks (at i) s.small) (ap (λ r. r.by) (asked.requests stage (omega (arith, lt))) ∙ forward_bit P.k stage lt) refl

  reply_head : (R : Arrays) → IsRowOf P R → (behind : Marks) → MarksReplies (level_at R.low.replies (suc stage)) behind → (o : ℕ) → o < 2
      → IsHead (λ (y : Reply). y.tag.proc) behind b (at o) (head (queue_of R.low.replies (suc stage) (at o)))
  reply_head R of behind marks o h =
      let s = stands o h in
      let asked = of.low in
      head_at (λ (y : Reply). y.tag.proc) (level_at R.low.replies (suc stage)).rule behind b (at o) (queue_of R.low.replies (suc stage) (at o))
      (head (queue_of R.low.replies (suc stage) (at o))) (marks (at o) s.small) (ap (λ r. r.by) (asked.replies (suc stage) (omega (arith, lt))) ∙ back_bit P.k stage lt) refl

pub rows_turn : RowsTurn
rows_turn P isp R row of = record {
  requests = λ net stage before behind leave next lt at_before at_behind set turns j o small oh.
      let decides = rows_decide P isp R row of in
      let turn = slice_index_or (network R net).turns stage 0 in
      let x = (stands P isp.small stage j lt small o oh).small in
      let from : (i : ℕ) → i < 2 → comes (P.k - 1 - stage) (heads_of before) (room_of behind) turn i (port_label P.k stage j o) ≡ is_some (request_to (P.k - 1 - stage) o (moved_request (moves P (states_of R)) (wire_into P.k net stage j i))) =
      (λ i ih. request_comes P isp.small stage j lt small R net before (room_of behind) turn leave i o ih oh (request_head P isp.small stage j lt small R net of before at_before i ih)
      (set (port_label P.k stage j i) (stands P isp.small stage j lt small i ih).small)
      (decides.requests net stage before behind leave lt at_before at_behind set (i * half P.k + j) (line_in P isp.small stage j lt small i ih))) in
      turns (port_label P.k stage j o) x ∙ turn_alike (bit (port_label P.k stage j o) turn) _ _ _ _ (from 0 (omega arith)) (from 1 (omega arith));
  low_replies = λ stage behind before leave next lt at_behind at_before set turns j i small ih.
      let decides = rows_decide P isp R row of in
      let turn = slice_index_or R.low.back_turns stage 0 in
      let x = (stands P isp.small stage j lt small i ih).small in
      let from : (o : ℕ) → o < 2 → comes (P.k - 1 - stage) (heads_of behind) (room_of before) turn o (port_label P.k stage j i) ≡ is_some (reply_to (P.k - 1 - stage) i (moved_reply (moves P (states_of R)) (wire_out LowNet stage j o))) =
      (λ o oh. reply_comes P isp.small stage j lt small R behind (room_of before) turn leave o i oh ih (reply_head P isp.small stage j lt small R of behind at_behind o oh)
      (set (port_label P.k stage j o) (stands P isp.small stage j lt small o oh).small)
      (decides.low_replies stage behind before leave lt at_behind at_before set (2 * j + o) (line_out P isp.small stage j lt small o oh))) in
      turns (port_label P.k stage j i) x ∙ turn_alike (bit (port_label P.k stage j i) turn) _ _ _ _ (from 0 (omega arith)) (from 1 (omega arith));
  comb_replies = λ stage behind before leave next lt at_behind at_before set turns j small.
      let decides = rows_decide P isp R row of in
      let turn = slice_index_or R.comb.back_turns stage 0 in
      let z = switch_label P.k stage j in
      let first : port_label P.k stage j 0 ≡ z = none (switch_label P.k stage j) (2 ^ (P.k - 1 - stage)) in
      let x = (stands P isp.small stage j lt small 0 (omega arith)).small in
      let from : (o : ℕ) → o < 2 → comes_both (P.k - 1 - stage) behind.any (room_of before) turn o (port_label P.k stage j 0) ≡ is_some (moved_reply (moves P (states_of R)) (wire_out CombNet stage j o)) =
      (λ o oh. reply_comes_both P isp.small stage j lt small R behind (room_of before) turn leave o oh
      (ap (λ t. t.any) (at_behind (port_label P.k stage j o) (stands P isp.small stage j lt small o oh).small))
      (set (port_label P.k stage j o) (stands P isp.small stage j lt small o oh).small)
      (decides.comb_replies stage behind before leave lt at_behind at_before set (2 * j + o) (line_out P isp.small stage j lt small o oh))) in
      ap (λ y. bit y next) (sym first)
      ∙ turns (port_label P.k stage j 0) x ∙ turn_alike (bit (port_label P.k stage j 0) turn) _ _ _ _ (from 0 (omega arith)) (from 1 (omega arith))
      ∙ ap (λ y. turn_after (bit y turn) (is_some (moved_reply (moves P (states_of R)) (wire_out CombNet stage j 0))) (is_some (moved_reply (moves P (states_of R)) (wire_out CombNet stage j 1)))) first;
}
  where
    none : (a d : ℕ) → a + 0 * d ≡ a
    none a d = omega arith
