-- What a stage decides from marks is what moves over its wires.
use Rattle.std.proofs.Common.{◌≡◌, ℕ, zero, suc, ◌+◌, ◌-◌, ◌*◌, ◌/◌, ◌%◌, ◌^◌, ◌<◌, ◌≤◌, Bool, true, false, cond, List, refl, ap, sym, ◌∙◌, Option, None, Some, arith}
use Rattle.std.specs.Prelude.{◌==◌, ◌&&◌, ◌||◌, nat_le, min, is_some, slice_get}
use Rattle.std.proofs.lemmas.Bool.{eqb-true, eq-eqb, le-leb}
use Rattle.std.proofs.lemmas.Bool.Decides.{nat_tests}
use Rattle.std.proofs.lemmas.Nat.{div-mul-add}
use Rattle.std.proofs.lemmas.Nat.Bits.{bit_at-lt}
use Rattle.std.proofs.Math.Nat.{mod-lt, mod-add-div'}
use Rattle.std.proofs.Math.Pow.{pow_mono}
use Rattle.omega_net.specs.declared.component.Net.{Net}
use Rattle.omega_net.specs.declared.component.Net.TheVariants.{Low as LowNet, Comb as CombNet}
use Rattle.omega_net.specs.declared.component.Component.TheVariants.{Proc as ProcAt, Module as ModuleAt, Switch}
use Rattle.omega_net.specs.declared.message.Request.{Request}
use Rattle.omega_net.specs.declared.message.Reply.{Reply}
use Rattle.omega_net.specs.Numbers.{half, number_of}
use Rattle.omega_net.specs.Wires.{bit, lower_end, net_number}
use Rattle.omega_net.specs.Queues.{free, head}
use Rattle.omega_net.specs.Ports.{queue_at}
use Rattle.omega_net.proofs.Numbering.{half_twice, half_some}
use Rattle.omega_net.proofs.Ends.{input_within}
use Rattle.ref_proc.specs.declared.state.ProcState.{ProcState}
use Rattle.ref_proc.specs.RefProc.{net_for}
use Rattle.mem_module.specs.declared.state.ModuleState.{ModuleState}
use Rattle.mem_module.specs.MemModule.{chosen, can_serve, served_net}
use Rattle.machine_cells.specs.declared.state.MachineState.{MachineState}
use Rattle.machine_cells.specs.declared.state.MachineState.TheVariants.{Proc, Module, Low, Comb}
use Rattle.project_book.specs.Project.{Project, reverse, depth_of}
use Rattle.project_book.specs.declared.edit.Depths.TheVariants.{ModuleQueue}
use Rattle.machine_cells.specs.Moves.{moves, moved_request, moved_reply, request_between, reply_between, at_ends, if_taken, takes_request, takes_request_at, takes_reply, takes_reply_at, request_on, reply_on, upper_state, lower_state}
use Rattle.machine_cells.proofs.Parts.{request_moved, reply_moved}
use Rattle.flat_row.specs.declared.marks.Marks.{Marks}
use Rattle.flat_row.specs.declared.decide.Room.{Room}
use Rattle.flat_row.specs.Labels.{rotated_right, switch_label, port, LabelsName}
use Rattle.flat_row.specs.Masks.{has, IsSetOf}
use Rattle.flat_row.specs.Decisions.{takes_from, leaves, takes_both, leaves_both, served_at}
use Rattle.flat_row.specs.Shows.{on_line, IsHead, IsRoom, IsQueues, IsLowBack, IsCombBack, ShowsModule, heads_of, room_of, StagesDecide, EndsDecide}
use Rattle.flat_row.proofs.Labelling.{each_is_named}

-- a head leaves exactly where it is taken
module _ {T : Type 0} where
  taken : (takes : T → Bool) (m : T) (r : Bool) → r ≡ is_some (cond r (Some m) None)
  taken takes m true = refl
  taken takes m false = refl

  leaves_if_taken : (route : T → ℕ) (b x : ℕ) (before : Marks) (room : Room) (turn : ℕ) (shown : Option T) (takes : T → Bool)
      → IsHead route before b x shown
      → ((m : T) → bit x before.asks ≡ bit b (route m) → takes_from room turn (bit b x) (port b (bit x before.asks) x) ≡ takes m)
      → leaves b (heads_of before) room turn x ≡ is_some (if_taken takes shown)
  leaves_if_taken route b x before room turn None takes h t = ap (λ a. a && takes_from room turn (bit b x) (port b (bit x before.asks) x)) h
  leaves_if_taken route b x before room turn (Some m) takes h t =
      ap (λ a. a && takes_from room turn (bit b x) (port b (bit x before.asks) x)) h.0 ∙ t m h.1 ∙ taken takes m (takes m)

-- room for two, or for one at its turn
places : (f : ℕ) (t : Bool) → (nat_le 2 f || (nat_le 1 f && t)) ≡ (nat_le 2 f || ((f == 1) && t))
places zero t = refl
places (suc zero) t = refl
places (suc (suc f)) t =
    let e : nat_le 2 (suc (suc f)) ≡ true = le-leb 2 (suc (suc f)) (omega arith) in
    ap (λ b. b || (nat_le 1 (suc (suc f)) && t)) e ∙ sym (ap (λ b. b || ((suc (suc f) == 1) && t)) e)

room_is : (marks : Marks) (y turn turn' i f : ℕ) → IsRoom 2 1 marks y f → bit y turn ≡ turn'
    → takes_from (room_of marks) turn i y ≡ (nat_le 2 f || ((f == 1) && (turn' == i)))
room_is marks y turn turn' i f r e =
    ap (λ a. a || (has marks.one y && (bit y turn == i))) r.0
    ∙ ap (λ a. nat_le 2 f || (a && (bit y turn == i))) r.1
    ∙ ap (λ n. nat_le 2 f || (nat_le 1 f && (n == i))) e
    ∙ places f (turn' == i)

queue_takes : (net : Net) (P : Project) (marks : Marks) (turn y stage j l : ℕ) (m : Request) (t : MachineState)
    → IsQueues net P marks turn (bit (P.k - 1 - stage) m.place.«module») y t
    → takes_from (room_of marks) turn (l / half P.k) y ≡ takes_request_at P (on_line net stage l) m (Switch net stage j) t
queue_takes LowNet P marks turn y stage j l m (Low s) q = room_is marks y turn _ (l / half P.k) _ q.0 q.1
queue_takes LowNet P marks turn y stage j l m (Comb s) q = absurd q
queue_takes LowNet P marks turn y stage j l m (Proc s) q = absurd q
queue_takes LowNet P marks turn y stage j l m (Module s) q = absurd q
queue_takes CombNet P marks turn y stage j l m (Comb s) q = room_is marks y turn _ (l / half P.k) _ q.0 q.1
queue_takes CombNet P marks turn y stage j l m (Low s) q = absurd q
queue_takes CombNet P marks turn y stage j l m (Proc s) q = absurd q
queue_takes CombNet P marks turn y stage j l m (Module s) q = absurd q

low_takes : (P : Project) (marks : Marks) (turn y stage j l : ℕ) (m : Reply) (t : MachineState)
    → IsLowBack P marks turn (bit (P.k - 1 - stage) m.tag.proc) y t
    → takes_from (room_of marks) turn (l % 2) y ≡ takes_reply_at P (on_line LowNet (suc stage) l) m (Switch LowNet stage j) t
low_takes P marks turn y stage j l m (Low s) q = room_is marks y turn _ (l % 2) _ q.0 q.1
low_takes P marks turn y stage j l m (Comb s) q = absurd q
low_takes P marks turn y stage j l m (Proc s) q = absurd q
low_takes P marks turn y stage j l m (Module s) q = absurd q

-- room in both queues
both_rooms : (n a b : ℕ) → (nat_le n a && nat_le n b) ≡ nat_le n (min a b)
both_rooms n a b = grind (arith, nat_tests)

comb_takes : (P : Project) (marks : Marks) (turn x y z stage j l : ℕ) (m : Reply) (t : MachineState) → (b : ℕ) → port b 0 z ≡ x → port b 1 z ≡ y
    → IsCombBack P marks turn x y t
    → takes_both b (room_of marks) turn (l % 2) z ≡ takes_reply_at P (on_line CombNet (suc stage) l) m (Switch CombNet stage j) t
comb_takes P marks turn x y z stage j l m (Comb s) b e f q =
    ap (λ u. (has marks.two u && has marks.two (port b 1 z)) || ((has marks.one u && has marks.one (port b 1 z)) && (bit u turn == l % 2))) e
    ∙ ap (λ u. (has marks.two x && has marks.two u) || ((has marks.one x && has marks.one u) && (bit x turn == l % 2))) f
    ∙ ap (λ a. (a && has marks.two y) || ((has marks.one x && has marks.one y) && (bit x turn == l % 2))) q.0.0
    ∙ ap (λ a. (nat_le 4 (free (reverse P CombNet) (queue_at s.rev 0)) && a) || ((has marks.one x && has marks.one y) && (bit x turn == l % 2))) q.1.0
    ∙ ap (λ a. a || ((has marks.one x && has marks.one y) && (bit x turn == l % 2))) (both_rooms 4 _ _)
    ∙ ap (λ a. nat_le 4 (min (free (reverse P CombNet) (queue_at s.rev 0)) (free (reverse P CombNet) (queue_at s.rev 1))) || ((a && has marks.one y) && (bit x turn == l % 2))) q.0.1
    ∙ ap (λ a. nat_le 4 (min (free (reverse P CombNet) (queue_at s.rev 0)) (free (reverse P CombNet) (queue_at s.rev 1))) || ((nat_le 2 (free (reverse P CombNet) (queue_at s.rev 0)) && a) && (bit x turn == l % 2))) q.1.1
    ∙ ap (λ a. nat_le 4 (min (free (reverse P CombNet) (queue_at s.rev 0)) (free (reverse P CombNet) (queue_at s.rev 1))) || (a && (bit x turn == l % 2))) (both_rooms 2 _ _)
    ∙ ap (λ n. nat_le 4 (min (free (reverse P CombNet) (queue_at s.rev 0)) (free (reverse P CombNet) (queue_at s.rev 1))) || (nat_le 2 (min (free (reverse P CombNet) (queue_at s.rev 0)) (free (reverse P CombNet) (queue_at s.rev 1))) && (n == l % 2))) q.2
comb_takes P marks turn x y z stage j l m (Low s) b e f q = absurd q
comb_takes P marks turn x y z stage j l m (Proc s) b e f q = absurd q
comb_takes P marks turn x y z stage j l m (Module s) b e f q = absurd q

-- the switch that a line meets before a stage
meets : (k : ℕ) (net : Net) (s l : ℕ) → s < k → lower_end k (on_line net s l) ≡ Switch net s (l % half k)
meets k net s l lt = by_test (s == k) refl
  where
    by_test : (t : Bool) → (s == k) ≡ t → cond t (ModuleAt l) (Switch net s (l % half k)) ≡ Switch net s (l % half k)
    by_test true e = let same : s ≡ k = eqb-true s k e in absurd (omega arith)
    by_test false e = refl

-- where a label stands: at the port that is its deciding bit
pub record StandsAt (k s j i x : ℕ) : Type 0 where
  pub small : x < 64
  pub own : bit (k - 1 - s) x ≡ i
  pub ports : (o : ℕ) → port (k - 1 - s) o x ≡ switch_label k s j + o * 2 ^ (k - 1 - s)

pub stands_at : (k s j i x : ℕ) → k ≤ 6 → s < k → j < half k → i < 2 → x ≡ switch_label k s j + i * 2 ^ (k - 1 - s) → x < 2 ^ k → StandsAt k s j i x
stands_at k s j i x few lt jl il e within = record {
  small = let most : 2 ^ k ≤ 64 = pow_mono few in omega arith;
  own = own;
  ports = λ o. ap (λ n. x - n * 2 ^ (k - 1 - s) + o * 2 ^ (k - 1 - s)) own ∙ ap (λ n. n - i * 2 ^ (k - 1 - s) + o * 2 ^ (k - 1 - s)) e ∙ cancel (switch_label k s j) (i * 2 ^ (k - 1 - s)) (o * 2 ^ (k - 1 - s));
}
  where
    named : LabelsName k
    named = each_is_named k

    cancel : (a p r : ℕ) → a + p - p + r ≡ a + r
    cancel a p r = omega arith

    line : i * half k + j < 2 ^ k
    line = let two : half k + half k ≡ 2 ^ k = half_twice k s lt in below i il two
      where
        below : (n : ℕ) → n < 2 → half k + half k ≡ 2 ^ k → n * half k + j < 2 ^ k
        below zero n two = omega arith
        below (suc zero) n two = omega arith
        below (suc (suc n)) h two = absurd (omega arith)

    own : bit (k - 1 - s) x ≡ i
    own = ap (bit (k - 1 - s)) (e ∙ sym (named.into LowNet s j i lt jl il)) ∙ named.input s (i * half k + j) lt line ∙ div-mul-add i (half k) j jl

before_stands : (k s l : ℕ) → k ≤ 6 → s < k → l < 2 ^ k → StandsAt k s (l % half k) (l / half k) (rotated_right k s l)
before_stands k s l few lt within =
    let named : LabelsName k = each_is_named k in
    let small : l % half k < half k = mod-lt l (half_some k s lt) in
    let port : l / half k < 2 = input_within k (on_line LowNet s l) (omega arith, within) in
    let whole : l ≡ l / half k * half k + l % half k = omega (arith, mod-add-div' l (half k)) in
    stands_at k s (l % half k) (l / half k) (rotated_right k s l) few lt small port
    (ap (rotated_right k s) whole ∙ named.into LowNet s (l % half k) (l / half k) lt small port) (named.within s l (omega arith) within)

behind_stands : (k s l : ℕ) → k ≤ 6 → s < k → l < 2 ^ k → StandsAt k s (l / 2) (l % 2) (rotated_right k (suc s) l)
behind_stands k s l few lt within =
    let named : LabelsName k = each_is_named k in
    let small : l / 2 < half k = omega (arith, half_twice k s lt) in
    let port : l % 2 < 2 = omega arith in
    let whole : l ≡ 2 * (l / 2) + l % 2 = omega arith in
    stands_at k s (l / 2) (l % 2) (rotated_right k (suc s) l) few lt small port
    (ap (rotated_right k (suc s)) whole ∙ named.out LowNet s (l / 2) (l % 2) lt small port) (named.within (suc s) l (omega arith) within)

-- between two states
over_ends : {X : Type 0} (f : MachineState → MachineState → Option X) (u t : MachineState) (a b : Option MachineState) → a ≡ Some u → b ≡ Some t → at_ends f a b ≡ f u t
over_ends f u t a b e g = ap (λ o. at_ends f o b) e ∙ ap (λ o. at_ends f (Some u) o) g

-- over a stage's wires, where the states at their ends are known
requests_over : (P : Project) (S : List MachineState) (net : Net) (stage l : ℕ) (before behind : Marks) (turn leave : ℕ) (u t : MachineState)
    → stage < P.k → l < 2 ^ P.k → StandsAt P.k stage (l % half P.k) (l / half P.k) (rotated_right P.k stage l)
    → upper_state P S (on_line net stage l) ≡ Some u → slice_get S (number_of P.k (Switch net stage (l % half P.k))) ≡ Some t
    → IsHead (λ (r : Request). r.place.«module») before (P.k - 1 - stage) (rotated_right P.k stage l) (request_on (on_line net stage l) u)
    → ((o : ℕ) → o < 2 → IsQueues net P behind turn o (switch_label P.k stage (l % half P.k) + o * 2 ^ (P.k - 1 - stage)) t)
    → IsSetOf (leaves (P.k - 1 - stage) (heads_of before) (room_of behind) turn) leave
    → has leave (rotated_right P.k stage l) ≡ is_some (moved_request (moves P S) (on_line net stage l))
requests_over P S net stage l before behind turn leave u t lt within at up low head queues set =
    set (rotated_right P.k stage l) at.small
    ∙ leaves_if_taken (λ (r : Request). r.place.«module») (P.k - 1 - stage) (rotated_right P.k stage l) before (room_of behind) turn
    (request_on (on_line net stage l) u) (λ r. takes_request P (on_line net stage l) r t) head each
    ∙ ap is_some (sym (over_ends (request_between P (on_line net stage l)) u t _ _ up (ap (λ c. slice_get S (number_of P.k c)) (meets P.k net stage l lt) ∙ low)))
    ∙ ap is_some (sym (request_moved P S (on_line net stage l) (omega arith) within))
  where
    each : (m : Request) → bit (rotated_right P.k stage l) before.asks ≡ bit (P.k - 1 - stage) m.place.«module»
        → takes_from (room_of behind) turn (bit (P.k - 1 - stage) (rotated_right P.k stage l)) (port (P.k - 1 - stage) (bit (rotated_right P.k stage l) before.asks) (rotated_right P.k stage l))
        ≡ takes_request P (on_line net stage l) m t
    each m e =
        ap (λ a. takes_from (room_of behind) turn (bit (P.k - 1 - stage) (rotated_right P.k stage l)) (port (P.k - 1 - stage) a (rotated_right P.k stage l))) e
        ∙ ap (λ n. takes_from (room_of behind) turn n (port (P.k - 1 - stage) (bit (P.k - 1 - stage) m.place.«module») (rotated_right P.k stage l))) at.own
        ∙ ap (λ y. takes_from (room_of behind) turn (l / half P.k) y) (at.ports (bit (P.k - 1 - stage) m.place.«module»))
        ∙ queue_takes net P behind turn _ stage (l % half P.k) l m t (queues (bit (P.k - 1 - stage) m.place.«module») (bit_at-lt m.place.«module» (P.k - 1 - stage)))
        ∙ ap (λ c. takes_request_at P (on_line net stage l) m c t) (sym (meets P.k net stage l lt))

low_replies_over : (P : Project) (S : List MachineState) (stage l : ℕ) (behind before : Marks) (turn leave : ℕ) (u t : MachineState)
    → stage < P.k → l < 2 ^ P.k → StandsAt P.k stage (l / 2) (l % 2) (rotated_right P.k (suc stage) l)
    → lower_state P S (on_line LowNet (suc stage) l) ≡ Some u → slice_get S (number_of P.k (Switch LowNet stage (l / 2))) ≡ Some t
    → IsHead (λ (y : Reply). y.tag.proc) behind (P.k - 1 - stage) (rotated_right P.k (suc stage) l) (reply_on P.k (on_line LowNet (suc stage) l) u)
    → ((i : ℕ) → i < 2 → IsLowBack P before turn i (switch_label P.k stage (l / 2) + i * 2 ^ (P.k - 1 - stage)) t)
    → IsSetOf (leaves (P.k - 1 - stage) (heads_of behind) (room_of before) turn) leave
    → has leave (rotated_right P.k (suc stage) l) ≡ is_some (moved_reply (moves P S) (on_line LowNet (suc stage) l))
low_replies_over P S stage l behind before turn leave u t lt within at low up head queues set =
    set (rotated_right P.k (suc stage) l) at.small
    ∙ leaves_if_taken (λ (y : Reply). y.tag.proc) (P.k - 1 - stage) (rotated_right P.k (suc stage) l) behind (room_of before) turn
    (reply_on P.k (on_line LowNet (suc stage) l) u) (λ y. takes_reply P (on_line LowNet (suc stage) l) y t) head each
    ∙ ap is_some (sym (over_ends (reply_between P (on_line LowNet (suc stage) l)) t u _ _ up low))
    ∙ ap is_some (sym (reply_moved P S (on_line LowNet (suc stage) l) (omega arith) within))
  where
    each : (m : Reply) → bit (rotated_right P.k (suc stage) l) behind.asks ≡ bit (P.k - 1 - stage) m.tag.proc
        → takes_from (room_of before) turn (bit (P.k - 1 - stage) (rotated_right P.k (suc stage) l)) (port (P.k - 1 - stage) (bit (rotated_right P.k (suc stage) l) behind.asks) (rotated_right P.k (suc stage) l))
        ≡ takes_reply P (on_line LowNet (suc stage) l) m t
    each m e =
        ap (λ a. takes_from (room_of before) turn (bit (P.k - 1 - stage) (rotated_right P.k (suc stage) l)) (port (P.k - 1 - stage) a (rotated_right P.k (suc stage) l))) e
        ∙ ap (λ n. takes_from (room_of before) turn n (port (P.k - 1 - stage) (bit (P.k - 1 - stage) m.tag.proc) (rotated_right P.k (suc stage) l))) at.own
        ∙ ap (λ y. takes_from (room_of before) turn (l % 2) y) (at.ports (bit (P.k - 1 - stage) m.tag.proc))
        ∙ low_takes P before turn _ stage (l / 2) l m t (queues (bit (P.k - 1 - stage) m.tag.proc) (bit_at-lt m.tag.proc (P.k - 1 - stage)))

comb_replies_over : (P : Project) (S : List MachineState) (stage l : ℕ) (behind before : Marks) (turn leave : ℕ) (u t : MachineState)
    → stage < P.k → l < 2 ^ P.k → StandsAt P.k stage (l / 2) (l % 2) (rotated_right P.k (suc stage) l)
    → lower_state P S (on_line CombNet (suc stage) l) ≡ Some u → slice_get S (number_of P.k (Switch CombNet stage (l / 2))) ≡ Some t
    → has behind.any (rotated_right P.k (suc stage) l) ≡ is_some (reply_on P.k (on_line CombNet (suc stage) l) u)
    → IsCombBack P before turn (switch_label P.k stage (l / 2)) (switch_label P.k stage (l / 2) + 2 ^ (P.k - 1 - stage)) t
    → IsSetOf (leaves_both (P.k - 1 - stage) behind.any (room_of before) turn) leave
    → has leave (rotated_right P.k (suc stage) l) ≡ is_some (moved_reply (moves P S) (on_line CombNet (suc stage) l))
comb_replies_over P S stage l behind before turn leave u t lt within at low up head queues set =
    set (rotated_right P.k (suc stage) l) at.small
    ∙ by_shown (reply_on P.k (on_line CombNet (suc stage) l) u) head
    ∙ ap is_some (sym (over_ends (reply_between P (on_line CombNet (suc stage) l)) t u _ _ up low))
    ∙ ap is_some (sym (reply_moved P S (on_line CombNet (suc stage) l) (omega arith) within))
  where
    none : (a d : ℕ) → a + 0 * d ≡ a
    none a d = omega arith

    one : (a d : ℕ) → a + 1 * d ≡ a + d
    one a d = omega arith

    taken_by : (m : Reply) → takes_both (P.k - 1 - stage) (room_of before) turn (bit (P.k - 1 - stage) (rotated_right P.k (suc stage) l)) (rotated_right P.k (suc stage) l)
        ≡ takes_reply P (on_line CombNet (suc stage) l) m t
    taken_by m =
        ap (λ n. takes_both (P.k - 1 - stage) (room_of before) turn n (rotated_right P.k (suc stage) l)) at.own
        ∙ comb_takes P before turn _ _ (rotated_right P.k (suc stage) l) stage (l / 2) l m t (P.k - 1 - stage)
        (at.ports 0 ∙ none (switch_label P.k stage (l / 2)) (2 ^ (P.k - 1 - stage))) (at.ports 1 ∙ one (switch_label P.k stage (l / 2)) (2 ^ (P.k - 1 - stage))) queues

    by_shown : (o : Option Reply) → has behind.any (rotated_right P.k (suc stage) l) ≡ is_some o
        → leaves_both (P.k - 1 - stage) behind.any (room_of before) turn (rotated_right P.k (suc stage) l) ≡ is_some (if_taken (λ y. takes_reply P (on_line CombNet (suc stage) l) y t) o)
    by_shown None h = ap (λ a. a && takes_both (P.k - 1 - stage) (room_of before) turn (bit (P.k - 1 - stage) (rotated_right P.k (suc stage) l)) (rotated_right P.k (suc stage) l)) h
    by_shown (Some m) h =
        ap (λ a. a && takes_both (P.k - 1 - stage) (room_of before) turn (bit (P.k - 1 - stage) (rotated_right P.k (suc stage) l)) (rotated_right P.k (suc stage) l)) h
        ∙ taken_by m
        ∙ taken (λ y. takes_reply P (on_line CombNet (suc stage) l) y t) m (takes_reply P (on_line CombNet (suc stage) l) m t)

pub stages_decide : StagesDecide
stages_decide P isp S stage lt = record {
  requests = λ net before behind turn leave shows set l within.
      let head = shows.heads l within in
      let queue = shows.queues (l % half P.k) (mod-lt l (half_some P.k stage lt)) in
      requests_over P S net stage l before behind turn leave head.0 queue.0 lt within (before_stands P.k stage l isp.small lt within) head.1 queue.1 head.2 queue.2 set;
  low_replies = λ behind before turn leave shows set l within.
      let head = shows.heads l within in
      let queue = shows.queues (l / 2) (omega (arith, half_twice P.k stage lt)) in
      low_replies_over P S stage l behind before turn leave head.0 queue.0 lt within (behind_stands P.k stage l isp.small lt within) head.1 queue.1 head.2 queue.2 set;
  comb_replies = λ behind before turn leave shows set l within.
      let head = shows.heads l within in
      let queue = shows.queues (l / 2) (omega (arith, half_twice P.k stage lt)) in
      comb_replies_over P S stage l behind before turn leave head.0 queue.0 lt within (behind_stands P.k stage l isp.small lt within) head.1 queue.1 head.2 queue.2 set;
}

-- at modules and processors
meets_module : (k : ℕ) (net : Net) (l : ℕ) → lower_end k (on_line net k l) ≡ ModuleAt l
meets_module k net l = ap (λ t. cond t (ModuleAt l) (Switch net k (l % half k))) (eq-eqb k k refl)

label_small : (k l : ℕ) → k ≤ 6 → l < 2 ^ k → l < 64
label_small k l few within = let most : 2 ^ k ≤ 64 = pow_mono few in omega arith

enters : (P : Project) (S : List MachineState) (net : Net) (l : ℕ) (before behind : Marks) (u : MachineState) (s : ModuleState) → l < 2 ^ P.k
    → upper_state P S (on_line net P.k l) ≡ Some u → slice_get S (number_of P.k (ModuleAt l)) ≡ Some (Module s)
    → has before.any (rotated_right P.k P.k l) ≡ is_some (request_on (on_line net P.k l) u)
    → has behind.one l ≡ nat_le 1 (free (depth_of P ModuleQueue) (queue_at s.requests (net_number net)))
    → (has before.any (rotated_right P.k P.k l) && has behind.one (rotated_right P.k P.k l)) ≡ is_some (moved_request (moves P S) (on_line net P.k l))
enters P S net l before behind u s within up low head room =
    ap (λ x. has before.any (rotated_right P.k P.k l) && has behind.one x) (modules_named within)
    ∙ by_shown (request_on (on_line net P.k l) u) head
    ∙ ap is_some (sym (over_ends (request_between P (on_line net P.k l)) u (Module s) _ _ up (ap (λ c. slice_get S (number_of P.k c)) (meets_module P.k net l) ∙ low)))
    ∙ ap is_some (sym (request_moved P S (on_line net P.k l) (omega arith) within))
  where
    modules_named : l < 2 ^ P.k → rotated_right P.k P.k l ≡ l
    modules_named h = let named : LabelsName P.k = each_is_named P.k in named.modules l h

    takes_is : (r : Request) → nat_le 1 (free (depth_of P ModuleQueue) (queue_at s.requests (net_number net))) ≡ takes_request P (on_line net P.k l) r (Module s)
    takes_is r = ap (λ c. takes_request_at P (on_line net P.k l) r c (Module s)) (sym (meets_module P.k net l))

    by_shown : (o : Option Request) → has before.any (rotated_right P.k P.k l) ≡ is_some o
        → (has before.any (rotated_right P.k P.k l) && has behind.one l) ≡ is_some (if_taken (λ r. takes_request P (on_line net P.k l) r (Module s)) o)
    by_shown None h = ap (λ a. a && has behind.one l) h
    by_shown (Some r) h =
        ap (λ a. a && has behind.one l) h ∙ room ∙ takes_is r
        ∙ taken (λ r. takes_request P (on_line net P.k l) r (Module s)) r (takes_request P (on_line net P.k l) r (Module s))

received : (P : Project) (S : List MachineState) (net : Net) (l : ℕ) (behind : Marks) (u : MachineState) (s : ProcState) → l < 2 ^ P.k
    → lower_state P S (on_line net 0 l) ≡ Some u → slice_get S (number_of P.k (ProcAt l)) ≡ Some (Proc s)
    → has behind.any (rotated_right P.k 0 l) ≡ is_some (reply_on P.k (on_line net 0 l) u)
    → has behind.any (rotated_right P.k 0 l) ≡ is_some (moved_reply (moves P S) (on_line net 0 l))
received P S net l behind u s within low up head =
    head
    ∙ by_shown (reply_on P.k (on_line net 0 l) u)
    ∙ ap is_some (sym (over_ends (reply_between P (on_line net 0 l)) (Proc s) u _ _ up low))
    ∙ ap is_some (sym (reply_moved P S (on_line net 0 l) (omega arith) within))
  where
    by_shown : (o : Option Reply) → is_some o ≡ is_some (if_taken (λ y. takes_reply P (on_line net 0 l) y (Proc s)) o)
    by_shown None = refl
    by_shown (Some y) = refl

serves : (P : Project) (s : ModuleState) (m low comb turn : ℕ) (low_requests comb_requests low_replies comb_replies : Marks) → m < 64
    → ShowsModule P s m low_requests comb_requests low_replies comb_replies turn
    → IsSetOf (λ x. has low_requests.any x && has low_replies.one x) low → IsSetOf (λ x. has comb_requests.any x && has comb_replies.one x) comb
    → served_at low comb turn m ≡ served_net s (depth_of P ModuleQueue)
serves P s m low comb turn low_requests comb_requests low_replies comb_replies small shows p q =
    ap (λ a. chosen a (has comb m) (net_for (has turn m)))
    (p m small ∙ ap (λ a. a && has low_replies.one m) shows.low_any ∙ ap (λ a. is_some (head (queue_at s.requests 0)) && a) shows.low_room)
    ∙ ap (λ a. chosen (can_serve s (depth_of P ModuleQueue) LowNet) a (net_for (has turn m)))
    (q m small ∙ ap (λ a. a && has comb_replies.one m) shows.comb_any ∙ ap (λ a. is_some (head (queue_at s.requests 1)) && a) shows.comb_room)
    ∙ ap (λ n. chosen (can_serve s (depth_of P ModuleQueue) LowNet) (can_serve s (depth_of P ModuleQueue) CombNet) n) shows.turns

pub ends_decide : EndsDecide
ends_decide P isp S = record {
  requests = λ net before behind shows l within.
      let head = shows.heads l within in
      let queue = shows.modules l within in
      enters P S net l before behind head.0 queue.0 within head.1 queue.1 head.2 queue.2;
  replies = λ net behind shows l within.
      let head = shows.heads l within in
      let proc = shows.processors l within in
      received P S net l behind head.0 proc.0 within head.1 proc.1 head.2;
  served = λ s m low comb turn lq cq lr cr within shows p q. serves P s m low comb turn lq cq lr cr (label_small P.k m isp.small within) shows p q;
}
