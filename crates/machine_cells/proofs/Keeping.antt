-- No message of a project's machine is lost.
use Rattle.std.proofs.Common.{◌≡◌, ℕ, zero, suc, ◌-◌, ◌/◌, ◌%◌, ◌^◌, ◌<◌, ◌≤◌, Bool, true, false, cond, List, ◌++◌, length, refl, ap, sym, ◌∙◌, subst, inl, inr, Option, None, Some, arith}
use Rattle.std.specs.Prelude.{is_some, nat_le, ◌==◌, ◌&&◌, ◌||◌, ◌⊎◌, IfSome, slice_get, slice_index, option_map}
use Rattle.std.specs.List.{Contains}
use Rattle.std.specs.Option.{option_to_list}
use Rattle.std.proofs.Math.Nat.{mod-lt}
use Rattle.std.proofs.lemmas.Nat.{div-mul-add, div-add-mod'}
use Rattle.std.proofs.lemmas.Bool.Decides.{nat_tests}
use Rattle.std.proofs.lemmas.Bool.{eqb-true, eq-eqb, leb-true, and_parts, false≢true}
use Rattle.std.proofs.lemmas.List.Elements.{Contains-append_left, Contains-append_right, Contains-push}
use Rattle.arrayvec.specs.ArrayVec.{ArrayVec}
use Rattle.omega_net.specs.declared.component.Net.{Net}
use Rattle.omega_net.specs.declared.component.Net.TheVariants.{Low as LowNet, Comb as CombNet}
use Rattle.omega_net.specs.declared.component.Component.{Component}
use Rattle.omega_net.specs.declared.component.Component.TheVariants.{Proc as ProcAt, Module as ModuleAt, Switch}
use Rattle.omega_net.specs.declared.message.Request.{Request}
use Rattle.omega_net.specs.declared.message.Reply.{Reply}
use Rattle.omega_net.specs.declared.message.Traffic.{Traffic}
use Rattle.omega_net.specs.declared.script.ScriptEntry.{ScriptEntry}
use Rattle.omega_net.specs.declared.script.ScriptEntry.TheVariants.{Reference, Until, Fence, Idle}
use Rattle.omega_net.specs.declared.wire.Wire.{Wire}
use Rattle.omega_net.specs.Limits.{queue_places}
use Rattle.omega_net.specs.Numbers.{half, number_of, Exists}
use Rattle.omega_net.specs.Wires.{IsWire, bit, upper_end, lower_end, input_of, output_of, net_number, wire_of_proc, wire_of_module, wire_into, wire_out}
use Rattle.omega_net.specs.Queues.{head, has_room, without_head, queue_after}
use Rattle.omega_net.specs.Ports.{queue_at, message_at, request_to, reply_to}
use Rattle.omega_net.specs.Kept.{KeepsAll}
use Rattle.omega_net.proofs.Numbering.{half_some, half_twice}
use Rattle.omega_net.proofs.Ends.{into_ends, out_begins, into_line, out_line, input_port}
use Rattle.omega_net.proofs.Keeping.{joined_in, shorter, nothing_is_lost}
use Rattle.omega_net.proofs.Wiring.{wire_is}
use Rattle.ref_proc.specs.declared.state.ProcState.{ProcState}
use Rattle.ref_proc.specs.declared.step.ProcSettings.{ProcSettings}
use Rattle.ref_proc.specs.RefProc.{acting, next_entry, spending, issuing, referring, tries, has_brought, taking}
use Rattle.mem_module.specs.declared.state.ModuleState.{ModuleState}
use Rattle.mem_module.specs.declared.step.ModuleTraffic.{ModuleTraffic}
use Rattle.mem_module.specs.Memory.{word_at}
use Rattle.mem_module.specs.MemModule.{module_takes_request, can_serve, chosen, served_net, served_on, is_net, answer_to, answer_if, module_after}
use Rattle.low_switch.specs.declared.state.LowState.{LowState}
use Rattle.low_switch.specs.LowSwitch.{low_takes_request, low_takes_reply, low_after, fwd_after, rev_after}
use Rattle.comb_switch.specs.declared.waiting.Waiting.{Waiting}
use Rattle.comb_switch.specs.declared.state.CombState.{CombState}
use Rattle.comb_switch.specs.CombSwitch.{comb_takes_request, comb_takes_reply}
use Rattle.comb_switch.specs.Held.{HasAll}
use Rattle.comb_switch.proofs.Holding.{messages_are_held}
use Rattle.project_book.specs.declared.edit.Depths.{Depths}
use Rattle.project_book.specs.declared.edit.Depths.TheVariants.{LowForward, LowReverse, CombForward, CombReverse, ModuleQueue}
use Rattle.project_book.specs.Limits.{min_wait, max_depth}
use Rattle.project_book.specs.Queues.{least_depth}
use Rattle.project_book.specs.Project.{Project, IsProject, depth_of, forward, reverse}
use Rattle.machine_cells.specs.declared.state.MachineState.{MachineState}
use Rattle.machine_cells.specs.declared.state.MachineState.TheVariants.{Proc, Module, Low, Comb}
use Rattle.machine_cells.specs.laws.Traffic.{module_end}
use Rattle.machine_cells.specs.Moves.{moves, request_on, reply_on, takes_request, takes_request_at, takes_reply, takes_reply_at, if_taken, request_between, reply_between, at_ends, request_over, reply_over, upper_state, lower_state}
use Rattle.machine_cells.specs.Cycle.{cycle, part_of, proc_settings, comb_settings, proc_traffic, module_traffic, switch_traffic}
use Rattle.machine_cells.specs.Kept.{HasRequest, HasReply, HasAnswer, HasCombined, StateHas, NoMessageIsLost}
use Rattle.machine_cells.proofs.Parts.{request_moved, reply_moved}
use Rattle.machine_cells.proofs.Views.{after_cycle}

some_is : {X : Type 0} {x y : X} → Some x ≡ Some y → x ≡ y
some_is e = cc

no_some : {X : Type 0} {x : X} → None ≡ Some x → ⊥
no_some e = cc

low_bit : (b n : ℕ) → bit b n < 2
low_bit b n = mod-lt (n / 2 ^ b) (omega arith)

taken_takes : {T : Type 0} (takes : T → Bool) (o : Option T) (m : T) → if_taken takes o ≡ Some m → takes m ≡ true
taken_takes takes None m e = absurd (no_some e)
taken_takes takes (Some q) m e = by_test (takes q) refl e
  where
    by_test : (b : Bool) → takes q ≡ b → cond b (Some q) None ≡ Some m → takes m ≡ true
    by_test true t e = ap takes (sym (some_is e)) ∙ t
    by_test false t e = absurd (no_some e)

if_some : {X : Type 0} (F : X → Type 0) (m : Option X) → ((x : X) → m ≡ Some x → F x) → IfSome m F
if_some F None h = tt
if_some F (Some x) h = h x refl

-- messages that go to one queue by their ports: each that comes stands in it afterwards
module _ {T : Type 0} (all : KeepsAll T) (port : T → ℕ) (to : ℕ → Option T → Option T) (none : (o : ℕ) → to o None ≡ None)
    (some : (o : ℕ) (m : T) → to o (Some m) ≡ cond (port m == o) (Some m) None) where
  sent : (o : ℕ) (m : Option T) → is_some (to o m) ≡ true → (x : T) × (m ≡ Some x) × (port x ≡ o)
  sent o None e = absurd (false≢true (ap is_some (sym (none o)) ∙ e))
  sent o (Some x) e = by_test (port x == o) refl (ap is_some (sym (some o x)) ∙ e)
    where
      by_test : (b : Bool) → (port x == o) ≡ b → is_some (cond b (Some x) None) ≡ true → (y : T) × (Some x ≡ Some y) × (port y ≡ o)
      by_test true t e = (x, refl, eqb-true _ _ t)
      by_test false t e = absurd (false≢true e)

  got_in : (m : Option T) (x : T) → m ≡ Some x → to (port x) m ≡ Some x
  got_in m x e = ap (to (port x)) e ∙ some (port x) x ∙ ap (λ b. cond b (Some x) None) (eq-eqb (port x) (port x) refl)

  kept_in : (depth turn : ℕ) (q : ArrayVec T) (leaves : Bool) (m n : Option T) (x : T) → depth ≤ queue_places
      → ((y : T) → m ≡ Some y → port y ≡ port x → has_room depth q turn 0 ≡ true)
      → ((y : T) → n ≡ Some y → port y ≡ port x → has_room depth q turn 1 ≡ true)
      → (m ≡ Some x) ⊎ (n ≡ Some x) → Contains (queue_after leaves (to (port x) m) (to (port x) n) q).items x
  kept_in depth turn q leaves m n x small room_0 room_1 here =
      let o = port x in
      let is = all depth turn q leaves (to o m) (to o n) small
      (λ e. let y = sent o m e in room_0 y.0 y.1 y.2) (λ e. let y = sent o n e in room_1 y.0 y.1 y.2) in
      let G : List T → Type 0 = λ xs. Contains xs x in
      subst G (sym is) (by_side here)
    where
      one : (o : Option T) → o ≡ Some x → Contains (option_to_list o) x
      one o e = let G : Option T → Type 0 = λ p. Contains (option_to_list p) x in subst G (sym e) (zero, omega arith, refl)

      by_side : (m ≡ Some x) ⊎ (n ≡ Some x)
          → Contains ((without_head leaves q).items ++ option_to_list (to (port x) m) ++ option_to_list (to (port x) n)) x
      by_side (inl e) =
          Contains-append_left ((without_head leaves q).items ++ option_to_list (to (port x) m)) (option_to_list (to (port x) n)) x
          (Contains-append_right (without_head leaves q).items (option_to_list (to (port x) m)) x (one (to (port x) m) (got_in m x e)))
      by_side (inr e) =
          Contains-append_right ((without_head leaves q).items ++ option_to_list (to (port x) m)) (option_to_list (to (port x) n)) x (one (to (port x) n) (got_in n x e))

-- a low switch has each message that came
module _ (b depth : ℕ) (t : Traffic) (s : LowState) (small : depth ≤ queue_places) where
  low_request : ((i : ℕ) (q : Request) → i < 2 → message_at t.requests i ≡ Some q → low_takes_request s depth i (bit b q.place.«module») ≡ true)
      → (i : ℕ) (r : Request) → i < 2 → message_at t.requests i ≡ Some r → Contains (queue_at (low_after b t s).fwd (bit b r.place.«module»)).items r
  low_request takes i r lt e = at_output (bit b r.place.«module») refl (low_bit b r.place.«module»)
    where
      come : (j : ℕ) → j < 2 → (q : Request) → message_at t.requests j ≡ Some q → bit b q.place.«module» ≡ bit b r.place.«module»
          → has_room depth (queue_at s.fwd (bit b r.place.«module»)) (slice_index s.turn (bit b r.place.«module»)) j ≡ true
      come j lt q e same = let G : ℕ → Type 0 = λ o. has_room depth (queue_at s.fwd o) (slice_index s.turn o) j ≡ true in subst G same (takes j q lt e)

      side : (i : ℕ) → i < 2 → message_at t.requests i ≡ Some r → (message_at t.requests 0 ≡ Some r) ⊎ (message_at t.requests 1 ≡ Some r)
      side zero lt e = inl e
      side (suc zero) lt e = inr e
      side (suc (suc i)) lt e = absurd (omega arith)

      kept : Contains (fwd_after b t s (bit b r.place.«module»)).items r
      kept =
          kept_in nothing_is_lost.0 (λ q. bit b q.place.«module») (request_to b) (λ o. refl) (λ o m. refl) depth
          (slice_index s.turn (bit b r.place.«module»)) (queue_at s.fwd (bit b r.place.«module»)) _ (message_at t.requests 0) (message_at t.requests 1) r small
          (come 0 (omega arith)) (come 1 (omega arith)) (side i lt e)

      at_output : (o : ℕ) → bit b r.place.«module» ≡ o → o < 2 → Contains (queue_at (low_after b t s).fwd o).items r
      at_output zero is lt = let G : ℕ → Type 0 = λ o. Contains (fwd_after b t s o).items r in subst G is kept
      at_output (suc zero) is lt = let G : ℕ → Type 0 = λ o. Contains (fwd_after b t s o).items r in subst G is kept
      at_output (suc (suc o)) is lt = absurd (omega arith)

  low_reply : ((o : ℕ) (y : Reply) → o < 2 → message_at t.replies o ≡ Some y → low_takes_reply s depth o (bit b y.tag.proc) ≡ true)
      → (o : ℕ) (r : Reply) → o < 2 → message_at t.replies o ≡ Some r → Contains (queue_at (low_after b t s).rev (bit b r.tag.proc)).items r
  low_reply takes i r lt e = at_input (bit b r.tag.proc) refl (low_bit b r.tag.proc)
    where
      come : (j : ℕ) → j < 2 → (q : Reply) → message_at t.replies j ≡ Some q → bit b q.tag.proc ≡ bit b r.tag.proc
          → has_room depth (queue_at s.rev (bit b r.tag.proc)) (slice_index s.rturn (bit b r.tag.proc)) j ≡ true
      come j lt q e same = let G : ℕ → Type 0 = λ o. has_room depth (queue_at s.rev o) (slice_index s.rturn o) j ≡ true in subst G same (takes j q lt e)

      side : (i : ℕ) → i < 2 → message_at t.replies i ≡ Some r → (message_at t.replies 0 ≡ Some r) ⊎ (message_at t.replies 1 ≡ Some r)
      side zero lt e = inl e
      side (suc zero) lt e = inr e
      side (suc (suc i)) lt e = absurd (omega arith)

      kept : Contains (rev_after b t s (bit b r.tag.proc)).items r
      kept =
          kept_in nothing_is_lost.1 (λ q. bit b q.tag.proc) (reply_to b) (λ o. refl) (λ o m. refl) depth
          (slice_index s.rturn (bit b r.tag.proc)) (queue_at s.rev (bit b r.tag.proc)) _ (message_at t.replies 0) (message_at t.replies 1) r small
          (come 0 (omega arith)) (come 1 (omega arith)) (side i lt e)

      at_input : (o : ℕ) → bit b r.tag.proc ≡ o → o < 2 → Contains (queue_at (low_after b t s).rev o).items r
      at_input zero is lt = let G : ℕ → Type 0 = λ o. Contains (rev_after b t s o).items r in subst G is kept
      at_input (suc zero) is lt = let G : ℕ → Type 0 = λ o. Contains (rev_after b t s o).items r in subst G is kept
      at_input (suc (suc o)) is lt = absurd (omega arith)

-- so has a module, and the reply to the request that it serves
last_in : {T : Type 0} (depth : ℕ) (leaves : Bool) (q : ArrayVec T) (m : Option T) (x : T) → depth ≤ queue_places → nat_le 1 (depth - length q.items) ≡ true → m ≡ Some x
    → Contains (queue_after leaves m None q).items x
last_in {T} depth leaves q m x small room e =
    let free : 1 ≤ depth - length q.items = leb-true _ _ room in
    let is = joined_in (without_head leaves q) x (omega (arith, shorter leaves q)) in
    let G : Option T → Type 0 = λ o. Contains (queue_after leaves o None q).items x in
    let H : List T → Type 0 = λ xs. Contains xs x in
    subst G (sym e) (subst H (sym is) (Contains-push _ x))

module _ (depth : ℕ) (t : ModuleTraffic) (s : ModuleState) (small : depth ≤ queue_places) where
  module_request : (net : Net) (r : Request) → message_at t.requests (net_number net) ≡ Some r → module_takes_request s depth net ≡ true
      → Contains (queue_at (module_after depth t s).requests (net_number net)).items r
  module_request LowNet r e takes = last_in depth _ (queue_at s.requests 0) (message_at t.requests 0) r small takes e
  module_request CombNet r e takes = last_in depth _ (queue_at s.requests 1) (message_at t.requests 1) r small takes e

  served_by : (net : Net) → served_net s depth ≡ Some net → nat_le 1 (depth - length (queue_at s.replies (net_number net)).items) ≡ true
  served_by net e = by_tests (can_serve s depth LowNet) (can_serve s depth CombNet) refl refl e
    where
      last_of : (x y : Bool) → (x && y) ≡ true → y ≡ true
      last_of true y e = e
      last_of false y e = absurd (false≢true e)

      room : (n : Net) → can_serve s depth n ≡ true → nat_le 1 (depth - length (queue_at s.replies (net_number n)).items) ≡ true
      room n can = last_of (is_some (head (queue_at s.requests (net_number n)))) (nat_le 1 (depth - length (queue_at s.replies (net_number n)).items)) can

      by_tests : (a c : Bool) → can_serve s depth LowNet ≡ a → can_serve s depth CombNet ≡ c → chosen a c s.turn ≡ Some net
          → nat_le 1 (depth - length (queue_at s.replies (net_number net)).items) ≡ true
      by_tests true true a c e = by_turn net
        where
          by_turn : (n : Net) → nat_le 1 (depth - length (queue_at s.replies (net_number n)).items) ≡ true
          by_turn LowNet = room LowNet a
          by_turn CombNet = room CombNet c
      by_tests true false a c e = let G : Net → Type 0 = λ n. nat_le 1 (depth - length (queue_at s.replies (net_number n)).items) ≡ true in subst G (some_is e) (room LowNet a)
      by_tests false true a c e = let G : Net → Type 0 = λ n. nat_le 1 (depth - length (queue_at s.replies (net_number n)).items) ≡ true in subst G (some_is e) (room CombNet c)
      by_tests false false a c e = absurd (no_some e)

  module_answer : (net : Net) (r : Request) → served_net s depth ≡ Some net → served_on s (Some net) ≡ Some r
      → Contains (queue_at (module_after depth t s).replies (net_number net)).items (record { tag = r.tag; word = word_at s.words r.place.row })
  module_answer net r e on = by_net net e on
    where
      answer : (n : Net) → served_net s depth ≡ Some n → served_on s (Some n) ≡ Some r
          → answer_if (is_net n (served_net s depth)) (answer_to s.words (served_on s (served_net s depth))) ≡ Some (record { tag = r.tag; word = word_at s.words r.place.row })
      answer n e on =
          ap (λ o. answer_if (is_net n o) (answer_to s.words (served_on s o))) e
          ∙ ap (λ b. answer_if b (answer_to s.words (served_on s (Some n)))) (eq-eqb (net_number n) (net_number n) refl)
          ∙ ap (answer_to s.words) on

      by_net : (n : Net) → served_net s depth ≡ Some n → served_on s (Some n) ≡ Some r
          → Contains (queue_at (module_after depth t s).replies (net_number n)).items (record { tag = r.tag; word = word_at s.words r.place.row })
      by_net LowNet e on = last_in depth _ (queue_at s.replies 0) _ _ small (served_by LowNet e) (answer LowNet e on)
      by_net CombNet e on = last_in depth _ (queue_at s.replies 1) _ _ small (served_by CombNet e) (answer CombNet e on)

-- a processor has received each reply that came
same_got : (b : Bool) (x y : ProcState) → x.got ≡ y.got → (cond b x y).got ≡ y.got
same_got true x y e = e
same_got false x y e = refl

acting_got : (settings : ProcSettings) (entry : Option ScriptEntry) (s : ProcState) → (acting settings entry s).got ≡ s.got
acting_got settings None s = refl
acting_got settings (Some (Reference sync op address times)) s =
    same_got (nat_le times (referring settings sync op s).spent) (next_entry (referring settings sync op s)) (referring settings sync op s) refl
    ∙ same_got _ (issuing settings sync op s) s refl
acting_got settings (Some (Until sync op address value times)) s =
    same_got (tries value times s) (referring settings sync op s) (cond (has_brought value s || nat_le times s.spent) (next_entry s) s)
    (same_got _ (issuing settings sync op s) s refl ∙ sym (same_got _ (next_entry s) s refl))
    ∙ same_got _ (next_entry s) s refl
acting_got settings (Some Fence) s = same_got _ (next_entry s) s refl
acting_got settings (Some (Idle turns)) s = same_got (nat_le turns (spending s).spent) (next_entry (spending s)) (spending s) refl

module _ (P : Project) (known : IsProject P) (S : List MachineState) where
  deep : (q : Depths) → depth_of P q ≤ queue_places
  deep q = leb-true _ _ (and_parts (nat_le (least_depth q) (depth_of P q)) (nat_le (depth_of P q) max_depth) (known.depths q)).1

  pub few : P.wait ≤ queue_places
  few = leb-true _ _ (and_parts (nat_le min_wait P.wait) (nat_le P.wait max_depth) known.wait).1

  abbrev state_of : Component → Option MachineState
  state_of x = slice_get S (number_of P.k x)

  -- what goes over a wire is taken at its end
  lower_takes : (w : Wire) (u l : Option MachineState) (r : Request) → at_ends (request_between P w) u l ≡ Some r → (s : MachineState) × (l ≡ Some s) × (takes_request P w r s ≡ true)
  lower_takes w (Some u) (Some l) r e = (l, refl, taken_takes (λ q. takes_request P w q l) (request_on w u) r e)
  lower_takes w (Some u) None r e = absurd (no_some e)
  lower_takes w None l r e = absurd (no_some e)

  upper_takes : (w : Wire) (u l : Option MachineState) (y : Reply) → at_ends (reply_between P w) u l ≡ Some y → (s : MachineState) × (u ≡ Some s) × (takes_reply P w y s ≡ true)
  upper_takes w (Some u) (Some l) y e = (u, refl, taken_takes (λ q. takes_reply P w q u) (reply_on P.k w l) y e)
  upper_takes w (Some u) None y e = absurd (no_some e)
  upper_takes w None l y e = absurd (no_some e)

  taken_at : (w : Wire) (r : Request) (x : Component) → lower_end P.k w ≡ x → request_over P S w ≡ Some r
      → (s : MachineState) × (state_of x ≡ Some s) × (takes_request_at P w r x s ≡ true)
  taken_at w r x ends e =
      let G : Component → Type 0 = λ y. (s : MachineState) × (state_of y ≡ Some s) × (takes_request_at P w r y s ≡ true) in
      subst G ends (lower_takes w (upper_state P S w) (lower_state P S w) r e)

  taken_back_at : (w : Wire) (y : Reply) (x : Component) → upper_end w ≡ x → reply_over P S w ≡ Some y
      → (s : MachineState) × (state_of x ≡ Some s) × (takes_reply_at P w y x s ≡ true)
  taken_back_at w y x ends e =
      let G : Component → Type 0 = λ z. (s : MachineState) × (state_of z ≡ Some s) × (takes_reply_at P w y z s ≡ true) in
      subst G ends (upper_takes w (upper_state P S w) (lower_state P S w) y e)

  -- a component's next state
  pub next_is : (x : Component) (s : MachineState) (fact : MachineState → Type 0) → Exists P.k x → state_of x ≡ Some s → fact (part_of P (moves P S) (Some x) s) → StateHas P (cycle P S) x fact
  next_is x s fact there is holds = (part_of P (moves P S) (Some x) s, after_cycle P S x there ∙ ap (option_map (part_of P (moves P S) (Some x))) is, holds)

  -- a switch and what comes to it
  module _ (net : Net) (stage j : ℕ) (there : Exists P.k (Switch net stage j)) where
    abbrev traffic : Traffic
    traffic = switch_traffic (moves P S) P.k net stage j

    pub into_moved : (i : ℕ) → i < 2 → message_at traffic.requests i ≡ request_over P S (wire_into P.k net stage j i)
    into_moved zero lt = request_moved P S (wire_into P.k net stage j 0) (omega (arith, there.0)) (into_line P.k stage j 0 there.0 there.1 lt)
    into_moved (suc zero) lt = request_moved P S (wire_into P.k net stage j 1) (omega (arith, there.0)) (into_line P.k stage j 1 there.0 there.1 lt)
    into_moved (suc (suc i)) lt = absurd (omega arith)

    pub out_moved : (o : ℕ) → o < 2 → message_at traffic.replies o ≡ reply_over P S (wire_out net stage j o)
    out_moved zero lt = reply_moved P S (wire_out net stage j 0) (omega (arith, there.0)) (out_line P.k stage j 0 there.0 there.1 lt)
    out_moved (suc zero) lt = reply_moved P S (wire_out net stage j 1) (omega (arith, there.0)) (out_line P.k stage j 1 there.0 there.1 lt)
    out_moved (suc (suc o)) lt = absurd (omega arith)

    takes_in : (own : MachineState) → state_of (Switch net stage j) ≡ Some own → (i : ℕ) (q : Request) → i < 2 → message_at traffic.requests i ≡ Some q
        → takes_request_at P (wire_into P.k net stage j i) q (Switch net stage j) own ≡ true
    takes_in own is i q lt e =
        let got = taken_at (wire_into P.k net stage j i) q (Switch net stage j) (into_ends P.k net stage j i there.0 there.1) (sym (into_moved i lt) ∙ e) in
        let G : MachineState → Type 0 = λ s. takes_request_at P (wire_into P.k net stage j i) q (Switch net stage j) s ≡ true in
        subst G (some_is (sym got.1 ∙ is)) got.2

    takes_out : (own : MachineState) → state_of (Switch net stage j) ≡ Some own → (o : ℕ) (y : Reply) → o < 2 → message_at traffic.replies o ≡ Some y
        → takes_reply_at P (wire_out net stage j o) y (Switch net stage j) own ≡ true
    takes_out own is o y lt e =
        let got = taken_back_at (wire_out net stage j o) y (Switch net stage j) (out_begins net stage j o lt) (sym (out_moved o lt) ∙ e) in
        let G : MachineState → Type 0 = λ s. takes_reply_at P (wire_out net stage j o) y (Switch net stage j) s ≡ true in
        subst G (some_is (sym got.1 ∙ is)) got.2

    pub input_is : (i : ℕ) → input_of P.k (wire_into P.k net stage j i) ≡ i
    input_is i = div-mul-add i (half P.k) j there.1

    pub output_is : (o : ℕ) → o < 2 → output_of (wire_out net stage j o) ≡ o
    output_is o lt = omega arith

  low_takes : (stage j : ℕ) (s : LowState) → Exists P.k (Switch LowNet stage j) → state_of (Switch LowNet stage j) ≡ Some (Low s)
      → (i : ℕ) (q : Request) → i < 2 → message_at (switch_traffic (moves P S) P.k LowNet stage j).requests i ≡ Some q
      → low_takes_request s (forward P LowNet) i (bit (P.k - 1 - stage) q.place.«module») ≡ true
  low_takes stage j s there is i q lt e =
      let G : ℕ → Type 0 = λ n. low_takes_request s (forward P LowNet) n (bit (P.k - 1 - stage) q.place.«module») ≡ true in
      subst G (input_is LowNet stage j there i) (takes_in LowNet stage j there (Low s) is i q lt e)

  low_takes_back : (stage j : ℕ) (s : LowState) → Exists P.k (Switch LowNet stage j) → state_of (Switch LowNet stage j) ≡ Some (Low s)
      → (o : ℕ) (y : Reply) → o < 2 → message_at (switch_traffic (moves P S) P.k LowNet stage j).replies o ≡ Some y
      → low_takes_reply s (reverse P LowNet) o (bit (P.k - 1 - stage) y.tag.proc) ≡ true
  low_takes_back stage j s there is o y lt e =
      let G : ℕ → Type 0 = λ n. low_takes_reply s (reverse P LowNet) n (bit (P.k - 1 - stage) y.tag.proc) ≡ true in
      subst G (output_is LowNet stage j there o lt) (takes_out LowNet stage j there (Low s) is o y lt e)

  comb_has : (stage j : ℕ) (s : CombState) → Exists P.k (Switch CombNet stage j) → state_of (Switch CombNet stage j) ≡ Some (Comb s)
      → HasAll (comb_settings P stage) (switch_traffic (moves P S) P.k CombNet stage j) s
  comb_has stage j s there is =
      messages_are_held (comb_settings P stage) t s (forward P CombNet) (reverse P CombNet) (deep CombForward) (deep CombReverse) few
      (if_some _ (message_at t.requests 0) (takes 0 (omega arith))) (if_some _ (message_at t.requests 1) (takes 1 (omega arith)))
      (takes_back 0 (omega arith) (message_at t.replies 0) refl) (takes_back 1 (omega arith) (message_at t.replies 1) refl)
    where
      t : Traffic
      t = switch_traffic (moves P S) P.k CombNet stage j

      takes : (i : ℕ) → i < 2 → (q : Request) → message_at t.requests i ≡ Some q → comb_takes_request s (forward P CombNet) i (bit (P.k - 1 - stage) q.place.«module») ≡ true
      takes i lt q e =
          let G : ℕ → Type 0 = λ n. comb_takes_request s (forward P CombNet) n (bit (P.k - 1 - stage) q.place.«module») ≡ true in
          subst G (input_is CombNet stage j there i) (takes_in CombNet stage j there (Comb s) is i q lt e)

      takes_back : (o : ℕ) → o < 2 → (m : Option Reply) → message_at t.replies o ≡ m → is_some m ≡ true → comb_takes_reply s (reverse P CombNet) o ≡ true
      takes_back o lt None e some = absurd (false≢true some)
      takes_back o lt (Some y) e some =
          let G : ℕ → Type 0 = λ n. comb_takes_reply s (reverse P CombNet) n ≡ true in
          subst G (output_is CombNet stage j there o lt) (takes_out CombNet stage j there (Comb s) is o y lt e)

  -- a request that goes over a wire into a switch, or to a module
  into_switch : (net : Net) (stage j i : ℕ) (r : Request) → Exists P.k (Switch net stage j) → i < 2 → request_over P S (wire_into P.k net stage j i) ≡ Some r
      → StateHas P (cycle P S) (Switch net stage j) (HasRequest P.k net r (Switch net stage j))
  into_switch net stage j i r there lt e =
      let got = taken_at (wire_into P.k net stage j i) r (Switch net stage j) (into_ends P.k net stage j i there.0 there.1) e in
      by_kind net there e (into_moved net stage j there i lt) got.0 got.1 got.2
    where
      by_kind : (n : Net) (there : Exists P.k (Switch n stage j)) → request_over P S (wire_into P.k n stage j i) ≡ Some r
          → message_at (switch_traffic (moves P S) P.k n stage j).requests i ≡ request_over P S (wire_into P.k n stage j i)
          → (s : MachineState) → state_of (Switch n stage j) ≡ Some s
          → takes_request_at P (wire_into P.k n stage j i) r (Switch n stage j) s ≡ true → StateHas P (cycle P S) (Switch n stage j) (HasRequest P.k n r (Switch n stage j))
      by_kind LowNet there e moved (Low s) is takes =
          next_is (Switch LowNet stage j) (Low s) _ there is
          (low_request (P.k - 1 - stage) (forward P LowNet) (switch_traffic (moves P S) P.k LowNet stage j) s (deep LowForward) (low_takes stage j s there is) i r lt (moved ∙ e))
      by_kind CombNet there e moved (Comb s) is takes =
          next_is (Switch CombNet stage j) (Comb s) _ there is ((comb_has stage j s there is).requests i r lt (moved ∙ e))
      by_kind LowNet there e moved (Proc s) is takes = absurd (false≢true takes)
      by_kind LowNet there e moved (Module s) is takes = absurd (false≢true takes)
      by_kind LowNet there e moved (Comb s) is takes = absurd (false≢true takes)
      by_kind CombNet there e moved (Proc s) is takes = absurd (false≢true takes)
      by_kind CombNet there e moved (Module s) is takes = absurd (false≢true takes)
      by_kind CombNet there e moved (Low s) is takes = absurd (false≢true takes)

  into_module : (net : Net) (m : ℕ) (r : Request) → Exists P.k (ModuleAt m) → request_over P S (wire_of_module P.k net m) ≡ Some r
      → StateHas P (cycle P S) (ModuleAt m) (HasRequest P.k net r (ModuleAt m))
  into_module net m r there e = let got = taken_at (wire_of_module P.k net m) r (ModuleAt m) (module_end P.k m net) e in by_kind got.0 got.1 got.2
    where
      moved : (n : Net) → message_at (module_traffic (moves P S) P.k m).requests (net_number n) ≡ request_over P S (wire_of_module P.k n m)
      moved LowNet = request_moved P S (wire_of_module P.k LowNet m) (omega arith) there
      moved CombNet = request_moved P S (wire_of_module P.k CombNet m) (omega arith) there

      by_kind : (s : MachineState) → state_of (ModuleAt m) ≡ Some s → takes_request_at P (wire_of_module P.k net m) r (ModuleAt m) s ≡ true
          → StateHas P (cycle P S) (ModuleAt m) (HasRequest P.k net r (ModuleAt m))
      by_kind (Module s) is takes =
          next_is (ModuleAt m) (Module s) _ there is (module_request (depth_of P ModuleQueue) (module_traffic (moves P S) P.k m) s (deep ModuleQueue) net r (moved net ∙ e) takes)
      by_kind (Proc s) is takes = absurd (false≢true takes)
      by_kind (Low s) is takes = absurd (false≢true takes)
      by_kind (Comb s) is takes = absurd (false≢true takes)

  requests : (w : Wire) (r : Request) → IsWire P.k w → request_over P S w ≡ Some r
      → StateHas P (cycle P S) (lower_end P.k w) (HasRequest P.k w.net r (lower_end P.k w))
  requests w r there e = by_test (w.stage == P.k) refl
    where
      Holds : Wire → Type 0
      Holds v = request_over P S v ≡ Some r → StateHas P (cycle P S) (lower_end P.k v) (HasRequest P.k v.net r (lower_end P.k v))

      At : Component → Type 0
      At x = StateHas P (cycle P S) x (HasRequest P.k w.net r x)

      by_test : (t : Bool) → (w.stage == P.k) ≡ t → StateHas P (cycle P S) (lower_end P.k w) (HasRequest P.k w.net r (lower_end P.k w))
      by_test true t =
          let same : w ≡ wire_of_module P.k w.net w.line = wire_is w (wire_of_module P.k w.net w.line) refl (eqb-true _ _ t) refl in
          subst Holds (sym same) (λ over. subst At (sym (module_end P.k w.line w.net)) (into_module w.net w.line r there.1 over)) e
      by_test false t =
          let stage : w.stage ≤ P.k = there.0 in
          let lt : w.stage < P.k = grind (arith, nat_tests) in
          let some = half_some P.k w.stage lt in
          let at : Exists P.k (Switch w.net w.stage (w.line % half P.k)) = (lt, mod-lt w.line some) in
          let same : w ≡ wire_into P.k w.net w.stage (w.line % half P.k) (w.line / half P.k) =
          wire_is w (wire_into P.k w.net w.stage (w.line % half P.k) (w.line / half P.k)) refl refl (sym (div-add-mod' w.line (half P.k))) in
          subst Holds (sym same)
          (λ over. subst At (sym (into_ends P.k w.net w.stage (w.line % half P.k) (w.line / half P.k) lt at.1))
          (into_switch w.net w.stage (w.line % half P.k) (w.line / half P.k) r at (input_port P.k w there some) over)) e

  -- a reply that goes over a wire out of a switch, or to a processor
  out_switch : (net : Net) (stage j o : ℕ) (y : Reply) → Exists P.k (Switch net stage j) → o < 2 → reply_over P S (wire_out net stage j o) ≡ Some y
      → StateHas P (cycle P S) (Switch net stage j) (HasReply P.k net y (Switch net stage j))
  out_switch net stage j o y there lt e =
      let got = taken_back_at (wire_out net stage j o) y (Switch net stage j) (out_begins net stage j o lt) e in
      by_kind net there e (out_moved net stage j there o lt) got.0 got.1 got.2
    where
      by_kind : (n : Net) (there : Exists P.k (Switch n stage j)) → reply_over P S (wire_out n stage j o) ≡ Some y
          → message_at (switch_traffic (moves P S) P.k n stage j).replies o ≡ reply_over P S (wire_out n stage j o)
          → (s : MachineState) → state_of (Switch n stage j) ≡ Some s
          → takes_reply_at P (wire_out n stage j o) y (Switch n stage j) s ≡ true → StateHas P (cycle P S) (Switch n stage j) (HasReply P.k n y (Switch n stage j))
      by_kind LowNet there e moved (Low s) is takes =
          next_is (Switch LowNet stage j) (Low s) _ there is
          (low_reply (P.k - 1 - stage) (reverse P LowNet) (switch_traffic (moves P S) P.k LowNet stage j) s (deep LowReverse) (low_takes_back stage j s there is) o y lt (moved ∙ e))
      by_kind CombNet there e moved (Comb s) is takes =
          next_is (Switch CombNet stage j) (Comb s) _ there is ((comb_has stage j s there is).replies o y lt (moved ∙ e))
      by_kind LowNet there e moved (Proc s) is takes = absurd (false≢true takes)
      by_kind LowNet there e moved (Module s) is takes = absurd (false≢true takes)
      by_kind LowNet there e moved (Comb s) is takes = absurd (false≢true takes)
      by_kind CombNet there e moved (Proc s) is takes = absurd (false≢true takes)
      by_kind CombNet there e moved (Module s) is takes = absurd (false≢true takes)
      by_kind CombNet there e moved (Low s) is takes = absurd (false≢true takes)

  to_proc : (net : Net) (p : ℕ) (y : Reply) → Exists P.k (ProcAt p) → reply_over P S (wire_of_proc net p) ≡ Some y
      → StateHas P (cycle P S) (ProcAt p) (HasReply P.k net y (ProcAt p))
  to_proc net p y there e = let got = taken_back_at (wire_of_proc net p) y (ProcAt p) refl e in by_kind got.0 got.1 got.2
    where
      moved : (n : Net) (s : ProcState) → message_at (taking (proc_traffic (moves P S) p) s).got (net_number n) ≡ reply_over P S (wire_of_proc n p)
      moved LowNet s = reply_moved P S (wire_of_proc LowNet p) (omega arith) there
      moved CombNet s = reply_moved P S (wire_of_proc CombNet p) (omega arith) there

      by_kind : (s : MachineState) → state_of (ProcAt p) ≡ Some s → takes_reply_at P (wire_of_proc net p) y (ProcAt p) s ≡ true
          → StateHas P (cycle P S) (ProcAt p) (HasReply P.k net y (ProcAt p))
      by_kind (Proc s) is takes =
          let settings = proc_settings P p s.index in
          next_is (ProcAt p) (Proc s) _ there is
          (ap (λ got. message_at got (net_number net)) (acting_got settings settings.entry (taking (proc_traffic (moves P S) p) s)) ∙ moved net s ∙ e)
      by_kind (Module s) is takes = absurd (false≢true takes)
      by_kind (Low s) is takes = absurd (false≢true takes)
      by_kind (Comb s) is takes = absurd (false≢true takes)

  replies : (w : Wire) (y : Reply) → IsWire P.k w → reply_over P S w ≡ Some y → StateHas P (cycle P S) (upper_end w) (HasReply P.k w.net y (upper_end w))
  replies w y there e = by_stage w.stage refl
    where
      Holds : Wire → Type 0
      Holds v = reply_over P S v ≡ Some y → StateHas P (cycle P S) (upper_end v) (HasReply P.k v.net y (upper_end v))

      At : Component → Type 0
      At x = StateHas P (cycle P S) x (HasReply P.k w.net y x)

      by_stage : (n : ℕ) → w.stage ≡ n → StateHas P (cycle P S) (upper_end w) (HasReply P.k w.net y (upper_end w))
      by_stage zero is =
          let same : w ≡ wire_of_proc w.net w.line = wire_is w (wire_of_proc w.net w.line) refl is refl in
          subst Holds (sym same) (to_proc w.net w.line y there.1) e
      by_stage (suc s) is =
          let lt : s < P.k = omega (arith, there.0) in
          let at : Exists P.k (Switch w.net s (w.line / 2)) = (lt, omega (arith, there.1, half_twice P.k s lt)) in
          let same : w ≡ wire_out w.net s (w.line / 2) (w.line % 2) = wire_is w (wire_out w.net s (w.line / 2) (w.line % 2)) refl is (omega arith) in
          let low : w.line % 2 < 2 = omega arith in
          subst Holds (sym same) (λ over. subst At (sym (out_begins w.net s (w.line / 2) (w.line % 2) low)) (out_switch w.net s (w.line / 2) (w.line % 2) y at low over)) e

  served : (m : ℕ) (s : ModuleState) (net : Net) (r : Request) → Exists P.k (ModuleAt m) → state_of (ModuleAt m) ≡ Some (Module s)
      → served_net s (depth_of P ModuleQueue) ≡ Some net → served_on s (Some net) ≡ Some r
      → StateHas P (cycle P S) (ModuleAt m) (HasAnswer net (record { tag = r.tag; word = word_at s.words r.place.row }))
  served m s net r there is serves on =
      next_is (ModuleAt m) (Module s) _ there is (module_answer (depth_of P ModuleQueue) (module_traffic (moves P S) P.k m) s (deep ModuleQueue) net r serves on)

  combined : (stage j : ℕ) (s : CombState) (w : Waiting) → Exists P.k (Switch CombNet stage j) → state_of (Switch CombNet stage j) ≡ Some (Comb s)
      → Contains s.wait.items w → StateHas P (cycle P S) (Switch CombNet stage j) (HasCombined (P.k - 1 - stage) w)
  combined stage j s w there is c = next_is (Switch CombNet stage j) (Comb s) _ there is ((comb_has stage j s there is).combined w c)

pub no_message_is_lost : NoMessageIsLost
no_message_is_lost P known S = record { requests = requests P known S; replies = replies P known S; served = served P known S; combined = combined P known S }
