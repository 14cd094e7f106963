-- A message that doesn't leave is there one cycle later.
use Rattle.std.proofs.Common.{◌≡◌, ◌≢◌, ℕ, zero, suc, ◌-◌, ◌/◌, ◌%◌, ◌<◌, ◌≤◌, Bool, true, false, cond, List, [], ◌∷◌, refl, ap, sym, ◌∙◌, subst, inl, inr, Option, None, Some, arith}
use Rattle.std.specs.Prelude.{is_some, is_none, nat_le, nat_lt, drop, ◌==◌, ◌&&◌, ◌||◌, ◌⊎◌, slice_get}
use Rattle.std.specs.List.{Contains}
use Rattle.std.specs.Option.{option_to_list}
use Rattle.std.proofs.Math.Nat.{mod-lt}
use Rattle.std.proofs.lemmas.Nat.{div-add-mod'}
use Rattle.std.proofs.lemmas.Bool.Decides.{nat_tests}
use Rattle.std.proofs.lemmas.Bool.{eqb-true, false≢true}
use Rattle.arrayvec.specs.ArrayVec.{ArrayVec}
use Rattle.omega_net.specs.declared.component.Net.{Net}
use Rattle.omega_net.specs.declared.component.Net.TheVariants.{Low as LowNet, Comb as CombNet}
use Rattle.omega_net.specs.declared.component.Component.{Component}
use Rattle.omega_net.specs.declared.component.Component.TheVariants.{Proc as ProcAt, Module as ModuleAt, Switch}
use Rattle.omega_net.specs.declared.message.Request.{Request}
use Rattle.omega_net.specs.declared.message.Reply.{Reply}
use Rattle.omega_net.specs.declared.message.Traffic.{Traffic}
use Rattle.omega_net.specs.declared.script.ScriptEntry.{ScriptEntry}
use Rattle.omega_net.specs.declared.script.ScriptEntry.TheVariants.{Reference, Until, Fence, Idle}
use Rattle.omega_net.specs.declared.wire.Wire.{Wire}
use Rattle.omega_net.specs.Numbers.{half, number_of, Exists}
use Rattle.omega_net.specs.Wires.{IsWire, upper_end, lower_end, output_of, net_number, wire_of_proc, wire_of_module, wire_into, wire_out}
use Rattle.omega_net.specs.Queues.{without_head}
use Rattle.omega_net.specs.Ports.{queue_at, message_at, mark_at}
use Rattle.omega_net.proofs.Numbering.{half_some, half_twice}
use Rattle.omega_net.proofs.Ends.{into_ends, out_begins, into_line, out_line, input_port}
use Rattle.omega_net.proofs.Wiring.{wire_is}
use Rattle.ref_proc.specs.declared.state.Outgoing.{Outgoing}
use Rattle.ref_proc.specs.declared.state.ProcState.{ProcState}
use Rattle.ref_proc.specs.declared.step.ProcSettings.{ProcSettings}
use Rattle.ref_proc.specs.declared.step.ProcTraffic.{ProcTraffic}
use Rattle.ref_proc.specs.RefProc.{out_on, acting, next_entry, spending, issuing, referring, tries, has_brought, taking, proc_after}
use Rattle.mem_module.specs.declared.state.ModuleState.{ModuleState}
use Rattle.mem_module.specs.declared.step.ModuleTraffic.{ModuleTraffic}
use Rattle.mem_module.specs.MemModule.{served_net, served_on, is_net, answer_to, answer_if, module_after}
use Rattle.low_switch.specs.declared.state.LowState.{LowState}
use Rattle.low_switch.specs.LowSwitch.{request_through, reply_through, low_after}
use Rattle.comb_switch.specs.declared.waiting.Waiting.{Waiting}
use Rattle.comb_switch.specs.declared.state.CombState.{CombState}
use Rattle.comb_switch.specs.CombSwitch.{both, comb_after}
use Rattle.comb_switch.proofs.Staying.{queue_front, request_stays, reply_stays, entry_stays}
use Rattle.project_book.specs.declared.edit.Depths.TheVariants.{ModuleQueue}
use Rattle.project_book.specs.Project.{Project, IsProject, depth_of}
use Rattle.machine_cells.specs.declared.state.MachineState.{MachineState}
use Rattle.machine_cells.specs.declared.state.MachineState.TheVariants.{Proc, Module, Low, Comb}
use Rattle.machine_cells.specs.laws.Traffic.{module_end, same_net}
use Rattle.machine_cells.specs.Moves.{moves, request_on, takes_request, if_taken, request_between, at_ends, request_over, reply_over, lower_state, moved_request}
use Rattle.machine_cells.specs.Cycle.{cycle, proc_settings, comb_settings, proc_traffic, module_traffic, switch_traffic}
use Rattle.machine_cells.specs.Kept.{StateHas}
use Rattle.machine_cells.specs.Stay.{requests_at, replies_at, staying, HasRequestAt, HasReplyAt, HasAskedAt, HasWaiting, MessagesStay}
use Rattle.machine_cells.proofs.Parts.{request_moved, reply_moved}
use Rattle.machine_cells.proofs.Keeping.{few, next_is, into_moved, out_moved, input_is, output_is}

no_some : {X : Type 0} {x : X} → None ≡ Some x → ⊥
no_some e = cc

-- what stays of a queue
module _ {X : Type 0} where
  stays_in : (leaves goes : Bool) (q : ArrayVec X) (n : ℕ) (x : X) → leaves ≡ goes → slice_get (staying leaves q.items) n ≡ Some x → slice_get (without_head goes q).items n ≡ Some x
  stays_in true true q n x same e = e
  stays_in false false q n x same e = e
  stays_in true false q n x same e = absurd (false≢true (sym same))
  stays_in false true q n x same e = absurd (false≢true same)

  nothing_stays : (leaves : Bool) (n : ℕ) (x : X) → slice_get (staying leaves []) n ≡ Some x → ⊥
  nothing_stays true n x e = no_some e
  nothing_stays false n x e = no_some e

-- a low switch
module _ (b : ℕ) (t : Traffic) (s : LowState) where
  low_request_stays : (o : ℕ) → o < 2 → (n : ℕ) (r : Request) → slice_get (without_head (mark_at t.requests_leave o) (queue_at s.fwd o)).items n ≡ Some r
      → slice_get (queue_at (low_after b t s).fwd o).items n ≡ Some r
  low_request_stays zero lt n r e = queue_front _ (request_through b t 0 0) (request_through b t 1 0) (queue_at s.fwd 0) n r e
  low_request_stays (suc zero) lt n r e = queue_front _ (request_through b t 0 1) (request_through b t 1 1) (queue_at s.fwd 1) n r e
  low_request_stays (suc (suc o)) lt n r e = absurd (omega arith)

  low_reply_stays : (i : ℕ) → i < 2 → (n : ℕ) (y : Reply) → slice_get (without_head (mark_at t.replies_leave i) (queue_at s.rev i)).items n ≡ Some y
      → slice_get (queue_at (low_after b t s).rev i).items n ≡ Some y
  low_reply_stays zero lt n y e = queue_front _ (reply_through b t 0 0) (reply_through b t 1 0) (queue_at s.rev 0) n y e
  low_reply_stays (suc zero) lt n y e = queue_front _ (reply_through b t 0 1) (reply_through b t 1 1) (queue_at s.rev 1) n y e
  low_reply_stays (suc (suc i)) lt n y e = absurd (omega arith)

-- a module
module _ (depth : ℕ) (t : ModuleTraffic) (s : ModuleState) where
  abbrev answered : Net → Option Reply
  answered net = answer_if (is_net net (served_net s depth)) (answer_to s.words (served_on s (served_net s depth)))

  module_reply_stays : (net : Net) (n : ℕ) (y : Reply) → slice_get (without_head (mark_at t.replies_leave (net_number net)) (queue_at s.replies (net_number net))).items n ≡ Some y
      → slice_get (queue_at (module_after depth t s).replies (net_number net)).items n ≡ Some y
  module_reply_stays LowNet n y e = queue_front _ (answered LowNet) None (queue_at s.replies 0) n y e
  module_reply_stays CombNet n y e = queue_front _ (answered CombNet) None (queue_at s.replies 1) n y e

  module_request_stays : (net : Net) (n : ℕ) (r : Request) → slice_get (without_head (is_net net (served_net s depth)) (queue_at s.requests (net_number net))).items n ≡ Some r
      → slice_get (queue_at (module_after depth t s).requests (net_number net)).items n ≡ Some r
  module_request_stays LowNet n r e = queue_front _ (message_at t.requests 0) None (queue_at s.requests 0) n r e
  module_request_stays CombNet n r e = queue_front _ (message_at t.requests 1) None (queue_at s.requests 1) n r e

-- a processor: nothing is issued while a request waits
same_out : (b : Bool) (x y : ProcState) → x.out ≡ y.out → (cond b x y).out ≡ y.out
same_out true x y e = e
same_out false x y e = refl

module _ (settings : ProcSettings) (o : Outgoing) (s : ProcState) (held : s.out ≡ Some o) where
  none_issued : (b : Bool) (x : ProcState) → (cond (is_none s.out && b) x s).out ≡ s.out
  none_issued b x = ap (λ m. (cond (is_none m && b) x s).out) held

  acting_out : (entry : Option ScriptEntry) → (acting settings entry s).out ≡ s.out
  acting_out None = refl
  acting_out (Some (Reference sync op address times)) =
      same_out (nat_le times (referring settings sync op s).spent) (next_entry (referring settings sync op s)) (referring settings sync op s) refl
      ∙ none_issued (nat_lt s.pending settings.window) (issuing settings sync op s)
  acting_out (Some (Until sync op address value times)) =
      same_out (tries value times s) (referring settings sync op s) (cond (has_brought value s || nat_le times s.spent) (next_entry s) s)
      (none_issued (nat_lt s.pending settings.window) (issuing settings sync op s) ∙ sym (same_out _ (next_entry s) s refl))
      ∙ same_out _ (next_entry s) s refl
  acting_out (Some Fence) = same_out _ (next_entry s) s refl
  acting_out (Some (Idle turns)) = same_out (nat_le turns (spending s).spent) (next_entry (spending s)) (spending s) refl

proc_out : (settings : ProcSettings) (t : ProcTraffic) (s : ProcState) (o : Outgoing) → t.request_leaves ≡ false → s.out ≡ Some o → (proc_after settings t s).out ≡ s.out
proc_out settings t s o stays held = acting_out settings o (taking t s) (kept ∙ held) settings.entry ∙ kept
  where
    kept : (taking t s).out ≡ s.out
    kept = ap (λ b. cond b None s.out) stays

module _ (P : Project) (known : IsProject P) (S : List MachineState) where
  abbrev state_of : Component → Option MachineState
  state_of x = slice_get S (number_of P.k x)

  -- what leaves a switch
  module _ (net : Net) (stage j : ℕ) (there : Exists P.k (Switch net stage j)) where
    abbrev traffic : Traffic
    traffic = switch_traffic (moves P S) P.k net stage j

    leaves_out : (o : ℕ) → o < 2 → is_some (request_over P S (wire_out net stage j o)) ≡ mark_at traffic.requests_leave o
    leaves_out zero lt = ap is_some (sym (request_moved P S (wire_out net stage j 0) (omega (arith, there.0)) (out_line P.k stage j 0 there.0 there.1 lt)))
    leaves_out (suc zero) lt = ap is_some (sym (request_moved P S (wire_out net stage j 1) (omega (arith, there.0)) (out_line P.k stage j 1 there.0 there.1 lt)))
    leaves_out (suc (suc o)) lt = absurd (omega arith)

    leaves_in : (i : ℕ) → i < 2 → is_some (reply_over P S (wire_into P.k net stage j i)) ≡ mark_at traffic.replies_leave i
    leaves_in zero lt = ap is_some (sym (reply_moved P S (wire_into P.k net stage j 0) (omega (arith, there.0)) (into_line P.k stage j 0 there.0 there.1 lt)))
    leaves_in (suc zero) lt = ap is_some (sym (reply_moved P S (wire_into P.k net stage j 1) (omega (arith, there.0)) (into_line P.k stage j 1 there.0 there.1 lt)))
    leaves_in (suc (suc i)) lt = absurd (omega arith)

  -- requests in a switch
  low_out : (stage j o : ℕ) (s : LowState) (n : ℕ) (r : Request) (there : Exists P.k (Switch LowNet stage j)) → o < 2 → state_of (Switch LowNet stage j) ≡ Some (Low s)
      → slice_get (staying (is_some (request_over P S (wire_out LowNet stage j o))) (queue_at s.fwd (output_of (wire_out LowNet stage j o))).items) n ≡ Some r
      → StateHas P (cycle P S) (Switch LowNet stage j) (HasRequestAt P S (wire_out LowNet stage j o) (Switch LowNet stage j) n r)
  low_out stage j o s n r there lt is e =
      let port = output_is P known S LowNet stage j there o lt in
      let t = switch_traffic (moves P S) P.k LowNet stage j in
      let From : ℕ → Type 0 = λ p. slice_get (staying (is_some (request_over P S (wire_out LowNet stage j o))) (queue_at s.fwd p).items) n ≡ Some r in
      let To : ℕ → Type 0 = λ p. slice_get (queue_at (low_after (P.k - 1 - stage) t s).fwd p).items n ≡ Some r in
      next_is P known S (Switch LowNet stage j) (Low s) _ there is
      (r, subst To (sym port) (low_request_stays (P.k - 1 - stage) t s o lt n r (stays_in _ _ (queue_at s.fwd o) n r (leaves_out LowNet stage j there o lt) (subst From port e))), refl)

  comb_out : (stage j o : ℕ) (s : CombState) (n : ℕ) (r : Request) (there : Exists P.k (Switch CombNet stage j)) → o < 2 → state_of (Switch CombNet stage j) ≡ Some (Comb s)
      → slice_get (staying (is_some (request_over P S (wire_out CombNet stage j o))) (queue_at s.fwd (output_of (wire_out CombNet stage j o))).items) n ≡ Some r
      → StateHas P (cycle P S) (Switch CombNet stage j) (HasRequestAt P S (wire_out CombNet stage j o) (Switch CombNet stage j) n r)
  comb_out stage j o s n r there lt is e =
      next_is P known S (Switch CombNet stage j) (Comb s) _ there is
      (by_case (request_stays (comb_settings P stage) (few P known S) t s o lt n r (stays_in _ _ (queue_at s.fwd o) n r (leaves_out CombNet stage j there o lt) (subst From port e))))
    where
      t : Traffic
      t = switch_traffic (moves P S) P.k CombNet stage j

      port : output_of (wire_out CombNet stage j o) ≡ o
      port = output_is P known S CombNet stage j there o lt

      From : ℕ → Type 0
      From p = slice_get (staying (is_some (request_over P S (wire_out CombNet stage j o))) (queue_at s.fwd p).items) n ≡ Some r

      next : CombState
      next = comb_after (comb_settings P stage) t s

      by_case : (q : Request) × (slice_get (queue_at next.fwd o).items n ≡ Some q)
          × ((q ≡ r) ⊎ ((i : ℕ) × (z : Request) × (i < 2) × (message_at t.requests i ≡ Some z) × (q ≡ both r z)))
          → HasRequestAt P S (wire_out CombNet stage j o) (Switch CombNet stage j) n r (Comb next)
      by_case (q, at, inl same) = let To : ℕ → Type 0 = λ p. slice_get (queue_at next.fwd p).items n ≡ Some q in (q, subst To (sym port) at, inl same)
      by_case (q, at, inr (i, z, li, came, with)) =
          let To : ℕ → Type 0 = λ p. slice_get (queue_at next.fwd p).items n ≡ Some q in
          (q, subst To (sym port) at, inr (i, z, li, sym (into_moved P known S CombNet stage j there i li) ∙ came, with))

  out_switch : (net : Net) (stage j o : ℕ) (s : MachineState) (n : ℕ) (r : Request) → Exists P.k (Switch net stage j) → o < 2 → state_of (Switch net stage j) ≡ Some s
      → slice_get (staying (is_some (request_over P S (wire_out net stage j o))) (requests_at (wire_out net stage j o) (Switch net stage j) s)) n ≡ Some r
      → StateHas P (cycle P S) (Switch net stage j) (HasRequestAt P S (wire_out net stage j o) (Switch net stage j) n r)
  out_switch LowNet stage j o (Low s) n r there lt is e = low_out stage j o s n r there lt is e
  out_switch CombNet stage j o (Comb s) n r there lt is e = comb_out stage j o s n r there lt is e
  out_switch LowNet stage j o (Proc s) n r there lt is e = absurd (nothing_stays _ n r e)
  out_switch LowNet stage j o (Module s) n r there lt is e = absurd (nothing_stays _ n r e)
  out_switch LowNet stage j o (Comb s) n r there lt is e = absurd (nothing_stays _ n r e)
  out_switch CombNet stage j o (Proc s) n r there lt is e = absurd (nothing_stays _ n r e)
  out_switch CombNet stage j o (Module s) n r there lt is e = absurd (nothing_stays _ n r e)
  out_switch CombNet stage j o (Low s) n r there lt is e = absurd (nothing_stays _ n r e)

  -- a request in a processor
  none_over : (w : Wire) (s : MachineState) (l : Option MachineState) → request_on w s ≡ None → at_ends (request_between P w) (Some s) l ≡ None
  none_over w s None e = refl
  none_over w s (Some l) e = ap (if_taken (λ r. takes_request P w r l)) e

  shown : (o : Outgoing) (net : Net) (r : Request) → out_on (Some o) net ≡ Some r → o.net ≡ net
  shown o net r e = by_test (net_number o.net == net_number net) refl e
    where
      by_test : (b : Bool) → (net_number o.net == net_number net) ≡ b → cond b (Some o.request) None ≡ Some r → o.net ≡ net
      by_test true same e = same_net o.net net same
      by_test false other e = absurd (no_some e)

  proc_stays : (p : ℕ) (s : ProcState) (o : Outgoing) (net : Net) → Exists P.k (ProcAt p) → state_of (ProcAt p) ≡ Some (Proc s) → s.out ≡ Some o → o.net ≡ net
      → request_over P S (wire_of_proc net p) ≡ None → (proc_traffic (moves P S) p).request_leaves ≡ false
  proc_stays p s o net there is held mine none = by_net net mine none
    where
      over : (m : Net) → request_on (wire_of_proc m p) (Proc s) ≡ None → request_over P S (wire_of_proc m p) ≡ None
      over m e =
          ap (λ u. at_ends (request_between P (wire_of_proc m p)) u (lower_state P S (wire_of_proc m p))) is
          ∙ none_over (wire_of_proc m p) (Proc s) (lower_state P S (wire_of_proc m p)) e

      hidden : (m : Net) → (net_number o.net == net_number m) ≡ false → request_on (wire_of_proc m p) (Proc s) ≡ None
      hidden m other = ap (λ u. out_on u m) held ∙ ap (λ b. cond b (Some o.request) None) other

      neither : request_over P S (wire_of_proc LowNet p) ≡ None → request_over P S (wire_of_proc CombNet p) ≡ None → (proc_traffic (moves P S) p).request_leaves ≡ false
      neither a c =
          ap (λ m. is_some m || is_some (moved_request (moves P S) (wire_of_proc CombNet p))) (request_moved P S (wire_of_proc LowNet p) (omega arith) there ∙ a)
          ∙ ap is_some (request_moved P S (wire_of_proc CombNet p) (omega arith) there ∙ c)

      by_net : (m : Net) → o.net ≡ m → request_over P S (wire_of_proc m p) ≡ None → (proc_traffic (moves P S) p).request_leaves ≡ false
      by_net LowNet mine none = neither none (over CombNet (hidden CombNet (ap (λ m. net_number m == 1) mine)))
      by_net CombNet mine none = neither (over LowNet (hidden LowNet (ap (λ m. net_number m == 0) mine))) none

  from_proc : (net : Net) (p : ℕ) (s : MachineState) (n : ℕ) (r : Request) → Exists P.k (ProcAt p) → state_of (ProcAt p) ≡ Some s
      → slice_get (staying (is_some (request_over P S (wire_of_proc net p))) (requests_at (wire_of_proc net p) (ProcAt p) s)) n ≡ Some r
      → StateHas P (cycle P S) (ProcAt p) (HasRequestAt P S (wire_of_proc net p) (ProcAt p) n r)
  from_proc net p (Proc s) n r there is e = by_out s.out (request_over P S (wire_of_proc net p)) refl refl e
    where
      by_out : (out : Option Outgoing) (over : Option Request) → s.out ≡ out → request_over P S (wire_of_proc net p) ≡ over
          → slice_get (staying (is_some over) (option_to_list (out_on out net))) n ≡ Some r
          → StateHas P (cycle P S) (ProcAt p) (HasRequestAt P S (wire_of_proc net p) (ProcAt p) n r)
      by_out None over held none e = absurd (nothing_stays (is_some over) n r e)
      by_out (Some o) (Some m) held gone e = absurd (rest_is_empty (out_on (Some o) net) e)
        where
          rest_is_empty : (m : Option Request) → slice_get (drop 1 (option_to_list m)) n ≡ Some r → ⊥
          rest_is_empty None e = no_some e
          rest_is_empty (Some q) e = no_some e
      by_out (Some o) None held none e = next_is P known S (ProcAt p) (Proc s) _ there is (r, ap (λ m. slice_get (option_to_list (out_on m net)) n) (out_stays ∙ held) ∙ e, refl)
        where
          first : (m : Option Request) → slice_get (option_to_list m) n ≡ Some r → m ≡ Some r
          first None e = absurd (no_some e)
          first (Some q) e = at n e
            where
              at : (i : ℕ) → slice_get (q ∷ []) i ≡ Some r → Some q ≡ Some r
              at zero e = e
              at (suc i) e = absurd (no_some e)

          out_stays : (proc_after (proc_settings P p s.index) (proc_traffic (moves P S) p) s).out ≡ s.out
          out_stays =
              proc_out (proc_settings P p s.index) (proc_traffic (moves P S) p) s o
              (proc_stays p s o net there is held (shown o net r (first (out_on (Some o) net) e)) none) held
  from_proc net p (Module s) n r there is e = absurd (nothing_stays _ n r e)
  from_proc net p (Low s) n r there is e = absurd (nothing_stays _ n r e)
  from_proc net p (Comb s) n r there is e = absurd (nothing_stays _ n r e)

  requests : (w : Wire) (s : MachineState) (n : ℕ) (r : Request) → IsWire P.k w → state_of (upper_end w) ≡ Some s
      → slice_get (staying (is_some (request_over P S w)) (requests_at w (upper_end w) s)) n ≡ Some r
      → StateHas P (cycle P S) (upper_end w) (HasRequestAt P S w (upper_end w) n r)
  requests w s n r there is e = by_stage w.stage refl
    where
      Holds : Wire → Component → Type 0
      Holds v x =
          state_of x ≡ Some s → slice_get (staying (is_some (request_over P S v)) (requests_at v x s)) n ≡ Some r
          → StateHas P (cycle P S) x (HasRequestAt P S v x n r)

      AtEnd : Wire → Type 0
      AtEnd v = Holds v (upper_end v)

      by_stage : (m : ℕ) → w.stage ≡ m → StateHas P (cycle P S) (upper_end w) (HasRequestAt P S w (upper_end w) n r)
      by_stage zero at =
          let same : w ≡ wire_of_proc w.net w.line = wire_is w (wire_of_proc w.net w.line) refl at refl in
          let h : AtEnd w = subst AtEnd (sym same) (λ is e. from_proc w.net w.line s n r there.1 is e) in h is e
      by_stage (suc m) at =
          let lt : m < P.k = omega (arith, there.0) in
          let here : Exists P.k (Switch w.net m (w.line / 2)) = (lt, omega (arith, there.1, half_twice P.k m lt)) in
          let same : w ≡ wire_out w.net m (w.line / 2) (w.line % 2) = wire_is w (wire_out w.net m (w.line / 2) (w.line % 2)) refl at (omega arith) in
          let low : w.line % 2 < 2 = omega arith in
          let G : Component → Type 0 = Holds (wire_out w.net m (w.line / 2) (w.line % 2)) in
          let h : AtEnd w = subst AtEnd (sym same)
          (subst G (sym (out_begins w.net m (w.line / 2) (w.line % 2) low)) (λ is e. out_switch w.net m (w.line / 2) (w.line % 2) s n r here low is e)) in h is e

  -- replies in a switch, and in a module
  into_switch : (net : Net) (stage j i : ℕ) (s : MachineState) (n : ℕ) (y : Reply) → Exists P.k (Switch net stage j) → i < 2 → state_of (Switch net stage j) ≡ Some s
      → slice_get (staying (is_some (reply_over P S (wire_into P.k net stage j i))) (replies_at P.k (wire_into P.k net stage j i) (Switch net stage j) s)) n ≡ Some y
      → StateHas P (cycle P S) (Switch net stage j) (HasReplyAt P.k (wire_into P.k net stage j i) (Switch net stage j) n y)
  into_switch LowNet stage j i (Low s) n y there lt is e =
      let port = input_is P known S LowNet stage j there i in
      let t = switch_traffic (moves P S) P.k LowNet stage j in
      let From : ℕ → Type 0 = λ p. slice_get (staying (is_some (reply_over P S (wire_into P.k LowNet stage j i))) (queue_at s.rev p).items) n ≡ Some y in
      let To : ℕ → Type 0 = λ p. slice_get (queue_at (low_after (P.k - 1 - stage) t s).rev p).items n ≡ Some y in
      next_is P known S (Switch LowNet stage j) (Low s) _ there is
      (subst To (sym port) (low_reply_stays (P.k - 1 - stage) t s i lt n y (stays_in _ _ (queue_at s.rev i) n y (leaves_in LowNet stage j there i lt) (subst From port e))))
  into_switch CombNet stage j i (Comb s) n y there lt is e =
      let port = input_is P known S CombNet stage j there i in
      let t = switch_traffic (moves P S) P.k CombNet stage j in
      let From : ℕ → Type 0 = λ p. slice_get (staying (is_some (reply_over P S (wire_into P.k CombNet stage j i))) (queue_at s.rev p).items) n ≡ Some y in
      let To : ℕ → Type 0 = λ p. slice_get (queue_at (comb_after (comb_settings P stage) t s).rev p).items n ≡ Some y in
      next_is P known S (Switch CombNet stage j) (Comb s) _ there is
      (subst To (sym port)
      (reply_stays (comb_settings P stage) (few P known S) t s i lt n y (stays_in _ _ (queue_at s.rev i) n y (leaves_in CombNet stage j there i lt) (subst From port e))))
  into_switch LowNet stage j i (Proc s) n y there lt is e = absurd (nothing_stays _ n y e)
  into_switch LowNet stage j i (Module s) n y there lt is e = absurd (nothing_stays _ n y e)
  into_switch LowNet stage j i (Comb s) n y there lt is e = absurd (nothing_stays _ n y e)
  into_switch CombNet stage j i (Proc s) n y there lt is e = absurd (nothing_stays _ n y e)
  into_switch CombNet stage j i (Module s) n y there lt is e = absurd (nothing_stays _ n y e)
  into_switch CombNet stage j i (Low s) n y there lt is e = absurd (nothing_stays _ n y e)

  into_module : (net : Net) (m : ℕ) (s : MachineState) (n : ℕ) (y : Reply) → Exists P.k (ModuleAt m) → state_of (ModuleAt m) ≡ Some s
      → slice_get (staying (is_some (reply_over P S (wire_of_module P.k net m))) (replies_at P.k (wire_of_module P.k net m) (ModuleAt m) s)) n ≡ Some y
      → StateHas P (cycle P S) (ModuleAt m) (HasReplyAt P.k (wire_of_module P.k net m) (ModuleAt m) n y)
  into_module net m (Module s) n y there is e =
      next_is P known S (ModuleAt m) (Module s) _ there is
      (module_reply_stays (depth_of P ModuleQueue) (module_traffic (moves P S) P.k m) s net n y (stays_in _ _ (queue_at s.replies (net_number net)) n y (leaves net) e))
    where
      leaves : (net : Net) → is_some (reply_over P S (wire_of_module P.k net m)) ≡ mark_at (module_traffic (moves P S) P.k m).replies_leave (net_number net)
      leaves LowNet = ap is_some (sym (reply_moved P S (wire_of_module P.k LowNet m) (omega arith) there))
      leaves CombNet = ap is_some (sym (reply_moved P S (wire_of_module P.k CombNet m) (omega arith) there))
  into_module net m (Proc s) n y there is e = absurd (nothing_stays _ n y e)
  into_module net m (Low s) n y there is e = absurd (nothing_stays _ n y e)
  into_module net m (Comb s) n y there is e = absurd (nothing_stays _ n y e)

  replies : (w : Wire) (s : MachineState) (n : ℕ) (y : Reply) → IsWire P.k w → state_of (lower_end P.k w) ≡ Some s
      → slice_get (staying (is_some (reply_over P S w)) (replies_at P.k w (lower_end P.k w) s)) n ≡ Some y
      → StateHas P (cycle P S) (lower_end P.k w) (HasReplyAt P.k w (lower_end P.k w) n y)
  replies w s n y there is e = by_test (w.stage == P.k) refl
    where
      Holds : Wire → Component → Type 0
      Holds v x =
          state_of x ≡ Some s → slice_get (staying (is_some (reply_over P S v)) (replies_at P.k v x s)) n ≡ Some y
          → StateHas P (cycle P S) x (HasReplyAt P.k v x n y)

      AtEnd : Wire → Type 0
      AtEnd v = Holds v (lower_end P.k v)

      by_test : (t : Bool) → (w.stage == P.k) ≡ t → StateHas P (cycle P S) (lower_end P.k w) (HasReplyAt P.k w (lower_end P.k w) n y)
      by_test true t =
          let same : w ≡ wire_of_module P.k w.net w.line = wire_is w (wire_of_module P.k w.net w.line) refl (eqb-true _ _ t) refl in
          let G : Component → Type 0 = Holds (wire_of_module P.k w.net w.line) in
          let h : AtEnd w = subst AtEnd (sym same) (subst G (sym (module_end P.k w.line w.net)) (λ is e. into_module w.net w.line s n y there.1 is e)) in h is e
      by_test false t =
          let stage : w.stage ≤ P.k = there.0 in
          let lt : w.stage < P.k = grind (arith, nat_tests) in
          let some = half_some P.k w.stage lt in
          let j = w.line % half P.k in
          let i = w.line / half P.k in
          let at : Exists P.k (Switch w.net w.stage j) = (lt, mod-lt w.line some) in
          let same : w ≡ wire_into P.k w.net w.stage j i = wire_is w (wire_into P.k w.net w.stage j i) refl refl (sym (div-add-mod' w.line (half P.k))) in
          let G : Component → Type 0 = Holds (wire_into P.k w.net w.stage j i) in
          let h : AtEnd w = subst AtEnd (sym same)
          (subst G (sym (into_ends P.k w.net w.stage j i lt at.1)) (λ is e. into_switch w.net w.stage j i s n y at (input_port P.k w there some) is e)) in h is e

  asked : (m : ℕ) (s : ModuleState) (net : Net) (n : ℕ) (r : Request) → Exists P.k (ModuleAt m) → state_of (ModuleAt m) ≡ Some (Module s)
      → slice_get (staying (is_net net (served_net s (depth_of P ModuleQueue))) (queue_at s.requests (net_number net)).items) n ≡ Some r
      → StateHas P (cycle P S) (ModuleAt m) (HasAskedAt net n r)
  asked m s net n r there is e =
      next_is P known S (ModuleAt m) (Module s) _ there is
      (module_request_stays (depth_of P ModuleQueue) (module_traffic (moves P S) P.k m) s net n r (stays_in _ _ (queue_at s.requests (net_number net)) n r refl e))

  waiting : (stage j : ℕ) (s : CombState) (w : Waiting) → Exists P.k (Switch CombNet stage j) → state_of (Switch CombNet stage j) ≡ Some (Comb s) → Contains s.wait.items w
      → ((o : ℕ) (y : Reply) → o < 2 → reply_over P S (wire_out CombNet stage j o) ≡ Some y → y.tag ≢ w.first)
      → StateHas P (cycle P S) (Switch CombNet stage j) (HasWaiting w)
  waiting stage j s w there is c other =
      next_is P known S (Switch CombNet stage j) (Comb s) _ there is
      (entry_stays (comb_settings P stage) (few P known S) (switch_traffic (moves P S) P.k CombNet stage j) s w
      (λ o y lt came. other o y lt (sym (out_moved P known S CombNet stage j there o lt) ∙ came)) c)

pub messages_stay : MessagesStay
messages_stay P known S = record { requests = requests P known S; replies = replies P known S; asked = asked P known S; waiting = waiting P known S }
