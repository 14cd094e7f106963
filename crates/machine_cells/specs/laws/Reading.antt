-- Nothing in this file needs believing: it is proofs, which stand here since a definition of `specs/` cites them.
-- Where two projects agree in what a cell reads after cycle 0, its step is the same.
use Rattle.std.proofs.Common.{◌≡◌, ℕ, zero, suc, ◌+◌, ◌*◌, ◌-◌, ◌%◌, ◌^◌, Bool, true, false, cond, List, [], ◌∷◌, ◌++◌, refl, ap, sym, ◌∙◌, Option, None, Some, arith, subst}
use Rattle.std.specs.Prelude.{slice_get, ◌==◌, is_none, ◌&&◌, ◌||◌, nat_lt, nat_le, if◌then◌else◌}
use Rattle.std.proofs.lemmas.Bool.{eqb-true}
use Rattle.omega_net.specs.declared.component.Net.{Net}
use Rattle.omega_net.specs.declared.component.Net.TheVariants.{Low as LowNet, Comb as CombNet}
use Rattle.omega_net.specs.declared.component.Component.{Component}
use Rattle.omega_net.specs.declared.component.Component.TheVariants.{Proc as ProcAt, Module as ModuleAt, Switch}
use Rattle.omega_net.specs.declared.message.Request.{Request}
use Rattle.omega_net.specs.declared.message.Reply.{Reply}
use Rattle.omega_net.specs.declared.wire.Wire.{Wire}
use Rattle.omega_net.specs.Numbers.{half, Exists}
use Rattle.omega_net.specs.Wires.{net_number, upper_at, upper_end, lower_end, wire_of_proc, wire_of_module, wire_into, wire_out}
use Rattle.machine_cells.specs.declared.state.MachineState.{MachineState}
use Rattle.machine_cells.specs.declared.state.MachineState.TheVariants.{Proc, Module, Low, Comb}
use Rattle.low_switch.specs.declared.state.LowState.{LowState}
use Rattle.low_switch.specs.LowSwitch.{low_after}
use Rattle.word_ops.specs.declared.op.Op.{Op}
use Rattle.page_map.specs.declared.place.Place.{Place}
use Rattle.page_map.specs.Places.{place_on}
use Rattle.omega_net.specs.declared.script.ScriptEntry.{ScriptEntry}
use Rattle.omega_net.specs.declared.script.ScriptEntry.TheVariants.{Reference, Until, Fence, Idle}
use Rattle.ref_proc.specs.declared.state.Outgoing.{Outgoing}
use Rattle.ref_proc.specs.declared.state.ProcState.{ProcState}
use Rattle.ref_proc.specs.declared.step.ProcSettings.{ProcSettings}
use Rattle.ref_proc.specs.RefProc.{acting, taking, proc_after, on_after, issuing, tries, has_brought, next_entry, out_on}
use Rattle.mem_module.specs.declared.state.ModuleState.{ModuleState}
use Rattle.mem_module.specs.MemModule.{module_after}
use Rattle.comb_switch.specs.declared.state.CombState.{CombState}
use Rattle.comb_switch.specs.declared.settings.CombSettings.{CombSettings}
use Rattle.comb_switch.specs.CombSwitch.{comb_after}
use Rattle.ref_proc.specs.declared.step.ProcTraffic.{ProcTraffic}
use Rattle.machine_cells.specs.Cycle.{proc_settings, comb_settings}
use Rattle.project_book.specs.Limits.{script_entries}
use Rattle.project_book.specs.Project.{Project, forward, reverse, depth_of, place_for, entry_at}
use Rattle.project_book.specs.Queues.{forward_queue}
use Rattle.project_book.specs.Scripts.{script_of}
use Rattle.project_book.specs.declared.slot.Slot.{Slot}
use Rattle.project_book.specs.declared.slot.Slot.TheVariants.{Entry, Depth}
use Rattle.project_book.specs.Slots.{SameAt}
use Rattle.project_book.specs.declared.edit.Depths.TheVariants.{ModuleQueue}
use Rattle.machine_cells.specs.Moves.{takes_request, takes_request_at, takes_reply, takes_reply_at, request_between, reply_between, request_on, reply_on, if_taken, at_ends}
use Rattle.machine_cells.specs.Cells.{beside_on, proc_pulls, module_pulls, request_pulled, reply_pulled, switch_pulls, pulled}
use Rattle.machine_cells.specs.Reads.{later_reads, index_reads, last_reads, entry_reads, out_reads, back_reads, SameAtAll}
use Rattle.omega_net.proofs.Ends.{into_ends}
use Rattle.machine_cells.specs.laws.Traffic.{same_net, same_traffic, same_proc, same_module, module_end}

-- the depth that is read at a wire's end
abbrev SameInto : Project → Project → Component → Type 0
SameInto P Q (ProcAt p) = Unit {0}
SameInto P Q (ModuleAt m) = (depth_of P ModuleQueue) ≡ (depth_of Q ModuleQueue)
SameInto P Q (Switch net stage j) = forward P net ≡ forward Q net

abbrev SameBack : Project → Project → Component → Type 0
SameBack P Q (ProcAt p) = Unit {0}
SameBack P Q (ModuleAt m) = Unit {0}
SameBack P Q (Switch net stage j) = reverse P net ≡ reverse Q net

abbrev IsReference : Option ScriptEntry → Type 0
IsReference (Some (Reference sync op address times)) = Unit {0}
IsReference (Some (Until sync op address value times)) = Unit {0}
IsReference _ = ⊥

abbrev with_parts : ℕ → ℕ → Place → ProcSettings
with_parts window proc place = record { proc = proc; entry = None; place = place; window = window }

referring_same : (sync : Bool) (op : Op) (s : ProcState) (w w' p p' : ℕ) (c c' : Place) → w ≡ w' → p ≡ p' → c ≡ c'
    → (if is_none s.out && nat_lt s.pending w then issuing (with_parts w p c) sync op s else s)
    ≡ (if is_none s.out && nat_lt s.pending w' then issuing (with_parts w' p' c') sync op s else s)
referring_same sync op s w w' p p' c c' ew ep ec =
    ap (λ n. if is_none s.out && nat_lt s.pending n then issuing (with_parts n p c) sync op s else s) ew
    ∙ ap (λ n. if is_none s.out && nat_lt s.pending w' then issuing (with_parts w' n c) sync op s else s) ep
    ∙ ap (λ x. if is_none s.out && nat_lt s.pending w' then issuing (with_parts w' p' x) sync op s else s) ec

-- a processor's wire meets a switch of the first stage, where there is one
first_stage : (n p : ℕ) (net : Net) → lower_end (suc n) (wire_of_proc net p) ≡ Switch net 0 (p % half (suc n))
first_stage n p net = by_test (zero == suc n) refl
  where
    by_test : (t : Bool) → (zero == suc n) ≡ t → cond t (ModuleAt p) (Switch net 0 (p % half (suc n))) ≡ Switch net 0 (p % half (suc n))
    by_test true e = let same : zero ≡ suc n = eqb-true zero (suc n) e in absurd (omega arith)
    by_test false e = refl

-- where nothing is shown, nothing goes
nothing_goes : (R : Project) (N : List MachineState) (w : Wire) (l : ℕ) (own : MachineState) → slice_get N 0 ≡ Some own → request_on w own ≡ None → request_pulled R N w 0 l ≡ None
nothing_goes R N w l own first none = ap (λ o. at_ends (request_between R w) o (slice_get N l)) first ∙ by_lower (slice_get N l)
  where
    by_lower : (b : Option MachineState) → at_ends (request_between R w) (Some own) b ≡ None
    by_lower None = refl
    by_lower (Some b) = ap (λ o. if_taken (λ r. takes_request R w r b) o) none

abbrev settings_of : ℕ → Bool → ℕ → CombSettings
settings_of b c w = record { bit = b; combine = c; wait = w }

settings_from : (b b' : ℕ) (c c' : Bool) (w w' : ℕ) → b ≡ b' → c ≡ c' → w ≡ w' → settings_of b c w ≡ settings_of b' c' w'
settings_from b b' c c' w w' p q r = ap (λ x. settings_of x c w) p ∙ ap (λ x. settings_of b' x w) q ∙ ap (λ x. settings_of b' c' x) r

no_entry : (R : Project) (p i : ℕ) → nat_lt i script_entries ≡ false → entry_at R p i ≡ None
no_entry R p i e = rw e (by_test (nat_lt p (2 ^ R.k)))
  where
    by_test : (t : Bool) → (if t && false then slice_get (script_of R.scripts p) i else None) ≡ None
    by_test true = refl
    by_test false = refl

module _ (P Q : Project) (k : P.k ≡ Q.k) where
  takes_same : (w : Wire) (r : Request) (e : Component) (s : MachineState) → SameInto P Q e → takes_request_at P w r e s ≡ takes_request_at Q w r e s
  takes_same w r (ModuleAt m) (Module s) h = rw h refl
  takes_same w r (Switch LowNet stage j) (Low s) h = rw (h, k) refl
  takes_same w r (Switch CombNet stage j) (Comb s) h = rw (h, k) refl
  takes_same w r _ _ h = refl

  back_same : (w : Wire) (y : Reply) (e : Component) (s : MachineState) → SameBack P Q e → takes_reply_at P w y e s ≡ takes_reply_at Q w y e s
  back_same w y (Switch LowNet stage j) (Low s) h = rw (h, k) refl
  back_same w y (Switch CombNet stage j) (Comb s) h = rw h refl
  back_same w y _ _ h = refl

  taken_same : {T : Type 0} (f g : T → Bool) (o : Option T) → ((m : T) → f m ≡ g m) → if_taken f o ≡ if_taken g o
  taken_same f g None h = refl
  taken_same f g (Some m) h = ap (λ b. if b then Some m else None) (h m)

  requests_same : (N : List MachineState) (w : Wire) (u l : ℕ) → SameInto P Q (lower_end P.k w) → request_pulled P N w u l ≡ request_pulled Q N w u l
  requests_same N w u l h = by_states (slice_get N u) (slice_get N l)
    where
      to_q : (r : Request) (s : MachineState) → takes_request P w r s ≡ takes_request Q w r s
      to_q r s = takes_same w r (lower_end P.k w) s h ∙ ap (λ n. takes_request_at Q w r (lower_end n w) s) k

      by_states : (a b : Option MachineState) → at_ends (request_between P w) a b ≡ at_ends (request_between Q w) a b
      by_states (Some a) (Some b) = taken_same _ _ (request_on w a) (λ r. to_q r b)
      by_states None None = refl
      by_states None (Some b) = refl
      by_states (Some a) None = refl

  replies_same : (N : List MachineState) (w : Wire) (u l : ℕ) → SameBack P Q (upper_end w) → reply_pulled P N w u l ≡ reply_pulled Q N w u l
  replies_same N w u l h = by_states (slice_get N u) (slice_get N l)
    where
      by_states : (a b : Option MachineState) → at_ends (reply_between P w) a b ≡ at_ends (reply_between Q w) a b
      by_states (Some a) (Some b) =
          taken_same _ _ (reply_on P.k w b) (λ y. back_same w y (upper_end w) a h) ∙ ap (λ n. if_taken (λ y. takes_reply Q w y a) (reply_on n w b)) k
      by_states None None = refl
      by_states None (Some b) = refl
      by_states (Some a) None = refl

  forward_same : (net : Net) → SameAt P Q (Depth (forward_queue net)) → forward P net ≡ forward Q net
  forward_same LowNet h = h
  forward_same CombNet h = h

  -- a switch
  into_same : (net : Net) (stage j i : ℕ) → Exists P.k (Switch net stage j) → forward P net ≡ forward Q net → SameInto P Q (lower_end P.k (wire_into P.k net stage j i))
  into_same net stage j i e f = let R : Component → Type 0 = λ x. SameInto P Q x in subst R (sym (into_ends P.k net stage j i e.0 e.1)) f

  out_same : (net : Net) (stage j o : ℕ) → forward P net ≡ forward Q net → SameAtAll P Q (last_reads P.k stage) → SameInto P Q (lower_end P.k (wire_out net stage j o))
  out_same net stage j o f last = by_test (suc stage == P.k) last
    where
      by_test : (t : Bool) → SameAtAll P Q (if t then Depth ModuleQueue ∷ [] else [])
          → SameInto P Q (cond t (ModuleAt (2 * j + o)) (Switch net (suc stage) ((2 * j + o) % half P.k)))
      by_test true h = h.0
      by_test false h = f

  back_from : (net : Net) (stage l : ℕ) → reverse P net ≡ reverse Q net → SameBack P Q (upper_at net stage l)
  back_from net zero l h = tt
  back_from net (suc stage) l h = h

  switch_agrees : (N : List MachineState) (net : Net) (stage j : ℕ) → Exists P.k (Switch net stage j) → forward P net ≡ forward Q net → reverse P net ≡ reverse Q net
      → SameAtAll P Q (last_reads P.k stage) → switch_pulls P N net stage j ≡ switch_pulls Q N net stage j
  switch_agrees N net stage j e forward reverse last =
      same_traffic _ _ _ _ _ _ _ _ _ _ _ _ _ _ _ _
      (in_q 0 1 0) (in_q 1 2 0) (replies_same N (wire_out net stage j 0) 0 3 reverse) (replies_same N (wire_out net stage j 1) 0 4 reverse)
      (requests_same N (wire_out net stage j 0) 0 3 (out_same net stage j 0 forward last)) (requests_same N (wire_out net stage j 1) 0 4 (out_same net stage j 1 forward last))
      (back_q 0 1 0) (back_q 1 2 0)
    where
      in_q : (i u l : ℕ) → request_pulled P N (wire_into P.k net stage j i) u l ≡ request_pulled Q N (wire_into Q.k net stage j i) u l
      in_q i u l =
          requests_same N (wire_into P.k net stage j i) u l (into_same net stage j i e forward) ∙ ap (λ n. request_pulled Q N (wire_into n net stage j i) u l) k

      back_q : (i u l : ℕ) → reply_pulled P N (wire_into P.k net stage j i) u l ≡ reply_pulled Q N (wire_into Q.k net stage j i) u l
      back_q i u l =
          replies_same N (wire_into P.k net stage j i) u l (back_from net stage (i * half P.k + j) reverse) ∙ ap (λ n. reply_pulled Q N (wire_into n net stage j i) u l) k

  low_agrees : (N : List MachineState) (stage j : ℕ) (s : LowState) → Exists P.k (Switch LowNet stage j) → SameAtAll P Q (later_reads P (Some (Switch LowNet stage j)) (Low s))
      → pulled P N (Some (Switch LowNet stage j)) (Low s) ≡ pulled Q N (Some (Switch LowNet stage j)) (Low s)
  low_agrees N stage j s e h =
      ap (λ t. Low (low_after (P.k - 1 - stage) t s)) (switch_agrees N LowNet stage j e h.0 h.1.0 h.1.1)
      ∙ ap (λ n. Low (low_after (n - 1 - stage) (switch_pulls Q N LowNet stage j) s)) k

  comb_agrees : (N : List MachineState) (stage j : ℕ) (s : CombState) → Exists P.k (Switch CombNet stage j) → SameAtAll P Q (later_reads P (Some (Switch CombNet stage j)) (Comb s))
      → pulled P N (Some (Switch CombNet stage j)) (Comb s) ≡ pulled Q N (Some (Switch CombNet stage j)) (Comb s)
  comb_agrees N stage j s e h =
      ap (λ t. Comb (comb_after (comb_settings P stage) t s)) (switch_agrees N CombNet stage j e h.0 h.1.0 h.1.1.1.1)
      ∙ ap (λ x. Comb (comb_after x (switch_pulls Q N CombNet stage j) s)) settings
    where
      settings : comb_settings P stage ≡ comb_settings Q stage
      settings = settings_from _ _ _ _ _ _ (ap (λ n. n - 1 - stage) k) h.1.1.1.0 h.1.1.0

  -- a module
  module_agrees : (N : List MachineState) (m : ℕ) (s : ModuleState) → SameAtAll P Q (later_reads P (Some (ModuleAt m)) (Module s))
      → pulled P N (Some (ModuleAt m)) (Module s) ≡ pulled Q N (Some (ModuleAt m)) (Module s)
  module_agrees N m s h =
      ap (λ t. Module (module_after (depth_of P ModuleQueue) t s)) traffic ∙ ap (λ n. Module (module_after n (module_pulls Q N m) s)) h.0
    where
      into_m : (net : Net) → SameInto P Q (lower_end P.k (wire_of_module P.k net m))
      into_m net = let R : Component → Type 0 = λ x. SameInto P Q x in subst R (sym (module_end P.k m net)) h.0

      back_m : (n : ℕ) (net : Net) → SameAtAll P Q (back_reads n) → SameBack P Q (upper_at net n m)
      back_m zero net r = tt
      back_m (suc n) LowNet r = r.0
      back_m (suc n) CombNet r = r.1.0

      request_q : (net : Net) → request_pulled P N (wire_of_module P.k net m) (beside_on P.k net) 0 ≡ request_pulled Q N (wire_of_module Q.k net m) (beside_on Q.k net) 0
      request_q net =
          requests_same N (wire_of_module P.k net m) (beside_on P.k net) 0 (into_m net) ∙ ap (λ n. request_pulled Q N (wire_of_module n net m) (beside_on n net) 0) k

      reply_q : (net : Net) → reply_pulled P N (wire_of_module P.k net m) (beside_on P.k net) 0 ≡ reply_pulled Q N (wire_of_module Q.k net m) (beside_on Q.k net) 0
      reply_q net =
          replies_same N (wire_of_module P.k net m) (beside_on P.k net) 0 (back_m P.k net h.1) ∙ ap (λ n. reply_pulled Q N (wire_of_module n net m) (beside_on n net) 0) k

      traffic : module_pulls P N m ≡ module_pulls Q N m
      traffic = same_module _ _ _ _ _ _ _ _ (request_q LowNet) (request_q CombNet) (reply_q LowNet) (reply_q CombNet)

  -- a processor
  acting_same : (a b : ProcSettings) (entry : Option ScriptEntry) (s : ProcState) → a.proc ≡ b.proc → (IsReference entry → (a.window ≡ b.window) × (a.place ≡ b.place))
      → acting a entry s ≡ acting b entry s
  acting_same a b None s p r = refl
  acting_same a b (Some Fence) s p r = refl
  acting_same a b (Some (Idle turns)) s p r = refl
  acting_same a b (Some (Reference sync op address times)) s p r =
      ap (on_after times) (referring_same sync op s a.window b.window a.proc b.proc a.place b.place (r tt).0 p (r tt).1)
  acting_same a b (Some (Until sync op address value times)) s p r =
      ap (λ x. if tries value times s then x else (if has_brought value s || nat_le times s.spent then next_entry s else s))
      (referring_same sync op s a.window b.window a.proc b.proc a.place b.place (r tt).0 p (r tt).1)

  settings_same : (entry : Option ScriptEntry) (slots : List Slot) → SameAtAll P Q (entry_reads entry ++ slots) → IsReference entry → (P.window ≡ Q.window) × (place_for P entry ≡ place_for Q entry)
  settings_same None slots h r = absurd r
  settings_same (Some Fence) slots h r = absurd r
  settings_same (Some (Idle turns)) slots h r = absurd r
  settings_same (Some (Reference sync op address times)) slots h r = (h.0, ap (λ page. place_on page address) h.1.0)
  settings_same (Some (Until sync op address value times)) slots h r = (h.0, ap (λ page. place_on page address) h.1.0)

  after_entry : (entry : Option ScriptEntry) (slots : List Slot) → SameAtAll P Q (entry_reads entry ++ slots) → SameAtAll P Q slots
  after_entry None slots h = h
  after_entry (Some Fence) slots h = h
  after_entry (Some (Idle turns)) slots h = h
  after_entry (Some (Reference sync op address times)) slots h = h.1.1
  after_entry (Some (Until sync op address value times)) slots h = h.1.1

  -- a processor's request, on its own network or on the other
  shown_same : (N : List MachineState) (net : Net) (p l : ℕ) (o : Option Outgoing) (own : MachineState) → slice_get N 0 ≡ Some own → request_on (wire_of_proc net p) own ≡ out_on o net
      → SameAtAll P Q (out_reads P.k o) → request_pulled P N (wire_of_proc net p) 0 l ≡ request_pulled Q N (wire_of_proc net p) 0 l
  shown_same N net p l None own first shown h = nothing_goes P N _ l own first shown ∙ sym (nothing_goes Q N _ l own first shown)
  shown_same N net p l (Some o) own first shown h = by_net (net_number o.net == net_number net) refl
    where
      into_is : (n : ℕ) → o.net ≡ net → SameAtAll P Q (out_reads n (Some o)) → SameInto P Q (lower_end n (wire_of_proc net p))
      into_is zero e r = r.0
      into_is (suc n) e r =
          let F : Net → Type 0 = λ x. forward P x ≡ forward Q x in
          let R : Component → Type 0 = λ x. SameInto P Q x in
          subst R (sym (first_stage n p net)) (subst F e (forward_same o.net r.0))

      by_net : (t : Bool) → (net_number o.net == net_number net) ≡ t → request_pulled P N (wire_of_proc net p) 0 l ≡ request_pulled Q N (wire_of_proc net p) 0 l
      by_net true e = requests_same N (wire_of_proc net p) 0 l (into_is P.k (same_net o.net net e) h)
      by_net false e =
          let none : request_on (wire_of_proc net p) own ≡ None = shown ∙ ap (λ t. if t then Some o.request else None) e in
          nothing_goes P N _ l own first none ∙ sym (nothing_goes Q N _ l own first none)

  -- what is read of the entry at an index
  pub entry_same : (p i : ℕ) (slots : List Slot) → SameAtAll P Q (index_reads p i ++ slots) → (entry_at P p i ≡ entry_at Q p i) × SameAtAll P Q slots
  entry_same p i slots h = by_test (nat_lt i script_entries) refl h
    where
      by_test : (t : Bool) → nat_lt i script_entries ≡ t → SameAtAll P Q ((if t then Entry p i ∷ [] else []) ++ slots) → (entry_at P p i ≡ entry_at Q p i) × SameAtAll P Q slots
      by_test true e h = (h.0, h.1)
      by_test false e h = (no_entry P p i e ∙ sym (no_entry Q p i e), h)

  beside_same : (net : Net) → beside_on P.k net ≡ beside_on Q.k net
  beside_same net = ap (λ n. beside_on n net) k

  proc_agrees : (others : List MachineState) (p : ℕ) (s : ProcState) → SameAtAll P Q (later_reads P (Some (ProcAt p)) (Proc s))
      → pulled P (Proc s ∷ others) (Some (ProcAt p)) (Proc s) ≡ pulled Q (Proc s ∷ others) (Some (ProcAt p)) (Proc s)
  proc_agrees others p s h =
      ap (λ t. Proc (proc_after (proc_settings P p s.index) t s)) traffic ∙ ap Proc (acted (proc_pulls Q N p))
    where
      N : List MachineState
      N = Proc s ∷ others

      read : (entry_at P p s.index ≡ entry_at Q p s.index) × SameAtAll P Q (entry_reads (entry_at P p s.index) ++ out_reads P.k s.out)
      read = entry_same p s.index _ h

      slots : SameAtAll P Q (out_reads P.k s.out)
      slots = after_entry (entry_at P p s.index) _ read.1

      reply_q : (net : Net) → reply_pulled P (Proc s ∷ others) (wire_of_proc net p) 0 (beside_on P.k net) ≡ reply_pulled Q (Proc s ∷ others) (wire_of_proc net p) 0 (beside_on Q.k net)
      reply_q net =
          replies_same (Proc s ∷ others) (wire_of_proc net p) 0 (beside_on P.k net) tt ∙ ap (λ l. reply_pulled Q (Proc s ∷ others) (wire_of_proc net p) 0 l) (beside_same net)

      request_q : (net : Net) → request_pulled P (Proc s ∷ others) (wire_of_proc net p) 0 (beside_on P.k net) ≡ request_pulled Q (Proc s ∷ others) (wire_of_proc net p) 0 (beside_on Q.k net)
      request_q net =
          shown_same (Proc s ∷ others) net p (beside_on P.k net) s.out (Proc s) refl refl slots ∙ ap (λ l. request_pulled Q (Proc s ∷ others) (wire_of_proc net p) 0 l) (beside_same net)

      traffic : proc_pulls P (Proc s ∷ others) p ≡ proc_pulls Q (Proc s ∷ others) p
      traffic = same_proc _ _ _ _ _ _ _ _ (reply_q LowNet) (reply_q CombNet) (request_q LowNet) (request_q CombNet)

      acted : (t : ProcTraffic) → proc_after (proc_settings P p s.index) t s ≡ proc_after (proc_settings Q p s.index) t s
      acted t =
          acting_same (proc_settings P p s.index) (proc_settings Q p s.index) (entry_at P p s.index) (taking t s) refl
          (λ r. let both = settings_same (entry_at P p s.index) _ read.1 r in (both.0, both.1 ∙ ap (place_for Q) read.0))
          ∙ ap (λ e. acting (proc_settings Q p s.index) e (taking t s)) read.0

-- the agreement law, of every component that there is, and of every near states that begin with its own
pub steps_agree : (P Q : Project) (own : MachineState) (others : List MachineState) (x : Component) → Exists P.k x → P.k ≡ Q.k → SameAtAll P Q (later_reads P (Some x) own)
    → pulled P (own ∷ others) (Some x) own ≡ pulled Q (own ∷ others) (Some x) own
steps_agree P Q (Proc s) others (ProcAt p) e k h = proc_agrees P Q k others p s h
steps_agree P Q (Module s) others (ModuleAt m) e k h = module_agrees P Q k (Module s ∷ others) m s h
steps_agree P Q (Low s) others (Switch LowNet stage j) e k h = low_agrees P Q k (Low s ∷ others) stage j s e h
steps_agree P Q (Comb s) others (Switch CombNet stage j) e k h = comb_agrees P Q k (Comb s ∷ others) stage j s e h
steps_agree P Q _ others (Switch LowNet stage j) e k h = refl
steps_agree P Q _ others (Switch CombNet stage j) e k h = refl
steps_agree P Q _ others _ e k h = refl
