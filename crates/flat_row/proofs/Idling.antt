-- A row in which nothing waits and all processors rest is its own successor.
use Rattle.std.proofs.Common.{◌≡◌, ℕ, suc, ◌+◌, ◌-◌, ◌*◌, ◌<◌, ◌≤◌, Bool, true, false, List, [], ◌∷◌, refl, ap, sym, ◌∙◌, inl, inr, ◌⊎◌, Option, None, Some, arith}
use Rattle.std.specs.Prelude.{◌||◌, is_some, slice_get}
use Rattle.std.proofs.lemmas.Bool.{cases_lt}
use Rattle.std.proofs.lemmas.List.{get_or_past}
use Rattle.std.proofs.lemmas.Nat.Bits.{bit_at-zero}
use Rattle.arrayvec.specs.ArrayVec.{ArrayVec}
use Rattle.omega_net.specs.declared.component.Net.{Net}
use Rattle.omega_net.specs.declared.component.Net.TheVariants.{Low as LowNet, Comb as CombNet}
use Rattle.omega_net.specs.declared.component.Component.{Component}
use Rattle.omega_net.specs.declared.component.Component.TheVariants.{Proc as ProcAt, Module as ModuleAt, Switch}
use Rattle.omega_net.specs.declared.message.Request.{Request}
use Rattle.omega_net.specs.declared.message.Reply.{Reply}
use Rattle.omega_net.specs.Numbers.{lines, half, Exists}
use Rattle.omega_net.specs.Wires.{bit, wire_into, wire_out, wire_of_module, wire_of_proc}
use Rattle.omega_net.specs.Ports.{empty, queue_at}
use Rattle.ref_proc.specs.declared.step.ProcTraffic.{ProcTraffic}
use Rattle.ref_proc.specs.RefProc.{proc_after}
use Rattle.mem_module.specs.declared.step.ModuleTraffic.{ModuleTraffic}
use Rattle.mem_module.specs.MemModule.{module_after}
use Rattle.low_switch.specs.LowSwitch.{low_after}
use Rattle.comb_switch.specs.CombSwitch.{comb_after}
use Rattle.omega_net.specs.declared.message.Traffic.{Traffic}
use Rattle.project_book.specs.Project.{Project, IsProject, depth_of}
use Rattle.project_book.specs.declared.edit.Depths.TheVariants.{ModuleQueue}
use Rattle.machine_cells.specs.declared.state.MachineState.TheVariants.{Proc, Module, Low, Comb}
use Rattle.machine_cells.specs.Moves.{Move, moves, moved_request, moved_reply}
use Rattle.machine_cells.specs.Cycle.{cycle, part_of, comb_settings, proc_settings, proc_traffic, module_traffic, switch_traffic}
use Rattle.machine_cells.specs.Quiet.{quiet, quiet_module}
use Rattle.machine_cells.proofs.Resting.{module_rests}
use Rattle.flat_row.specs.declared.marks.Marks.{Marks}
use Rattle.flat_row.specs.declared.marks.Rule.{Rule}
use Rattle.flat_row.specs.Labels.{label, switch_label}
use Rattle.flat_row.specs.Queues.{AreMarked}
use Rattle.flat_row.specs.Shows.{on_line}
use Rattle.flat_row.specs.Row.{Arrays, IsRow, IsRowOf, queue_of, state_of, states_of, proc_of, module_of, low_of, comb_of, buffers_at, wait_of, combined_of}
use Rattle.flat_row.specs.Rows.{if_leaves, network}
use Rattle.flat_row.specs.Idle.{IsIdle}
use Rattle.flat_row.proofs.Rowing.{request_moves, reply_moves, network_holds}
use Rattle.flat_row.proofs.Turning.{line_in, line_out}
use Rattle.flat_row.proofs.Processing.{label_small}
use Rattle.flat_row.proofs.Still.{none_has}
use Rattle.flat_row.proofs.Cycling.{cycle_is}

-- nothing waits in a queue that doesn't show a message
pub blank_queues : {T : Type 0} (route : T → ℕ) (rule : Rule) (queues : List (ArrayVec T)) (marks : Marks) → AreMarked route rule queues marks → marks.any ≡ 0
    → (x : ℕ) → queue_at queues x ≡ empty
blank_queues {T} route rule queues marks are none x = by_place (cases_lt x 64)
  where
    by_items : (xs : List T) → is_some (slice_get xs 0) ≡ false → xs ≡ []
    by_items [] e = refl
    by_items (y ∷ ys) e = cc

    by_place : (x < 64) ⊎ (64 ≤ x) → queue_at queues x ≡ empty
    by_place (inl small) =
        let e : is_some (slice_get (queue_at queues x).items 0) ≡ false = sym (ap (λ s. s.any) (are.marked x small)) ∙ none_has marks.any x none in
        ap (λ (xs : List T). record { items = xs }) (by_items (queue_at queues x).items e)
    by_place (inr past) = let few = are.few in get_or_past queues x empty (omega (arith, past, few))

pub none_in_both : (once twice x : ℕ) → once ≡ 0 → twice ≡ 0 → bit x once + bit x twice ≡ 0
none_in_both once twice x e f = ap (λ n. bit x n + bit x twice) e ∙ ap (λ n. bit x 0 + bit x n) f ∙ ap (λ n. n + n) (bit_at-zero x)

abbrev blank_of : (T : Type 0) → ArrayVec T
blank_of T = record { items = [] }

no_head : {T : Type 0} (t : Bool) (q : ArrayVec T) → q ≡ blank_of T → if_leaves t q ≡ None
no_head {T} t q e = ap (if_leaves t) e ∙ by_test t
  where
    by_test : (t : Bool) → if_leaves t (blank_of T) ≡ None
    by_test true = refl
    by_test false = refl

module _ (P : Project) (isp : IsProject P) (R : Arrays) (row : IsRow R) (of : IsRowOf P R) (idle : IsIdle R) where
  abbrev M : List Move
  M = moves P (states_of R)

  few : P.k ≤ 6
  few = isp.small

  requests_blank : (net : Net) (l x : ℕ) → queue_of (network R net).requests l x ≡ empty
  requests_blank LowNet l x = idle.low_requests l x
  requests_blank CombNet l x = idle.comb_requests l x

  replies_blank : (net : Net) (l x : ℕ) → queue_of (network R net).replies l x ≡ empty
  replies_blank LowNet l x = idle.low_replies l x
  replies_blank CombNet l x = idle.comb_replies l x

  -- nothing moves over any wire
  no_request : (net : Net) (s l : ℕ) → s ≤ P.k → l < lines P.k → moved_request M (on_line net s l) ≡ None
  no_request net s l le within =
      let t = is_some (moved_request M (on_line net s l)) in
      request_moves P (states_of R) net (network R net) (network_holds P R row of net) s l le within t refl
      ∙ no_head t (queue_of (network R net).requests s (label P.k (on_line net s l))) (requests_blank net s (label P.k (on_line net s l)))

  no_reply : (net : Net) (s l : ℕ) → s ≤ P.k → l < lines P.k → moved_reply M (on_line net s l) ≡ None
  no_reply net s l le within =
      let t = is_some (moved_reply M (on_line net s l)) in
      reply_moves P (states_of R) net (network R net) (network_holds P R row of net) s l le within t refl
      ∙ no_head t (queue_of (network R net).replies s (label P.k (on_line net s l))) (replies_blank net s (label P.k (on_line net s l)))

  abbrev proc_of_traffic : Option Reply → Option Reply → Option Request → Option Request → ProcTraffic
  proc_of_traffic a b c d = record { replies = a ∷ b ∷ []; request_leaves = is_some c || is_some d }

  proc_quiet : (p : ℕ) → p < lines P.k → proc_traffic M p ≡ record { replies = None ∷ None ∷ []; request_leaves = false }
  proc_quiet p within =
      let le : 0 ≤ P.k = omega arith in
      ap (λ m. proc_of_traffic m (moved_reply M (wire_of_proc CombNet p)) (moved_request M (wire_of_proc LowNet p)) (moved_request M (wire_of_proc CombNet p))) (no_reply LowNet 0 p le within)
      ∙ ap (λ m. proc_of_traffic None m (moved_request M (wire_of_proc LowNet p)) (moved_request M (wire_of_proc CombNet p))) (no_reply CombNet 0 p le within)
      ∙ ap (λ m. proc_of_traffic None None m (moved_request M (wire_of_proc CombNet p))) (no_request LowNet 0 p le within)
      ∙ ap (λ m. proc_of_traffic None None None m) (no_request CombNet 0 p le within)

  abbrev module_of_traffic : Option Request → Option Request → Option Reply → Option Reply → ModuleTraffic
  module_of_traffic a b c d = record { requests = a ∷ b ∷ []; replies_leave = is_some c ∷ is_some d ∷ [] }

  module_quiet : (m : ℕ) → m < lines P.k → module_traffic M P.k m ≡ quiet_module
  module_quiet m within =
      let le : P.k ≤ P.k = omega arith in
      ap (λ a. module_of_traffic a (moved_request M (wire_of_module P.k CombNet m)) (moved_reply M (wire_of_module P.k LowNet m)) (moved_reply M (wire_of_module P.k CombNet m))) (no_request LowNet P.k m le within)
      ∙ ap (λ a. module_of_traffic None a (moved_reply M (wire_of_module P.k LowNet m)) (moved_reply M (wire_of_module P.k CombNet m))) (no_request CombNet P.k m le within)
      ∙ ap (λ a. module_of_traffic None None a (moved_reply M (wire_of_module P.k CombNet m))) (no_reply LowNet P.k m le within)
      ∙ ap (λ a. module_of_traffic None None None a) (no_reply CombNet P.k m le within)

  abbrev traffic_of : Option Request → Option Request → Option Reply → Option Reply → Option Request → Option Request → Option Reply → Option Reply → Traffic
  traffic_of a b c d e f g h = record {
    requests = a ∷ b ∷ [];
    replies = c ∷ d ∷ [];
    requests_leave = is_some e ∷ is_some f ∷ [];
    replies_leave = is_some g ∷ is_some h ∷ [];
  }

  switch_quiet : (net : Net) (s j : ℕ) → s < P.k → j < half P.k → switch_traffic M P.k net s j ≡ quiet
  switch_quiet net s j lt small =
      let z : 0 < 2 = omega arith in
      let o : 1 < 2 = omega arith in
      let before : s ≤ P.k = omega (arith, lt) in
      let behind : suc s ≤ P.k = omega (arith, lt) in
      let in_0 = line_in P few s j lt small 0 z in
      let in_1 = line_in P few s j lt small 1 o in
      let out_0 = line_out P few s j lt small 0 z in
      let out_1 = line_out P few s j lt small 1 o in
      ap (λ m. traffic_of m (moved_request M (wire_into P.k net s j 1)) (moved_reply M (wire_out net s j 0)) (moved_reply M (wire_out net s j 1)) (moved_request M (wire_out net s j 0)) (moved_request M (wire_out net s j 1)) (moved_reply M (wire_into P.k net s j 0)) (moved_reply M (wire_into P.k net s j 1))) (no_request net s (0 * half P.k + j) before in_0)
      ∙ ap (λ m. traffic_of None m (moved_reply M (wire_out net s j 0)) (moved_reply M (wire_out net s j 1)) (moved_request M (wire_out net s j 0)) (moved_request M (wire_out net s j 1)) (moved_reply M (wire_into P.k net s j 0)) (moved_reply M (wire_into P.k net s j 1))) (no_request net s (1 * half P.k + j) before in_1)
      ∙ ap (λ m. traffic_of None None m (moved_reply M (wire_out net s j 1)) (moved_request M (wire_out net s j 0)) (moved_request M (wire_out net s j 1)) (moved_reply M (wire_into P.k net s j 0)) (moved_reply M (wire_into P.k net s j 1))) (no_reply net (suc s) (2 * j + 0) behind out_0)
      ∙ ap (λ m. traffic_of None None None m (moved_request M (wire_out net s j 0)) (moved_request M (wire_out net s j 1)) (moved_reply M (wire_into P.k net s j 0)) (moved_reply M (wire_into P.k net s j 1))) (no_reply net (suc s) (2 * j + 1) behind out_1)
      ∙ ap (λ m. traffic_of None None None None m (moved_request M (wire_out net s j 1)) (moved_reply M (wire_into P.k net s j 0)) (moved_reply M (wire_into P.k net s j 1))) (no_request net (suc s) (2 * j + 0) behind out_0)
      ∙ ap (λ m. traffic_of None None None None None m (moved_reply M (wire_into P.k net s j 0)) (moved_reply M (wire_into P.k net s j 1))) (no_request net (suc s) (2 * j + 1) behind out_1)
      ∙ ap (λ m. traffic_of None None None None None None m (moved_reply M (wire_into P.k net s j 1))) (no_reply net s (0 * half P.k + j) before in_0)
      ∙ ap (λ m. traffic_of None None None None None None None m) (no_reply net s (1 * half P.k + j) before in_1)

  each_stays : (c : Component) → Exists P.k c → state_of R (Some c) ≡ part_of P M (Some c) (state_of R (Some c))
  each_stays (ProcAt p) h =
      ap Proc (sym (ap (λ t. proc_after (proc_settings P p (proc_of R p).index) t (proc_of R p)) (proc_quiet p h) ∙ of.rest p h (idle.rests p (label_small few h))))
  each_stays (ModuleAt m) h =
      ap Module (sym (ap (λ t. module_after (depth_of P ModuleQueue) t (module_of R m)) (module_quiet m h)
      ∙ module_rests (depth_of P ModuleQueue) (module_of R m) refl refl (none_has R.served m idle.served) (idle.low_requests (suc R.k) m) (idle.comb_requests (suc R.k) m)))
  each_stays (Switch LowNet s j) h = sym (ap (λ t. Low (low_after (P.k - 1 - s) t (low_of R.k R.low s j))) (switch_quiet LowNet s j h.0 h.1))
  each_stays (Switch CombNet s j) h =
      let wait = wait_of (buffers_at R s) (switch_label R.k s j) in
      let combined = combined_of (buffers_at R s) (switch_label R.k s j) in
      sym (ap (λ t. Comb (comb_after (comb_settings P s) t (comb_of R.k R.comb s j wait combined))) (switch_quiet CombNet s j h.0 h.1)
      ∙ ap (λ n. Comb (comb_of R.k R.comb s j wait n)) (sym (idle.combined s (switch_label R.k s j))))

  pub idle_stays : states_of R ≡ cycle P (states_of R)
  idle_stays = cycle_is P R R of.size of.size each_stays
