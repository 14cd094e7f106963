-- A component at which nothing moves is the same one cycle later.
use Rattle.std.proofs.Common.{◌≡◌, ℕ, zero, suc, ◌+◌, ◌-◌, ◌*◌, ◌^◌, ◌<◌, ◌≤◌, Bool, true, false, List, [], ◌∷◌, refl, ap, sym, ◌∙◌, subst, Option, None, Some, arith}
use Rattle.std.specs.Prelude.{◌==◌, ◌&&◌, ◌||◌, is_some, slice_index_or}
use Rattle.arrayvec.specs.ArrayVec.{ArrayVec}
use Rattle.omega_net.specs.declared.component.Net.{Net}
use Rattle.omega_net.specs.declared.component.Net.TheVariants.{Low as LowNet, Comb as CombNet}
use Rattle.omega_net.specs.declared.message.Request.{Request}
use Rattle.omega_net.specs.declared.message.Reply.{Reply}
use Rattle.omega_net.specs.declared.message.Traffic.{Traffic}
use Rattle.omega_net.specs.Numbers.{lines, half}
use Rattle.omega_net.specs.Wires.{bit, wire_into, wire_out, wire_of_module}
use Rattle.comb_switch.specs.declared.waiting.Waiting.{Waiting}
use Rattle.comb_switch.specs.declared.settings.CombSettings.{CombSettings}
use Rattle.comb_switch.specs.CombSwitch.{comb_after}
use Rattle.low_switch.specs.LowSwitch.{low_after}
use Rattle.mem_module.specs.declared.step.ModuleTraffic.{ModuleTraffic}
use Rattle.mem_module.specs.MemModule.{is_net, served_net, module_serving, module_after}
use Rattle.project_book.specs.Project.{Project, depth_of}
use Rattle.project_book.specs.declared.edit.Depths.TheVariants.{ModuleQueue}
use Rattle.machine_cells.specs.Moves.{Move, moves, moved_request, moved_reply}
use Rattle.machine_cells.specs.Cycle.{switch_traffic, module_traffic}
use Rattle.flat_row.specs.declared.leaving.Plan.{Plan}
use Rattle.flat_row.specs.Labels.{port, switch_label}
use Rattle.flat_row.specs.Masks.{has}
use Rattle.flat_row.specs.Row.{Network, Arrays, port_label, states_of, low_of, comb_of, module_of}
use Rattle.flat_row.specs.Rows.{if_leaves}
use Rattle.flat_row.specs.Moving.{leaves_forth, leaves_back}
use Rattle.flat_row.specs.Step.{Serves, IsPlan}
use Rattle.flat_row.specs.Changed.{passes, crosses}
use Rattle.flat_row.proofs.Processing.{neither}
use Rattle.flat_row.proofs.Turning.{stands}
use Rattle.flat_row.proofs.Stepping.{comes_in, goes_out, comes_back, goes_back}
use Rattle.flat_row.proofs.Whole.{enters_it, leaves_it}

false_true : false ≡ true → ⊥
false_true e = cc

-- what is not in the set that leaves doesn't move
pub unmoved : {T : Type 0} (t : Bool) (q : ArrayVec T) → t ≡ false → if_leaves t q ≡ None
unmoved t q e = ap (λ b. if_leaves b q) e

-- a switch to which these messages come and from which those leave
abbrev traffic_of : Option Request → Option Request → Option Reply → Option Reply → Option Request → Option Request → Option Reply → Option Reply → Traffic
traffic_of a b c d e f g h = record {
  requests = a ∷ b ∷ [];
  replies = c ∷ d ∷ [];
  requests_leave = is_some e ∷ is_some f ∷ [];
  replies_leave = is_some g ∷ is_some h ∷ [];
}

abbrev pub quiet : Traffic
quiet = traffic_of None None None None None None None None

own_is : (k s j : ℕ) → port_label k s j 0 ≡ switch_label k s j
own_is k s j = none (switch_label k s j) (2 ^ (k - 1 - s))
  where
    none : (a d : ℕ) → a + 0 * d ≡ a
    none a d = omega arith

pub own_small : (P : Project) → P.k ≤ 6 → (s j : ℕ) → s < P.k → j < half P.k → switch_label P.k s j < 64
own_small P few s j lt small = subst (λ y. y < 64) (own_is P.k s j) (stands P few s j lt small 0 (omega arith)).small

-- a switch at which nothing moves
module _ (P : Project) (few : P.k ≤ 6) (R : Arrays) (net : Net) (plan : Plan) (is : IsPlan P R net plan) (s j : ℕ) (lt : s < P.k) (small : j < half P.k)
    (still : crosses P.k plan s (switch_label P.k s j) ≡ false) where
  abbrev b : ℕ
  b = P.k - 1 - s

  abbrev x : ℕ → ℕ
  x o = port_label P.k s j o

  abbrev own : ℕ
  own = switch_label P.k s j

  abbrev M : List Move
  M = moves P (states_of R)

  first_is : x 0 ≡ own
  first_is = own_is P.k s j

  own_first : bit b own ≡ 0
  own_first = subst (λ y. bit b y ≡ 0) first_is (stands P few s j lt small 0 (omega arith)).own

  neither_port : (passes P.k plan s own || passes P.k plan s (port b 1 own)) ≡ false
  neither_port = sym (ap (λ n. (n == 0) && (passes P.k plan s own || passes P.k plan s (port b 1 own))) own_first) ∙ still

  none_passes : (o : ℕ) → o < 2 → passes P.k plan s (x o) ≡ false
  none_passes zero h = ap (passes P.k plan s) first_is ∙ (neither (passes P.k plan s own) (passes P.k plan s (port b 1 own)) neither_port).0
  none_passes (suc zero) h =
      ap (passes P.k plan s) (sym (ap (port b 1) (sym first_is) ∙ (stands P few s j lt small 0 (omega arith)).ports 1))
      ∙ (neither (passes P.k plan s own) (passes P.k plan s (port b 1 own)) neither_port).1
  none_passes (suc (suc o)) h = absurd (omega arith)

  abbrev in_forth : ℕ → Bool
  in_forth o = has (slice_index_or plan.forth.leave s 0) (x o)

  abbrev out_forth : ℕ → Bool
  out_forth o = leaves_forth P.k plan.forth.leave plan.enter (suc s) (x o)

  abbrev in_back : ℕ → Bool
  in_back o = has (slice_index_or plan.back.leave s 0) (x o)

  abbrev out_back : ℕ → Bool
  out_back o = leaves_back plan.receive plan.back.leave s (x o)

  none_forth : (o : ℕ) → o < 2 → (in_forth o ≡ false) × (out_forth o ≡ false)
  none_forth o h = neither (in_forth o) (out_forth o) (neither (in_forth o || out_forth o) (in_back o || out_back o) (none_passes o h)).0

  none_back : (o : ℕ) → o < 2 → (in_back o ≡ false) × (out_back o ≡ false)
  none_back o h = neither (in_back o) (out_back o) (neither (in_forth o || out_forth o) (in_back o || out_back o) (none_passes o h)).1

  no_request_in : (i : ℕ) → i < 2 → moved_request M (wire_into P.k net s j i) ≡ None
  no_request_in i h = comes_in P R net plan.forth.leave plan.forth.turns plan.enter is.forth is.enter few s j lt small i h ∙ unmoved (in_forth i) _ (none_forth i h).0

  no_request_out : (o : ℕ) → o < 2 → moved_request M (wire_out net s j o) ≡ None
  no_request_out o h = goes_out P R net plan.forth.leave plan.forth.turns plan.enter is.forth is.enter few s j lt small o h ∙ unmoved (out_forth o) _ (none_forth o h).1

  no_reply_in : (o : ℕ) → o < 2 → moved_reply M (wire_out net s j o) ≡ None
  no_reply_in o h = comes_back P R net plan.back.leave plan.back.turns plan.receive is.back is.receive few s j lt small o h ∙ unmoved (in_back o) _ (none_back o h).0

  no_reply_out : (i : ℕ) → i < 2 → moved_reply M (wire_into P.k net s j i) ≡ None
  no_reply_out i h = goes_back P R net plan.back.leave plan.back.turns plan.receive is.back is.receive few s j lt small i h ∙ unmoved (out_back i) _ (none_back i h).1

  pub is_quiet : switch_traffic M P.k net s j ≡ quiet
  is_quiet =
      let z : 0 < 2 = omega arith in
      let o : 1 < 2 = omega arith in
      ap (λ m. traffic_of m (moved_request M (wire_into P.k net s j 1)) (moved_reply M (wire_out net s j 0)) (moved_reply M (wire_out net s j 1)) (moved_request M (wire_out net s j 0)) (moved_request M (wire_out net s j 1)) (moved_reply M (wire_into P.k net s j 0)) (moved_reply M (wire_into P.k net s j 1))) (no_request_in 0 z)
      ∙ ap (λ m. traffic_of None m (moved_reply M (wire_out net s j 0)) (moved_reply M (wire_out net s j 1)) (moved_request M (wire_out net s j 0)) (moved_request M (wire_out net s j 1)) (moved_reply M (wire_into P.k net s j 0)) (moved_reply M (wire_into P.k net s j 1))) (no_request_in 1 o)
      ∙ ap (λ m. traffic_of None None m (moved_reply M (wire_out net s j 1)) (moved_request M (wire_out net s j 0)) (moved_request M (wire_out net s j 1)) (moved_reply M (wire_into P.k net s j 0)) (moved_reply M (wire_into P.k net s j 1))) (no_reply_in 0 z)
      ∙ ap (λ m. traffic_of None None None m (moved_request M (wire_out net s j 0)) (moved_request M (wire_out net s j 1)) (moved_reply M (wire_into P.k net s j 0)) (moved_reply M (wire_into P.k net s j 1))) (no_reply_in 1 o)
      ∙ ap (λ m. traffic_of None None None None m (moved_request M (wire_out net s j 1)) (moved_reply M (wire_into P.k net s j 0)) (moved_reply M (wire_into P.k net s j 1))) (no_request_out 0 z)
      ∙ ap (λ m. traffic_of None None None None None m (moved_reply M (wire_into P.k net s j 0)) (moved_reply M (wire_into P.k net s j 1))) (no_request_out 1 o)
      ∙ ap (λ m. traffic_of None None None None None None m (moved_reply M (wire_into P.k net s j 1))) (no_reply_out 0 z)
      ∙ ap (λ m. traffic_of None None None None None None None m) (no_reply_out 1 o)

-- is as it was, but that a combining one has combined nothing
pub low_quiet : (by k : ℕ) (n : Network) (s j : ℕ) → low_after by quiet (low_of k n s j) ≡ low_of k n s j
low_quiet by k n s j = refl

pub comb_quiet : (settings : CombSettings) (k : ℕ) (n : Network) (s j : ℕ) (wait : ArrayVec Waiting) (combined : ℕ) → comb_after settings quiet (comb_of k n s j wait combined) ≡ comb_of k n s j wait 0
comb_quiet settings k n s j wait combined = refl

-- a module at which nothing moves
no_net : (n : Option Net) → is_net LowNet n ≡ false → is_net CombNet n ≡ false → n ≡ None
no_net None e f = refl
no_net (Some LowNet) e f = absurd (false_true (sym e))
no_net (Some CombNet) e f = absurd (false_true (sym f))

abbrev module_traffic_of : Option Request → Option Request → Option Reply → Option Reply → ModuleTraffic
module_traffic_of a b c d = record { requests = a ∷ b ∷ []; replies_leave = is_some c ∷ is_some d ∷ [] }

-- where it serves nothing, it is as it was, but for its mark
pub module_quiet : (R : Arrays) (m : ℕ) → module_serving (module_traffic_of None None None None) (module_of R m) None ≡ record (module_of R m) { served = false }
module_quiet R m = refl

module _ (P : Project) (few : P.k ≤ 6) (R : Arrays) (low comb : Plan) (low_plan : IsPlan P R LowNet low) (comb_plan : IsPlan P R CombNet comb)
    (low_served comb_served next : ℕ) (serves : Serves P R low_served comb_served next) (m : ℕ) (within : m < lines P.k)
    (served_not : has R.served m ≡ false) (low_not : has low_served m ≡ false) (comb_not : has comb_served m ≡ false)
    (low_in : has low.enter m ≡ false) (comb_in : has comb.enter m ≡ false)
    (low_out : leaves_back low.receive low.back.leave P.k m ≡ false) (comb_out : leaves_back comb.receive comb.back.leave P.k m ≡ false) where
  abbrev N : Option Net
  N = served_net (module_of R m) (depth_of P ModuleQueue)

  abbrev K : List Move
  K = moves P (states_of R)

  none_served : N ≡ None
  none_served = no_net N (sym (serves.low_so m within) ∙ low_not) (sym (serves.comb_so m within) ∙ comb_not)

  none_enters : (net : Net) (plan : Plan) → IsPlan P R net plan → has plan.enter m ≡ false → moved_request K (wire_of_module P.k net m) ≡ None
  none_enters net plan is e =
      enters_it P few R net plan.forth.leave plan.forth.turns plan.back.leave plan.back.turns plan.enter plan.receive is.forth is.enter is.back is.receive m within ∙ unmoved (has plan.enter m) _ e

  none_leaves : (net : Net) (plan : Plan) → IsPlan P R net plan → leaves_back plan.receive plan.back.leave P.k m ≡ false → moved_reply K (wire_of_module P.k net m) ≡ None
  none_leaves net plan is e =
      leaves_it P few R net plan.forth.leave plan.forth.turns plan.back.leave plan.back.turns plan.enter plan.receive is.forth is.enter is.back is.receive m within
      ∙ unmoved (leaves_back plan.receive plan.back.leave P.k m) _ e

  pub module_stays : module_after (depth_of P ModuleQueue) (module_traffic K P.k m) (module_of R m) ≡ module_of R m
  module_stays =
      ap (λ a. module_serving (module_traffic_of a (moved_request K (wire_of_module P.k CombNet m)) (moved_reply K (wire_of_module P.k LowNet m)) (moved_reply K (wire_of_module P.k CombNet m))) (module_of R m) N) (none_enters LowNet low low_plan low_in)
      ∙ ap (λ a. module_serving (module_traffic_of None a (moved_reply K (wire_of_module P.k LowNet m)) (moved_reply K (wire_of_module P.k CombNet m))) (module_of R m) N) (none_enters CombNet comb comb_plan comb_in)
      ∙ ap (λ a. module_serving (module_traffic_of None None a (moved_reply K (wire_of_module P.k CombNet m))) (module_of R m) N) (none_leaves LowNet low low_plan low_out)
      ∙ ap (λ a. module_serving (module_traffic_of None None None a) (module_of R m) N) (none_leaves CombNet comb comb_plan comb_out)
      ∙ ap (λ n. module_serving (module_traffic_of None None None None) (module_of R m) n) none_served
      ∙ module_quiet R m
      ∙ ap (λ (t : Bool). record (module_of R m) { served = t }) (sym served_not)
