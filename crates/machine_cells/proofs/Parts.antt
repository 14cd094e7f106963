-- The step of the near states is that component's part of the cycle.
use Rattle.std.proofs.Common.{◌≡◌, ℕ, zero, suc, ◌+◌, ◌-◌, ◌<◌, ◌≤◌, ◌^◌, List, [], ◌∷◌, length, refl, ap, sym, ◌∙◌, subst, Some, arith}
use Rattle.std.specs.Prelude.{slice_get, option_and_then, option_map}
use Rattle.std.specs.List.{cons_option}
use Rattle.omega_net.specs.declared.component.Net.{Net}
use Rattle.omega_net.specs.declared.component.Net.TheVariants.{Low as LowNet, Comb as CombNet}
use Rattle.omega_net.specs.declared.component.Component.{Component}
use Rattle.omega_net.specs.declared.component.Component.TheVariants.{Proc as ProcAt, Module as ModuleAt, Switch}
use Rattle.ref_proc.specs.RefProc.{proc_after}
use Rattle.mem_module.specs.MemModule.{module_after}
use Rattle.low_switch.specs.LowSwitch.{low_after}
use Rattle.comb_switch.specs.CombSwitch.{comb_after}
use Rattle.omega_net.specs.Numbers.{components, component_of, number_of, Exists}
use Rattle.omega_net.specs.declared.wire.Wire.{Wire}
use Rattle.omega_net.specs.Wires.{upper_end, lower_end, wires, wire_of_proc, wire_of_module, wire_into, wire_out}
use Rattle.omega_net.specs.Near.{near, near_of, beside, numbers_of}
use Rattle.machine_cells.specs.declared.state.MachineState.{MachineState}
use Rattle.machine_cells.specs.declared.state.MachineState.TheVariants.{Proc, Module, Low, Comb}
use Rattle.project_book.specs.Project.{Project, depth_of}
use Rattle.project_book.specs.declared.edit.Depths.TheVariants.{ModuleQueue}
use Rattle.machine_cells.specs.Moves.{Move, moves, moved_request, moved_reply, request_over, reply_over, request_between, reply_between, at_ends, upper_state, lower_state}
use Rattle.machine_cells.specs.Cycle.{cycle, proc_settings, comb_settings, parts_from, part_of, switch_traffic, proc_traffic, module_traffic}
use Rattle.machine_cells.specs.Cells.{StepsAreParts, step_of, states_at, pulled, request_pulled, reply_pulled, switch_pulls, proc_pulls, module_pulls, beside_on}
use Rattle.machine_cells.specs.laws.Traffic.{same_traffic, same_proc, same_module, module_end}
use Rattle.machine_cells.proofs.Lookups.{request_found, reply_found, if_found}
use Rattle.omega_net.proofs.Wiring.{wire_listed}
use Rattle.omega_net.proofs.Numbering.{Has, component_has, number_within}
use Rattle.omega_net.proofs.Ends.{upper_exists, lower_exists, into_ends, out_begins, into_line, out_line}

-- what the list of moves has on a wire of the machine is what goes over it
pub request_moved : (P : Project) (S : List MachineState) (w : Wire) → w.stage ≤ P.k → w.line < 2 ^ P.k → moved_request (moves P S) w ≡ request_over P S w
request_moved P S w a b =
    request_found (request_over P S) (reply_over P S) (wires P.k) w ∙ ap (λ t. if_found t (request_over P S w)) (wire_listed P.k w (a, b))

pub reply_moved : (P : Project) (S : List MachineState) (w : Wire) → w.stage ≤ P.k → w.line < 2 ^ P.k → moved_reply (moves P S) w ≡ reply_over P S w
reply_moved P S w a b =
    reply_found (request_over P S) (reply_over P S) (wires P.k) w ∙ ap (λ t. if_found t (reply_over P S w)) (wire_listed P.k w (a, b))

-- the near states hold both ends of a wire at these two places
pub record Holds (P : Project) (S N : List MachineState) (w : Wire) (upper lower : ℕ) : Type 0 where
  pub stage : w.stage ≤ P.k
  pub line : w.line < 2 ^ P.k
  pub up : slice_get N upper ≡ upper_state P S w
  pub low : slice_get N lower ≡ lower_state P S w

request_same : (P : Project) (S N : List MachineState) (w : Wire) (u l : ℕ) → Holds P S N w u l → moved_request (moves P S) w ≡ request_pulled P N w u l
request_same P S N w u l h =
    request_moved P S w h.stage h.line
    ∙ sym (ap (λ o. at_ends (request_between P w) o (slice_get N l)) h.up ∙ ap (λ o. at_ends (request_between P w) (upper_state P S w) o) h.low)

reply_same : (P : Project) (S N : List MachineState) (w : Wire) (u l : ℕ) → Holds P S N w u l → moved_reply (moves P S) w ≡ reply_pulled P N w u l
reply_same P S N w u l h =
    reply_moved P S w h.stage h.line
    ∙ sym (ap (λ o. at_ends (reply_between P w) o (slice_get N l)) h.up ∙ ap (λ o. at_ends (reply_between P w) (upper_state P S w) o) h.low)

-- the part of a component in the cycle
pub parts-get : (P : Project) (M : List Move) (b : ℕ) (S : List MachineState) (i : ℕ)
    → slice_get (parts_from P M b S) i ≡ option_map (λ s. part_of P M (component_of P.k (b + i)) s) (slice_get S i)
parts-get P M b [] i = refl
parts-get P M b (s ∷ S) zero = let e : b ≡ b + 0 = omega arith in ap (λ n. Some (part_of P M (component_of P.k n) s)) e
parts-get P M b (s ∷ S) (suc i) =
    let e : suc b + i ≡ b + suc i = omega arith in
    parts-get P M (suc b) S i ∙ ap (λ n. option_map (λ s'. part_of P M (component_of P.k n) s') (slice_get S i)) e

-- all below n
abbrev AllBelow : ℕ → List ℕ → Type 0
AllBelow n [] = Unit {0}
AllBelow n (c ∷ cs) = (c < n) × AllBelow n cs

some_at : (S : List MachineState) (c : ℕ) → c < length S → (s : MachineState) × (slice_get S c ≡ Some s)
some_at [] c h = absurd (omega arith)
some_at (s ∷ S) zero h = (s, refl)
some_at (s ∷ S) (suc c) h = some_at S c (omega arith)

-- a place among the near states
states-get : (S : List MachineState) (cs : List ℕ) (i : ℕ) → AllBelow (length S) cs → slice_get (states_at S cs) i ≡ option_and_then (slice_get S) (slice_get cs i)
states-get S [] i h = refl
states-get S (c ∷ cs) zero h = let s = some_at S c h.0 in rw s.1 refl
states-get S (c ∷ cs) (suc i) h =
    let s = some_at S c h.0 in
    ap (λ o. slice_get (cons_option o (states_at S cs)) (suc i)) s.1 ∙ states-get S cs i h.1

upper_within : (k : ℕ) (w : Wire) → w.stage ≤ k → w.line < 2 ^ k → number_of k (upper_end w) < components k
upper_within k w a b = number_within k (upper_end w) (upper_exists k w (a, b))

lower_within : (k : ℕ) (w : Wire) → w.stage ≤ k → w.line < 2 ^ k → number_of k (lower_end k w) < components k
lower_within k w a b = number_within k (lower_end k w) (lower_exists k w (a, b))

-- a component and those beside it are there
all_near : (k : ℕ) (x : Component) → Exists k x → AllBelow (components k) (near_of k (Some x))
all_near k (ProcAt p) e = (number_within k (ProcAt p) e, by_k k e)
  where
    by_k : (k : ℕ) → p < 2 ^ k → AllBelow (components k) (numbers_of k (beside k (ProcAt p)))
    by_k zero h = (number_within zero (ModuleAt p) h, tt)
    by_k (suc n) h = (
      lower_within (suc n) (wire_of_proc LowNet p) (omega arith) h,
      (lower_within (suc n) (wire_of_proc CombNet p) (omega arith) h, tt),
    )
all_near k (ModuleAt m) e = (number_within k (ModuleAt m) e, by_k k e)
  where
    by_k : (k : ℕ) → m < 2 ^ k → AllBelow (components k) (numbers_of k (beside k (ModuleAt m)))
    by_k zero h = (number_within zero (ProcAt m) h, tt)
    by_k (suc n) h = (
      upper_within (suc n) (wire_of_module (suc n) LowNet m) (omega arith) h,
      (upper_within (suc n) (wire_of_module (suc n) CombNet m) (omega arith) h, tt),
    )
all_near k (Switch net s j) e = (
  number_within k (Switch net s j) e,
  (
    upper_within k (wire_into k net s j 0) (omega arith) (into_line k s j 0 e.0 e.1 (omega arith)),
    (
      upper_within k (wire_into k net s j 1) (omega arith) (into_line k s j 1 e.0 e.1 (omega arith)),
      (
        lower_within k (wire_out net s j 0) (omega arith) (out_line k s j 0 e.0 e.1 (omega arith)),
        (lower_within k (wire_out net s j 1) (omega arith) (out_line k s j 1 e.0 e.1 (omega arith)), tt),
      ),
    ),
  ),
)

-- where the neighbour on a network stands among the near states
proc_beside : (k p : ℕ) (net : Net) → slice_get (near_of k (Some (ProcAt p))) (beside_on k net) ≡ Some (number_of k (lower_end k (wire_of_proc net p)))
proc_beside zero p LowNet = refl
proc_beside zero p CombNet = refl
proc_beside (suc n) p LowNet = refl
proc_beside (suc n) p CombNet = refl

module_beside : (k m : ℕ) (net : Net) → slice_get (near_of k (Some (ModuleAt m))) (beside_on k net) ≡ Some (number_of k (upper_end (wire_of_module k net m)))
module_beside zero m LowNet = refl
module_beside zero m CombNet = refl
module_beside (suc n) m LowNet = refl
module_beside (suc n) m CombNet = refl

module _ (P : Project) (S : List MachineState) (size : length S ≡ components P.k) where
  -- the near states of a component
  abbrev nearby : Component → List MachineState
  nearby x = states_at S (near_of P.k (Some x))

  nearby-get : (x : Component) (i : ℕ) → Exists P.k x → slice_get (nearby x) i ≡ option_and_then (slice_get S) (slice_get (near_of P.k (Some x)) i)
  nearby-get x i e = states-get S (near_of P.k (Some x)) i (let Q : ℕ → Type 0 = λ n. AllBelow n (near_of P.k (Some x)) in subst Q (sym size) (all_near P.k x e))

  into_holds : (net : Net) (s j i : ℕ) → Exists P.k (Switch net s j) → i < 2 → Holds P S (nearby (Switch net s j)) (wire_into P.k net s j i) (i + 1) 0
  into_holds net s j zero e h = record {
    stage = omega (arith, e.0);
    line = into_line P.k s j 0 e.0 e.1 h;
    up = nearby-get (Switch net s j) 1 e;
    low = nearby-get (Switch net s j) 0 e ∙ ap (λ x. slice_get S (number_of P.k x)) (sym (into_ends P.k net s j 0 e.0 e.1));
  }
  into_holds net s j (suc zero) e h = record {
    stage = omega (arith, e.0);
    line = into_line P.k s j 1 e.0 e.1 h;
    up = nearby-get (Switch net s j) 2 e;
    low = nearby-get (Switch net s j) 0 e ∙ ap (λ x. slice_get S (number_of P.k x)) (sym (into_ends P.k net s j 1 e.0 e.1));
  }
  into_holds net s j (suc (suc i)) e h = absurd (omega arith)

  out_holds : (net : Net) (s j o : ℕ) → Exists P.k (Switch net s j) → o < 2 → Holds P S (nearby (Switch net s j)) (wire_out net s j o) 0 (o + 3)
  out_holds net s j zero e h = record {
    stage = omega (arith, e.0);
    line = out_line P.k s j 0 e.0 e.1 h;
    up = nearby-get (Switch net s j) 0 e ∙ ap (λ x. slice_get S (number_of P.k x)) (sym (out_begins net s j 0 h));
    low = nearby-get (Switch net s j) 3 e;
  }
  out_holds net s j (suc zero) e h = record {
    stage = omega (arith, e.0);
    line = out_line P.k s j 1 e.0 e.1 h;
    up = nearby-get (Switch net s j) 0 e ∙ ap (λ x. slice_get S (number_of P.k x)) (sym (out_begins net s j 1 h));
    low = nearby-get (Switch net s j) 4 e;
  }
  out_holds net s j (suc (suc o)) e h = absurd (omega arith)

  proc_holds : (net : Net) (p : ℕ) → Exists P.k (ProcAt p) → Holds P S (nearby (ProcAt p)) (wire_of_proc net p) 0 (beside_on P.k net)
  proc_holds net p e = record {
    stage = omega arith;
    line = e;
    up = nearby-get (ProcAt p) 0 e;
    low = nearby-get (ProcAt p) (beside_on P.k net) e ∙ ap (option_and_then (slice_get S)) (proc_beside P.k p net);
  }

  module_holds : (net : Net) (m : ℕ) → Exists P.k (ModuleAt m) → Holds P S (nearby (ModuleAt m)) (wire_of_module P.k net m) (beside_on P.k net) 0
  module_holds net m e = record {
    stage = omega arith;
    line = e;
    up = nearby-get (ModuleAt m) (beside_on P.k net) e ∙ ap (option_and_then (slice_get S)) (module_beside P.k m net);
    low = nearby-get (ModuleAt m) 0 e ∙ ap (λ x. slice_get S (number_of P.k x)) (sym (module_end P.k m net));
  }

module _ (P : Project) (S : List MachineState) (size : length S ≡ components P.k) where
  switch_same : (net : Net) (s j : ℕ) → Exists P.k (Switch net s j)
      → switch_traffic (moves P S) P.k net s j ≡ switch_pulls P (nearby P S size (Switch net s j)) net s j
  switch_same net s j e =
      let in_0 = into_holds P S size net s j 0 e (omega arith) in
      let in_1 = into_holds P S size net s j 1 e (omega arith) in
      let out_0 = out_holds P S size net s j 0 e (omega arith) in
      let out_1 = out_holds P S size net s j 1 e (omega arith) in
      same_traffic _ _ _ _ _ _ _ _ _ _ _ _ _ _ _ _
      (request_same P S _ _ _ _ in_0) (request_same P S _ _ _ _ in_1) (reply_same P S _ _ _ _ out_0) (reply_same P S _ _ _ _ out_1)
      (request_same P S _ _ _ _ out_0) (request_same P S _ _ _ _ out_1) (reply_same P S _ _ _ _ in_0) (reply_same P S _ _ _ _ in_1)

  proc_same : (p : ℕ) → Exists P.k (ProcAt p) → proc_traffic (moves P S) p ≡ proc_pulls P (nearby P S size (ProcAt p)) p
  proc_same p e =
      let on_low = proc_holds P S size LowNet p e in
      let on_comb = proc_holds P S size CombNet p e in
      same_proc _ _ _ _ _ _ _ _
      (reply_same P S _ _ _ _ on_low) (reply_same P S _ _ _ _ on_comb) (request_same P S _ _ _ _ on_low) (request_same P S _ _ _ _ on_comb)

  module_same : (m : ℕ) → Exists P.k (ModuleAt m) → module_traffic (moves P S) P.k m ≡ module_pulls P (nearby P S size (ModuleAt m)) m
  module_same m e =
      let on_low = module_holds P S size LowNet m e in
      let on_comb = module_holds P S size CombNet m e in
      same_module _ _ _ _ _ _ _ _
      (request_same P S _ _ _ _ on_low) (request_same P S _ _ _ _ on_comb) (reply_same P S _ _ _ _ on_low) (reply_same P S _ _ _ _ on_comb)

  -- so the pulled state is the part of the cycle
  same_part : (x : Component) (own : MachineState) → Exists P.k x → pulled P (nearby P S size x) (Some x) own ≡ part_of P (moves P S) (Some x) own
  same_part (ProcAt p) (Proc s) e = ap (λ t. Proc (proc_after (proc_settings P p s.index) t s)) (sym (proc_same p e))
  same_part (ModuleAt m) (Module s) e = ap (λ t. Module (module_after (depth_of P ModuleQueue) t s)) (sym (module_same m e))
  same_part (Switch LowNet stage j) (Low s) e = ap (λ t. Low (low_after (P.k - 1 - stage) t s)) (sym (switch_same LowNet stage j e))
  same_part (Switch CombNet stage j) (Comb s) e = ap (λ t. Comb (comb_after (comb_settings P stage) t s)) (sym (switch_same CombNet stage j e))
  same_part _ _ e = refl

  step_of-get : (N : List MachineState) (c : ℕ) (own : MachineState) → slice_get N 0 ≡ Some own → step_of P N c ≡ Some (pulled P N (component_of P.k c) own)
  step_of-get [] c own e = cc
  step_of-get (n ∷ N) c own e = let same : n ≡ own = cc in ap (λ s. Some (pulled P (n ∷ N) (component_of P.k c) s)) same

  of_component : (c : ℕ) (x : Component) → Has P.k c (component_of P.k c) x → step_of P (states_at S (near P.k c)) c ≡ slice_get (cycle P S) c
  of_component c x h =
      let below : c < length S = omega (arith, h.number, size, number_within P.k x h.there) in
      let own = some_at S c below in
      let first : slice_get (nearby P S size x) 0 ≡ Some own.0 = nearby-get P S size x 0 h.there ∙ ap (slice_get S) h.number ∙ own.1 in
      let there : c ≡ 0 + c = omega arith in
      ap (λ o. step_of P (states_at S (near_of P.k o)) c) h.is
      ∙ step_of-get (nearby P S size x) c own.0 first
      ∙ ap (λ o. Some (pulled P (nearby P S size x) o own.0)) h.is
      ∙ ap Some (same_part x own.0 h.there)
      ∙ sym (ap (λ o. Some (part_of P (moves P S) o own.0)) h.is)
      ∙ ap (λ n. Some (part_of P (moves P S) (component_of P.k n) own.0)) there
      ∙ sym (ap (λ o. option_map (λ s. part_of P (moves P S) (component_of P.k (0 + c)) s) o) own.1)
      ∙ sym (parts-get P (moves P S) 0 S c)

pub steps_are_parts : StepsAreParts
steps_are_parts P S size c below = let h = component_has P.k c below in of_component P S size c h.0 h.1
