-- The message that a component shows on a wire is the head of the queue at the wire's label.
use Rattle.std.proofs.Common.{◌≡◌, ℕ, zero, suc, ◌+◌, ◌*◌, ◌%◌, ◌/◌, ◌^◌, ◌<◌, ◌≤◌, Bool, true, false, cond, List, [], ◌∷◌, length, refl, ap, sym, ◌∙◌, subst, Option, None, Some, arith}
use Rattle.std.specs.Prelude.{◌==◌, slice_get, option_map}
use Rattle.std.proofs.lemmas.Option.{slice_get-map}
use Rattle.std.proofs.lemmas.Bool.{eqb-true, eq-eqb}
use Rattle.std.proofs.lemmas.Bool.Decides.{nat_tests}
use Rattle.std.proofs.Math.Nat.{mod-lt, mod-add-div'}
use Rattle.std.proofs.Math.Pow.{pow_mono}
use Rattle.arrayvec.specs.ArrayVec.{ArrayVec}
use Rattle.omega_net.specs.declared.component.Net.{Net}
use Rattle.omega_net.specs.declared.component.Net.TheVariants.{Low as LowNet, Comb as CombNet}
use Rattle.omega_net.specs.declared.component.Component.{Component}
use Rattle.omega_net.specs.declared.component.Component.TheVariants.{Proc as ProcAt, Module as ModuleAt, Switch}
use Rattle.omega_net.specs.declared.message.Request.{Request}
use Rattle.omega_net.specs.Numbers.{lines, half, components, number_of, component_of, Exists}
use Rattle.omega_net.specs.Wires.{below, lower_end, net_number}
use Rattle.omega_net.specs.Queues.{head}
use Rattle.omega_net.specs.Ports.{queue_at, empty}
use Rattle.omega_net.proofs.Numbering.{half_twice, half_some, number_within, number_leads_back}
use Rattle.omega_net.proofs.Ends.{input_within}
use Rattle.ref_proc.specs.declared.state.ProcState.{ProcState}
use Rattle.ref_proc.specs.RefProc.{out_on, proc_request}
use Rattle.mem_module.specs.declared.state.ModuleState.{ModuleState}
use Rattle.comb_switch.specs.declared.waiting.Waiting.{Waiting}
use Rattle.machine_cells.specs.declared.state.MachineState.{MachineState}
use Rattle.machine_cells.specs.declared.state.MachineState.TheVariants.{Proc, Module}
use Rattle.machine_cells.specs.Moves.{request_on, reply_on, upper_state, lower_state}
use Rattle.machine_cells.proofs.Runs.{below-get}
use Rattle.project_book.specs.Project.{Project}
use Rattle.flat_row.specs.Labels.{rotated_right, label, switch_label, LabelsName}
use Rattle.flat_row.specs.Shows.{on_line}
use Rattle.flat_row.specs.Row.{Network, Arrays, IsRow, queue_of, port_label, switch_of, wait_of, combined_of, buffers_at, module_of, out_from, proc_of, state_of, states_of}
use Rattle.flat_row.proofs.Labelling.{each_is_named}

-- the state of a component that there is
pub state_there : (R : Arrays) (x : Component) → Exists R.k x → slice_get (states_of R) (number_of R.k x) ≡ Some (state_of R (Some x))
state_there R x e =
    slice_get-map (λ c. state_of R (component_of R.k c)) (below (components R.k)) (number_of R.k x)
    ∙ ap (option_map (λ c. state_of R (component_of R.k c))) (below-get (components R.k) (number_of R.k x) (number_within R.k x e))
    ∙ ap (λ o. Some (state_of R o)) (number_leads_back R.k x e)

-- what a processor shows on each network
shown_on_low : (a b : Option Request) → out_on (out_from a b) LowNet ≡ a
shown_on_low (Some r) b = refl
shown_on_low None (Some r) = refl
shown_on_low None None = refl

shown_on_comb : (a b : List Request) → length a + length b ≤ 1 → out_on (out_from (slice_get a 0) (slice_get b 0)) CombNet ≡ slice_get b 0
shown_on_comb [] [] h = refl
shown_on_comb [] (r ∷ rs) h = refl
shown_on_comb (r ∷ rs) [] h = refl
shown_on_comb (r ∷ rs) (q ∷ qs) h = absurd (omega arith)

-- a whole state of 2^k processors whose components hold on a network what its levels and turns say
pub record Holds (k : ℕ) (net : Net) (n : Network) (S : List MachineState) : Type 0 where
  pub procs : (p : ℕ) → p < lines k → (s : ProcState) × (slice_get S (number_of k (ProcAt p)) ≡ Some (Proc s)) × (head (queue_of n.requests 0 p) ≡ proc_request s net)
  pub modules : (m : ℕ) → m < lines k → (s : ModuleState) × (slice_get S (number_of k (ModuleAt m)) ≡ Some (Module s))
      × (queue_of n.requests (suc k) m ≡ queue_at s.requests (net_number net)) × (queue_of n.replies k m ≡ queue_at s.replies (net_number net))
  pub switches : (s j : ℕ) → s < k → j < half k
      → (wait : ArrayVec Waiting) × (combined : ℕ) × (slice_get S (number_of k (Switch net s j)) ≡ Some (switch_of net k n s j wait combined))

pub low_holds : (R : Arrays) → Holds R.k LowNet R.low (states_of R)
low_holds R = record {
  procs = λ p within. (proc_of R p, state_there R (ProcAt p) within, sym (shown_on_low (head (queue_of R.low.requests 0 p)) (head (queue_of R.comb.requests 0 p))));
  modules = λ m within. (module_of R m, state_there R (ModuleAt m) within, refl, refl);
  switches = λ s j lt small. (empty, 0, state_there R (Switch LowNet s j) (lt, small));
}

pub comb_holds : (R : Arrays) → IsRow R → Holds R.k CombNet R.comb (states_of R)
comb_holds R row = record {
  procs = λ p within. (proc_of R p, state_there R (ProcAt p) within, sym (shown_on_comb (queue_of R.low.requests 0 p).items (queue_of R.comb.requests 0 p).items (row.one_out p)));
  modules = λ m within. (module_of R m, state_there R (ModuleAt m) within, refl, refl);
  switches = λ s j lt small.
      (wait_of (buffers_at R s) (switch_label R.k s j), combined_of (buffers_at R s) (switch_label R.k s j), state_there R (Switch CombNet s j) (lt, small));
}

-- the queue at a port
pub at_port : {T : Type 0} (f : ℕ → ArrayVec T) (o : ℕ) → o < 2 → f o ≡ queue_at (f 0 ∷ f 1 ∷ []) o
at_port f zero h = refl
at_port f (suc zero) h = refl
at_port f (suc (suc o)) h = absurd (omega arith)

request_shown : (net : Net) (k : ℕ) (n : Network) (s j : ℕ) (wait : ArrayVec Waiting) (combined l : ℕ)
    → head (queue_of n.requests (suc s) (port_label k s j (l % 2))) ≡ request_on (on_line net (suc s) l) (switch_of net k n s j wait combined)
request_shown LowNet k n s j wait combined l = ap head (at_port (λ o. queue_of n.requests (suc s) (port_label k s j o)) (l % 2) (omega arith))
request_shown CombNet k n s j wait combined l = ap head (at_port (λ o. queue_of n.requests (suc s) (port_label k s j o)) (l % 2) (omega arith))

reply_shown : (net : Net) (k : ℕ) (n : Network) (s j : ℕ) (wait : ArrayVec Waiting) (combined l : ℕ) → l / half k < 2
    → head (queue_of n.replies s (port_label k s j (l / half k))) ≡ reply_on k (on_line net s l) (switch_of net k n s j wait combined)
reply_shown LowNet k n s j wait combined l h = ap head (at_port (λ i. queue_of n.replies s (port_label k s j i)) (l / half k) h)
reply_shown CombNet k n s j wait combined l h = ap head (at_port (λ i. queue_of n.replies s (port_label k s j i)) (l / half k) h)

-- the label of a wire behind a stage, and before one
pub label_behind : (k s l : ℕ) → s < k → l < lines k → rotated_right k (suc s) l ≡ port_label k s (l / 2) (l % 2)
label_behind k s l lt within =
    let named : LabelsName k = each_is_named k in
    let small : l / 2 < half k = omega (arith, half_twice k s lt) in
    let port : l % 2 < 2 = omega arith in
    let whole : l ≡ 2 * (l / 2) + l % 2 = omega arith in
    ap (rotated_right k (suc s)) whole ∙ named.out LowNet s (l / 2) (l % 2) lt small port

pub input_small : (k s l : ℕ) → s < k → l < lines k → l / half k < 2
input_small k s l lt within = input_within k (on_line LowNet s l) (omega arith, within)

pub label_before : (k s l : ℕ) → s < k → l < lines k → rotated_right k s l ≡ port_label k s (l % half k) (l / half k)
label_before k s l lt within =
    let named : LabelsName k = each_is_named k in
    let small : l % half k < half k = mod-lt l (half_some k s lt) in
    let whole : l ≡ l / half k * half k + l % half k = omega (arith, mod-add-div' l (half k)) in
    ap (rotated_right k s) whole ∙ named.into LowNet s (l % half k) (l / half k) lt small (input_small k s l lt within)

-- the labels of ports are labels
pub port_within : (k s j o : ℕ) → s < k → j < half k → o < 2 → port_label k s j o < lines k
port_within k s j o lt jl ol =
    let named : LabelsName k = each_is_named k in
    let line : 2 * j + o < 2 ^ k = omega (arith, half_twice k s lt) in
    let here : rotated_right k (suc s) (2 * j + o) ≡ port_label k s j o = named.out LowNet s j o lt jl ol in
    let there : rotated_right k (suc s) (2 * j + o) < 2 ^ k = named.within (suc s) (2 * j + o) (omega arith) line in
    omega (arith, here, there)

pub port_small : (k s j o : ℕ) → k ≤ 6 → s < k → j < half k → o < 2 → port_label k s j o < 64
port_small k s j o few lt jl ol = let most : 2 ^ k ≤ 64 = pow_mono few in omega (arith, port_within k s j o lt jl ol, most)

-- what is shown on a wire by the component at its end towards the processors is the head at its label
pub upper_shown : (P : Project) (S : List MachineState) (net : Net) (n : Network) → Holds P.k net n S → (s l : ℕ) → s ≤ P.k → l < lines P.k
    → (u : MachineState) × (upper_state P S (on_line net s l) ≡ Some u)
    × (head (queue_of n.requests s (label P.k (on_line net s l))) ≡ request_on (on_line net s l) u)
upper_shown P S net n holds zero l le within =
    let named : LabelsName P.k = each_is_named P.k in
    let p = holds.procs l within in
    (Proc p.0, p.1, ap (λ x. head (queue_of n.requests 0 x)) (named.processors l) ∙ p.2)
upper_shown P S net n holds (suc s) l le within =
    let lt : s < P.k = omega arith in
    let w = holds.switches s (l / 2) lt (omega (arith, half_twice P.k s lt)) in
    (switch_of net P.k n s (l / 2) w.0 w.1, w.2, ap (λ x. head (queue_of n.requests (suc s) x)) (label_behind P.k s l lt within) ∙ request_shown net P.k n s (l / 2) w.0 w.1 l)

-- and by the one at its end towards the modules
meets_switch : (k : ℕ) (net : Net) (s l : ℕ) → s < k → lower_end k (on_line net s l) ≡ Switch net s (l % half k)
meets_switch k net s l lt = by_test (s == k) refl
  where
    by_test : (t : Bool) → (s == k) ≡ t → cond t (ModuleAt l) (Switch net s (l % half k)) ≡ Switch net s (l % half k)
    by_test true e = let same : s ≡ k = eqb-true s k e in absurd (omega arith)
    by_test false e = refl

meets_module : (k : ℕ) (net : Net) (l : ℕ) → lower_end k (on_line net k l) ≡ ModuleAt l
meets_module k net l = ap (λ t. cond t (ModuleAt l) (Switch net k (l % half k))) (eq-eqb k k refl)

abbrev pub ReplyShown : Project → List MachineState → Net → Network → ℕ → ℕ → Type 0
ReplyShown P S net n s l =
    (u : MachineState) × (lower_state P S (on_line net s l) ≡ Some u)
    × (head (queue_of n.replies s (label P.k (on_line net s l))) ≡ reply_on P.k (on_line net s l) u)

at_modules : (P : Project) (S : List MachineState) (net : Net) (n : Network) → Holds P.k net n S → (l : ℕ) → l < lines P.k → ReplyShown P S net n P.k l
at_modules P S net n holds l within =
    let named : LabelsName P.k = each_is_named P.k in
    let m = holds.modules l within in
    (Module m.0, ap (λ c. slice_get S (number_of P.k c)) (meets_module P.k net l) ∙ m.1, ap (λ x. head (queue_of n.replies P.k x)) (named.modules l within) ∙ ap head m.3)

pub lower_shown : (P : Project) (S : List MachineState) (net : Net) (n : Network) → Holds P.k net n S → (s l : ℕ) → s ≤ P.k → l < lines P.k → ReplyShown P S net n s l
lower_shown P S net n holds s l le within = by_test (s == P.k) refl
  where
    by_test : (t : Bool) → (s == P.k) ≡ t → ReplyShown P S net n s l
    by_test true e = let same : s ≡ P.k = eqb-true s P.k e in subst (λ r. ReplyShown P S net n r l) (sym same) (at_modules P S net n holds l within)
    by_test false e =
        let lt : s < P.k = grind (arith, nat_tests) in
        let w = holds.switches s (l % half P.k) lt (mod-lt l (half_some P.k s lt)) in (
          switch_of net P.k n s (l % half P.k) w.0 w.1,
          ap (λ c. slice_get S (number_of P.k c)) (meets_switch P.k net s l lt) ∙ w.2,
          ap (λ x. head (queue_of n.replies s x)) (label_before P.k s l lt within) ∙ reply_shown net P.k n s (l % half P.k) w.0 w.1 l (input_small P.k s l lt within),
        )
