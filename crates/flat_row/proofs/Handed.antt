-- What a component is handed, where the heads at the labels of some sets leave.
use Rattle.std.proofs.Common.{◌≡◌, ℕ, suc, ◌+◌, ◌*◌, ◌<◌, ◌≤◌, Bool, List, [], ◌∷◌, ap, sym, ◌∙◌, Option, arith}
use Rattle.std.specs.Prelude.{◌||◌, is_some}
use Rattle.omega_net.specs.declared.component.Net.{Net}
use Rattle.omega_net.specs.declared.component.Net.TheVariants.{Low as LowNet, Comb as CombNet}
use Rattle.omega_net.specs.declared.message.Request.{Request}
use Rattle.omega_net.specs.declared.message.Reply.{Reply}
use Rattle.omega_net.specs.declared.message.Traffic.{Traffic}
use Rattle.omega_net.specs.Numbers.{lines, half}
use Rattle.omega_net.specs.Wires.{wire_of_proc, wire_of_module, wire_into, wire_out}
use Rattle.mem_module.specs.declared.step.ModuleTraffic.{ModuleTraffic}
use Rattle.ref_proc.specs.declared.step.ProcTraffic.{ProcTraffic}
use Rattle.project_book.specs.Project.{Project}
use Rattle.machine_cells.specs.Moves.{Move, moves, moved_request, moved_reply}
use Rattle.machine_cells.specs.Cycle.{proc_traffic, module_traffic, switch_traffic}
use Rattle.flat_row.specs.Labels.{label, LabelsName}
use Rattle.flat_row.specs.Masks.{has}
use Rattle.flat_row.specs.Queues.{Queues}
use Rattle.flat_row.specs.Shows.{on_line}
use Rattle.flat_row.specs.Row.{Network, Arrays, queue_of, port_label, states_of}
use Rattle.flat_row.specs.Rows.{if_leaves, network}
use Rattle.flat_row.specs.Leaving.{AreForth, AreBack}
use Rattle.flat_row.proofs.Labelling.{each_is_named}
use Rattle.flat_row.proofs.Turning.{line_in, line_out, into, out}

-- the head at a label of a set
abbrev pub gone : {T : Type 0} → List (Queues T) → ℕ → ℕ → ℕ → Option T
gone levels l x set = if_leaves (has set x) (queue_of levels l x)

abbrev traffic_of : Option Request → Option Request → Option Reply → Option Reply → Bool → Bool → Bool → Bool → Traffic
traffic_of a b c d e f g h = record { requests = a ∷ b ∷ []; replies = c ∷ d ∷ []; requests_leave = e ∷ f ∷ []; replies_leave = g ∷ h ∷ [] }

-- a switch
module _ (P : Project) (few : P.k ≤ 6) (R : Arrays) (net : Net) (s j : ℕ) (lt : s < P.k) (small : j < half P.k) (come go returned back : ℕ)
    (comes : AreForth P R net s come) (goes : AreForth P R net (s + 1) go) (returns : AreBack P R net (s + 1) returned) (leaves : AreBack P R net s back)
    (x y : ℕ) (x_is : x ≡ port_label P.k s j 0) (y_is : y ≡ port_label P.k s j 1) (N : Network) (N_is : N ≡ network R net) where
  abbrev M : List Move
  M = moves P (states_of R)

  next_is : s + 1 ≡ suc s
  next_is = omega arith

  -- what comes in at an input, and leaves at an output
  come_in : (i z : ℕ) → i < 2 → z ≡ port_label P.k s j i → gone N.requests s z come ≡ moved_request M (wire_into P.k net s j i)
  come_in i z h e =
      ap (λ n. gone n.requests s z come) N_is ∙ ap (λ z. gone (network R net).requests s z come) (e ∙ sym (into P few s j lt small net i h))
      ∙ sym (comes (i * half P.k + j) (line_in P few s j lt small i h))

  go_out : (o z : ℕ) → o < 2 → z ≡ port_label P.k s j o → gone N.requests (s + 1) z go ≡ moved_request M (wire_out net s j o)
  go_out o z h e =
      ap (λ n. gone n.requests (s + 1) z go) N_is ∙ ap (λ z. gone (network R net).requests (s + 1) z go) (e ∙ sym (out P few s j lt small net o h))
      ∙ ap (λ l. gone (network R net).requests (s + 1) (label P.k (on_line net l (2 * j + o))) go) (sym next_is)
      ∙ sym (goes (2 * j + o) (line_out P few s j lt small o h))
      ∙ ap (λ l. moved_request M (on_line net l (2 * j + o))) next_is

  -- and back
  come_back : (o z : ℕ) → o < 2 → z ≡ port_label P.k s j o → gone N.replies (s + 1) z returned ≡ moved_reply M (wire_out net s j o)
  come_back o z h e =
      ap (λ n. gone n.replies (s + 1) z returned) N_is ∙ ap (λ z. gone (network R net).replies (s + 1) z returned) (e ∙ sym (out P few s j lt small net o h))
      ∙ ap (λ l. gone (network R net).replies (s + 1) (label P.k (on_line net l (2 * j + o))) returned) (sym next_is)
      ∙ sym (returns (2 * j + o) (line_out P few s j lt small o h))
      ∙ ap (λ l. moved_reply M (on_line net l (2 * j + o))) next_is

  go_back : (i z : ℕ) → i < 2 → z ≡ port_label P.k s j i → gone N.replies s z back ≡ moved_reply M (wire_into P.k net s j i)
  go_back i z h e =
      ap (λ n. gone n.replies s z back) N_is ∙ ap (λ z. gone (network R net).replies s z back) (e ∙ sym (into P few s j lt small net i h))
      ∙ sym (leaves (i * half P.k + j) (line_in P few s j lt small i h))

  pub switch_handed : (a b : Option Request) (c d : Option Reply) (e f g h : Bool)
      → a ≡ gone N.requests s x come → b ≡ gone N.requests s y come → c ≡ gone N.replies (s + 1) x returned → d ≡ gone N.replies (s + 1) y returned
      → e ≡ is_some (gone N.requests (s + 1) x go) → f ≡ is_some (gone N.requests (s + 1) y go) → g ≡ is_some (gone N.replies s x back) → h ≡ is_some (gone N.replies s y back)
      → traffic_of a b c d e f g h ≡ switch_traffic M P.k net s j
  switch_handed a b c d e f g h ae be ce de ee fe ge he =
      let i0 : 0 < 2 = omega arith in
      let i1 : 1 < 2 = omega arith in
      ap (λ o. traffic_of o b c d e f g h) (ae ∙ come_in 0 x i0 x_is)
      ∙ ap (λ o. traffic_of (moved_request M (wire_into P.k net s j 0)) o c d e f g h) (be ∙ come_in 1 y i1 y_is)
      ∙ ap (λ o. traffic_of (moved_request M (wire_into P.k net s j 0)) (moved_request M (wire_into P.k net s j 1)) o d e f g h) (ce ∙ come_back 0 x i0 x_is)
      ∙ ap (λ o. traffic_of (moved_request M (wire_into P.k net s j 0)) (moved_request M (wire_into P.k net s j 1)) (moved_reply M (wire_out net s j 0)) o e f g h) (de ∙ come_back 1 y i1 y_is)
      ∙ ap (λ t. traffic_of (moved_request M (wire_into P.k net s j 0)) (moved_request M (wire_into P.k net s j 1)) (moved_reply M (wire_out net s j 0)) (moved_reply M (wire_out net s j 1)) t f g h) (ee ∙ ap is_some (go_out 0 x i0 x_is))
      ∙ ap (λ t. traffic_of (moved_request M (wire_into P.k net s j 0)) (moved_request M (wire_into P.k net s j 1)) (moved_reply M (wire_out net s j 0)) (moved_reply M (wire_out net s j 1)) (is_some (moved_request M (wire_out net s j 0))) t g h) (fe ∙ ap is_some (go_out 1 y i1 y_is))
      ∙ ap (λ t. traffic_of (moved_request M (wire_into P.k net s j 0)) (moved_request M (wire_into P.k net s j 1)) (moved_reply M (wire_out net s j 0)) (moved_reply M (wire_out net s j 1)) (is_some (moved_request M (wire_out net s j 0))) (is_some (moved_request M (wire_out net s j 1))) t h) (ge ∙ ap is_some (go_back 0 x i0 x_is))
      ∙ ap (λ t. traffic_of (moved_request M (wire_into P.k net s j 0)) (moved_request M (wire_into P.k net s j 1)) (moved_reply M (wire_out net s j 0)) (moved_reply M (wire_out net s j 1)) (is_some (moved_request M (wire_out net s j 0))) (is_some (moved_request M (wire_out net s j 1))) (is_some (moved_reply M (wire_into P.k net s j 0))) t) (he ∙ ap is_some (go_back 1 y i1 y_is))

-- a processor, on one network
module _ (P : Project) (R : Arrays) (net : Net) (p : ℕ) (within : p < lines P.k) where
  its_label : label P.k (on_line net 0 p) ≡ p
  its_label = let named : LabelsName P.k = each_is_named P.k in named.processors p

  pub reply_comes : (set : ℕ) → AreBack P R net 0 set → gone (network R net).replies 0 p set ≡ moved_reply (moves P (states_of R)) (wire_of_proc net p)
  reply_comes set are = ap (λ z. gone (network R net).replies 0 z set) (sym its_label) ∙ sym (are p within)

  pub request_goes : (set : ℕ) → AreForth P R net 0 set → gone (network R net).requests 0 p set ≡ moved_request (moves P (states_of R)) (wire_of_proc net p)
  request_goes set are = ap (λ z. gone (network R net).requests 0 z set) (sym its_label) ∙ sym (are p within)

abbrev pub proc_of_traffic : Option Reply → Option Reply → Bool → ProcTraffic
proc_of_traffic a b t = record { replies = a ∷ b ∷ []; request_leaves = t }

pub proc_handed : (P : Project) (R : Arrays) (p : ℕ) → p < lines P.k → (low comb low_set comb_set : ℕ)
    → AreBack P R LowNet 0 low → AreBack P R CombNet 0 comb → AreForth P R LowNet 0 low_set → AreForth P R CombNet 0 comb_set
    → (a b : Option Reply) (c d : Bool) → a ≡ gone R.low.replies 0 p low → b ≡ gone R.comb.replies 0 p comb
    → c ≡ is_some (gone R.low.requests 0 p low_set) → d ≡ is_some (gone R.comb.requests 0 p comb_set)
    → proc_of_traffic a b (c || d) ≡ proc_traffic (moves P (states_of R)) p
proc_handed P R p within low comb low_set comb_set lows combs low_goes comb_goes a b c d ae be ce de =
    let M = moves P (states_of R) in
    ap (λ o. proc_of_traffic o b (c || d)) (ae ∙ reply_comes P R LowNet p within low lows)
    ∙ ap (λ o. proc_of_traffic (moved_reply M (wire_of_proc LowNet p)) o (c || d)) (be ∙ reply_comes P R CombNet p within comb combs)
    ∙ ap (λ t. proc_of_traffic (moved_reply M (wire_of_proc LowNet p)) (moved_reply M (wire_of_proc CombNet p)) (t || d)) (ce ∙ ap is_some (request_goes P R LowNet p within low_set low_goes))
    ∙ ap (λ t. proc_of_traffic (moved_reply M (wire_of_proc LowNet p)) (moved_reply M (wire_of_proc CombNet p)) (is_some (moved_request M (wire_of_proc LowNet p)) || t)) (de ∙ ap is_some (request_goes P R CombNet p within comb_set comb_goes))

-- a module, on one network
module _ (P : Project) (R : Arrays) (net : Net) (m : ℕ) (within : m < lines P.k) where
  module_label : label P.k (on_line net P.k m) ≡ m
  module_label = let named : LabelsName P.k = each_is_named P.k in named.modules m within

  pub request_comes : (set : ℕ) → AreForth P R net P.k set → gone (network R net).requests P.k m set ≡ moved_request (moves P (states_of R)) (wire_of_module P.k net m)
  request_comes set are = ap (λ z. gone (network R net).requests P.k z set) (sym module_label) ∙ sym (are m within)

  pub reply_goes : (set : ℕ) → AreBack P R net P.k set → gone (network R net).replies P.k m set ≡ moved_reply (moves P (states_of R)) (wire_of_module P.k net m)
  reply_goes set are = ap (λ z. gone (network R net).replies P.k z set) (sym module_label) ∙ sym (are m within)

abbrev pub module_of_traffic : Option Request → Option Request → Bool → Bool → ModuleTraffic
module_of_traffic a b c d = record { requests = a ∷ b ∷ []; replies_leave = c ∷ d ∷ [] }

pub module_handed : (P : Project) (R : Arrays) (m : ℕ) → m < lines P.k → (low comb low_set comb_set : ℕ)
    → AreForth P R LowNet P.k low → AreForth P R CombNet P.k comb → AreBack P R LowNet P.k low_set → AreBack P R CombNet P.k comb_set
    → (a b : Option Request) (c d : Bool) → a ≡ gone R.low.requests P.k m low → b ≡ gone R.comb.requests P.k m comb
    → c ≡ is_some (gone R.low.replies P.k m low_set) → d ≡ is_some (gone R.comb.replies P.k m comb_set)
    → module_of_traffic a b c d ≡ module_traffic (moves P (states_of R)) P.k m
module_handed P R m within low comb low_set comb_set lows combs low_goes comb_goes a b c d ae be ce de =
    let M = moves P (states_of R) in
    ap (λ o. module_of_traffic o b c d) (ae ∙ request_comes P R LowNet m within low lows)
    ∙ ap (λ o. module_of_traffic (moved_request M (wire_of_module P.k LowNet m)) o c d) (be ∙ request_comes P R CombNet m within comb combs)
    ∙ ap (λ t. module_of_traffic (moved_request M (wire_of_module P.k LowNet m)) (moved_request M (wire_of_module P.k CombNet m)) t d) (ce ∙ ap is_some (reply_goes P R LowNet m within low_set low_goes))
    ∙ ap (λ t. module_of_traffic (moved_request M (wire_of_module P.k LowNet m)) (moved_request M (wire_of_module P.k CombNet m)) (is_some (moved_reply M (wire_of_module P.k LowNet m))) t) (de ∙ ap is_some (reply_goes P R CombNet m within comb_set comb_goes))
