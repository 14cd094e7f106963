-- A component's state is put into a row, and all others stay.
use Rattle.std.proofs.Common.{◌≡◌, ℕ, zero, suc, ◌+◌, ◌-◌, ◌*◌, ◌/◌, ◌%◌, ◌^◌, ◌<◌, ◌≤◌, Bool, true, false, cond, List, [], ◌∷◌, length, get_or, refl, ap, sym, ◌∙◌, subst, Option, Some, arith}
use Rattle.std.specs.Prelude.{◌==◌, ◌&&◌, slice_index_or}
use Rattle.std.proofs.Math.ListN.{set, length-set}
use Rattle.std.proofs.lemmas.List.{get_or-set_same, get_or-set_other, get_or_default}
use Rattle.std.proofs.lemmas.Bool.{eqb-true, eq-eqb, ne_eqb}
use Rattle.std.proofs.Math.Pow.{pow_mono}
use Rattle.arrayvec.specs.ArrayVec.{ArrayVec}
use Rattle.omega_net.specs.declared.component.Net.{Net}
use Rattle.omega_net.specs.declared.component.Net.TheVariants.{Low as LowNet, Comb as CombNet}
use Rattle.omega_net.specs.declared.component.Component.{Component}
use Rattle.omega_net.specs.declared.component.Component.TheVariants.{Proc as ProcAt, Module as ModuleAt, Switch}
use Rattle.omega_net.specs.declared.message.Request.{Request}
use Rattle.omega_net.specs.declared.message.Reply.{Reply}
use Rattle.omega_net.specs.Numbers.{lines, half, Exists}
use Rattle.omega_net.specs.Queues.{head}
use Rattle.omega_net.specs.Ports.{queue_at, empty}
use Rattle.omega_net.proofs.Numbering.{half_twice}
use Rattle.mem_module.specs.declared.words.Stored.{Stored}
use Rattle.mem_module.specs.declared.state.ModuleState.{ModuleState}
use Rattle.ref_proc.specs.declared.state.ProcState.{ProcState}
use Rattle.ref_proc.specs.RefProc.{proc_start, net_for}
use Rattle.comb_switch.specs.declared.waiting.Waiting.{Waiting}
use Rattle.comb_switch.specs.declared.state.CombState.{CombState}
use Rattle.low_switch.specs.declared.state.LowState.{LowState}
use Rattle.machine_cells.specs.declared.state.MachineState.TheVariants.{Proc, Module, Low, Comb}
use Rattle.project_book.specs.Project.{Project}
use Rattle.state_words.specs.Messages.{request_from, reply_from, net_from}
use Rattle.state_words.specs.Reading.{count_in, mark_in, queue_from, after, after_requests, module_from}
use Rattle.flat_row.specs.Labels.{rotated_right, switch_label, LabelsName}
use Rattle.flat_row.specs.Masks.{has, IsSetOf}
use Rattle.flat_row.specs.Queues.{Queues}
use Rattle.flat_row.specs.Row.{Network, Buffers, Arrays, IsRow, IsRowOf, Rests, queue_of, port_label, turn_of, low_of, comb_of, module_of, proc_of, out_from, state_of, buffers_at, wait_of, combined_of}
use Rattle.flat_row.specs.Moving.{SameShape}
use Rattle.flat_row.specs.Loading.{Apart, with_at, RequestsPut, RepliesPut, TurnPut, TurnsPut, PortsPut, OnlyState}
use Rattle.flat_row.proofs.Labelling.{each_is_named}
use Rattle.flat_row.proofs.Holding.{port_small}
use Rattle.flat_row.proofs.Passing.{shape_same}
use Rattle.flat_row.proofs.Stepped.{network_still, network_of_still}

false_true : false ≡ true → ⊥
false_true e = cc

module _ {T : Type 0} where
  pub with_here : (levels : List (Queues T)) (at x : ℕ) (q : ArrayVec T) → with_at levels at x q at x ≡ q
  with_here levels at x q = ap (λ t. cond (t && (x == x)) q (queue_of levels at x)) (eq-eqb at at refl) ∙ ap (λ t. cond t q (queue_of levels at x)) (eq-eqb x x refl)

  pub with_other : (levels : List (Queues T)) (at x : ℕ) (q : ArrayVec T) (l z : ℕ) → (l ≡ at → z ≡ x → ⊥) → with_at levels at x q l z ≡ queue_of levels l z
  with_other levels at x q l z ne = by_tests (l == at) (z == x) refl refl
    where
      by_tests : (s t : Bool) → (l == at) ≡ s → (z == x) ≡ t → cond (s && t) q (queue_of levels l z) ≡ queue_of levels l z
      by_tests true true e f = absurd (ne (eqb-true l at e) (eqb-true z x f))
      by_tests true false e f = refl
      by_tests false t e f = refl

-- the labels of different ports of a stage are different
pub ports_differ : (k s i j o u : ℕ) → s < k → i < half k → j < half k → o < 2 → u < 2 → port_label k s i o ≡ port_label k s j u → 2 * i + o ≡ 2 * j + u
ports_differ k s i j o u lt il jl ol ul e =
    let named : LabelsName k = each_is_named k in
    let first : 2 * i + o < 2 ^ k = omega (arith, half_twice k s lt) in
    let second : 2 * j + u < 2 ^ k = omega (arith, half_twice k s lt) in
    let level : suc s ≤ k = omega arith in
    let here : rotated_right k (suc s) (2 * i + o) ≡ port_label k s i o = named.out LowNet s i o lt il ol in
    let there : rotated_right k (suc s) (2 * j + u) ≡ port_label k s j u = named.out LowNet s j u lt jl ul in
    sym (named.lines_back (suc s) (2 * i + o) level first) ∙ ap (rotated_right k (k - suc s)) (here ∙ e ∙ sym there) ∙ named.lines_back (suc s) (2 * j + u) level second

pub two_ports : (k s j x y : ℕ) → s < k → j < half k → x ≡ port_label k s j 0 → y ≡ port_label k s j 1 → x ≡ y → ⊥
two_ports k s j x y lt small a b e = let same : 2 * j + 0 ≡ 2 * j + 1 = ports_differ k s j j 0 1 lt small small (omega arith) (omega arith) (sym a ∙ e ∙ b) in omega (arith, same)

-- a port of another switch
pub other_switch : (k s j t i o u z x : ℕ) → s < k → j < half k → i < half k → o < 2 → u < 2 → (t ≡ s → i ≡ j → ⊥) → z ≡ port_label k t i o → x ≡ port_label k s j u → t ≡ s → z ≡ x → ⊥
other_switch k s j t i o u z x lt small il ol ul ne a b same e =
    let line : 2 * i + o ≡ 2 * j + u = ports_differ k s i j o u lt il small ol ul (sym (ap (λ n. port_label k n i o) same) ∙ sym a ∙ e ∙ b) in
    ne same (omega (arith, line, ol, ul))

-- a low switch, a combining one, a module and a processor by their parts
abbrev pub low_made : ArrayVec Request → ArrayVec Request → ℕ → ℕ → ArrayVec Reply → ArrayVec Reply → ℕ → ℕ → LowState
low_made a b c d e f g h = record { fwd = a ∷ b ∷ []; turn = c ∷ d ∷ []; rev = e ∷ f ∷ []; rturn = g ∷ h ∷ [] }

pub low_same : (a a1 b b1 : ArrayVec Request) (c c1 d d1 : ℕ) (e e1 f f1 : ArrayVec Reply) (g g1 h h1 : ℕ)
    → a ≡ a1 → b ≡ b1 → c ≡ c1 → d ≡ d1 → e ≡ e1 → f ≡ f1 → g ≡ g1 → h ≡ h1 → low_made a b c d e f g h ≡ low_made a1 b1 c1 d1 e1 f1 g1 h1
low_same a a1 b b1 c c1 d d1 e e1 f f1 g g1 h h1 i j k l m n o p =
    ap (λ z. low_made z b c d e f g h) i ∙ ap (λ z. low_made a1 z c d e f g h) j ∙ ap (λ z. low_made a1 b1 z d e f g h) k ∙ ap (λ z. low_made a1 b1 c1 z e f g h) l
    ∙ ap (λ z. low_made a1 b1 c1 d1 z f g h) m ∙ ap (λ z. low_made a1 b1 c1 d1 e1 z g h) n ∙ ap (λ z. low_made a1 b1 c1 d1 e1 f1 z h) o ∙ ap (λ z. low_made a1 b1 c1 d1 e1 f1 g1 z) p

abbrev pub comb_made : ArrayVec Request → ArrayVec Request → ArrayVec Reply → ArrayVec Reply → ArrayVec Waiting → ℕ → ℕ → ℕ → ℕ → CombState
comb_made a b c d w e f g n = record { fwd = a ∷ b ∷ []; rev = c ∷ d ∷ []; wait = w; turn = e ∷ f ∷ []; rturn = g; combined = n }

pub comb_same : (a a1 b b1 : ArrayVec Request) (c c1 d d1 : ArrayVec Reply) (w w1 : ArrayVec Waiting) (e e1 f f1 g g1 n n1 : ℕ)
    → a ≡ a1 → b ≡ b1 → c ≡ c1 → d ≡ d1 → w ≡ w1 → e ≡ e1 → f ≡ f1 → g ≡ g1 → n ≡ n1 → comb_made a b c d w e f g n ≡ comb_made a1 b1 c1 d1 w1 e1 f1 g1 n1
comb_same a a1 b b1 c c1 d d1 w w1 e e1 f f1 g g1 n n1 h i j k l m o p q =
    ap (λ z. comb_made z b c d w e f g n) h ∙ ap (λ z. comb_made a1 z c d w e f g n) i ∙ ap (λ z. comb_made a1 b1 z d w e f g n) j ∙ ap (λ z. comb_made a1 b1 c1 z w e f g n) k
    ∙ ap (λ z. comb_made a1 b1 c1 d1 z e f g n) l ∙ ap (λ z. comb_made a1 b1 c1 d1 w1 z f g n) m ∙ ap (λ z. comb_made a1 b1 c1 d1 w1 e1 z g n) o
    ∙ ap (λ z. comb_made a1 b1 c1 d1 w1 e1 f1 z n) p ∙ ap (λ z. comb_made a1 b1 c1 d1 w1 e1 f1 g1 z) q

abbrev pub module_made : List Stored → ArrayVec Request → ArrayVec Request → ArrayVec Reply → ArrayVec Reply → Net → Bool → ModuleState
module_made ws a b c d t v = record { words = ws; requests = a ∷ b ∷ []; replies = c ∷ d ∷ []; turn = t; served = v }

pub module_same : (ws : List Stored) (a a1 b b1 : ArrayVec Request) (c c1 d d1 : ArrayVec Reply) (t t1 : Net) (v v1 : Bool)
    → a ≡ a1 → b ≡ b1 → c ≡ c1 → d ≡ d1 → t ≡ t1 → v ≡ v1 → module_made ws a b c d t v ≡ module_made ws a1 b1 c1 d1 t1 v1
module_same ws a a1 b b1 c c1 d d1 t t1 v v1 h i j k l m =
    ap (λ z. module_made ws z b c d t v) h ∙ ap (λ z. module_made ws a1 z c d t v) i ∙ ap (λ z. module_made ws a1 b1 z d t v) j
    ∙ ap (λ z. module_made ws a1 b1 c1 z t v) k ∙ ap (λ z. module_made ws a1 b1 c1 d1 z v) l ∙ ap (λ z. module_made ws a1 b1 c1 d1 t1 z) m

abbrev pub showing : ProcState → Option Request → Option Request → ProcState
showing s low comb = record s { out = out_from low comb }

-- the switches of a network, but one of which the queues are put, stay
module _ (k s j x y h : ℕ) (ws : List ℕ) (old new : Network) (few : k ≤ 6) (lt : s < k) (small : j < half k) (x_is : x ≡ port_label k s j 0) (y_is : y ≡ port_label k s j 1)
    (put : PortsPut s x y h ws old new) where
  apart : (t i o : ℕ) → i < half k → o < 2 → (t ≡ s → i ≡ j → ⊥) → Apart s x y t (port_label k t i o)
  apart t i o il ol ne e = (
    other_switch k s j t i o 0 (port_label k t i o) x lt small il ol (omega arith) ne refl x_is e,
    other_switch k s j t i o 1 (port_label k t i o) y lt small il ol (omega arith) ne refl y_is e,
  )

  fwd_kept : (t i o : ℕ) → i < half k → o < 2 → (t ≡ s → i ≡ j → ⊥) → queue_of new.requests (suc t) (port_label k t i o) ≡ queue_of old.requests (suc t) (port_label k t i o)
  fwd_kept t i o il ol ne = put.requests (suc t) (port_label k t i o) (λ e. apart t i o il ol ne (omega (arith, e)))

  rev_kept : (t i o : ℕ) → i < half k → o < 2 → (t ≡ s → i ≡ j → ⊥) → queue_of new.replies t (port_label k t i o) ≡ queue_of old.replies t (port_label k t i o)
  rev_kept t i o il ol ne = put.replies t (port_label k t i o) (apart t i o il ol ne)

  turn_kept : (a b : ℕ) (before after : List ℕ) → TurnsPut s x y a b before after → (t i o : ℕ) → t < k → i < half k → o < 2 → (t ≡ s → i ≡ j → ⊥)
      → turn_of after t (port_label k t i o) ≡ turn_of before t (port_label k t i o)
  turn_kept a b before after turns t i o tl il ol ne = turns.others t (port_label k t i o) (port_small k t i o few tl il ol) (apart t i o il ol ne)

  one_turn_kept : (a : ℕ) (before after : List ℕ) → TurnPut s x a before after → (t i : ℕ) → t < k → i < half k → (t ≡ s → i ≡ j → ⊥)
      → turn_of after t (port_label k t i 0) ≡ turn_of before t (port_label k t i 0)
  one_turn_kept a before after turns t i tl il ne = turns.others t (port_label k t i 0) (port_small k t i 0 few tl il (omega arith)) (λ e. (apart t i 0 il (omega arith) ne e).0)

  pub first_kept : (p : ℕ) → queue_of new.requests 0 p ≡ queue_of old.requests 0 p
  first_kept p = put.requests 0 p (λ e. absurd (omega (arith, e)))

  pub entering_kept : (m : ℕ) → queue_of new.requests (suc k) m ≡ queue_of old.requests (suc k) m
  entering_kept m = put.requests (suc k) m (λ e. absurd (omega (arith, e, lt)))

  pub answering_kept : (m : ℕ) → queue_of new.replies k m ≡ queue_of old.replies k m
  answering_kept m = put.replies k m (λ e. absurd (omega (arith, e, lt)))

  pub low_kept : (a b c d : ℕ) → TurnsPut s x y a b old.turns new.turns → TurnsPut s x y c d old.back_turns new.back_turns
      → (t i : ℕ) → t < k → i < half k → (t ≡ s → i ≡ j → ⊥) → low_of k new t i ≡ low_of k old t i
  low_kept a b c d turns back t i tl il ne =
      let zero_two : 0 < 2 = omega arith in
      let one_two : 1 < 2 = omega arith in
      low_same _ _ _ _ _ _ _ _ _ _ _ _ _ _ _ _ (fwd_kept t i 0 il zero_two ne) (fwd_kept t i 1 il one_two ne)
      (turn_kept a b old.turns new.turns turns t i 0 tl il zero_two ne) (turn_kept a b old.turns new.turns turns t i 1 tl il one_two ne)
      (rev_kept t i 0 il zero_two ne) (rev_kept t i 1 il one_two ne)
      (turn_kept c d old.back_turns new.back_turns back t i 0 tl il zero_two ne) (turn_kept c d old.back_turns new.back_turns back t i 1 tl il one_two ne)

  pub comb_kept : (a b c : ℕ) → TurnsPut s x y a b old.turns new.turns → TurnPut s x c old.back_turns new.back_turns
      → (t i : ℕ) → t < k → i < half k → (t ≡ s → i ≡ j → ⊥) → (w w1 : ArrayVec Waiting) (n n1 : ℕ) → w ≡ w1 → n ≡ n1 → comb_of k new t i w n ≡ comb_of k old t i w1 n1
  comb_kept a b c turns back t i tl il ne w w1 n n1 e f =
      let zero_two : 0 < 2 = omega arith in
      let one_two : 1 < 2 = omega arith in
      comb_same _ _ _ _ _ _ _ _ w w1 _ _ _ _ _ _ n n1 (fwd_kept t i 0 il zero_two ne) (fwd_kept t i 1 il one_two ne) (rev_kept t i 0 il zero_two ne) (rev_kept t i 1 il one_two ne) e
      (turn_kept a b old.turns new.turns turns t i 0 tl il zero_two ne) (turn_kept a b old.turns new.turns turns t i 1 tl il one_two ne)
      (one_turn_kept c old.back_turns new.back_turns back t i tl il ne) f

-- a low switch is put into a row
module _ (R : Arrays) (row : IsRow R) (s j x y h a b c d : ℕ) (ws : List ℕ) (lo : Network) (lt : s < R.k) (small : j < half R.k) (x_is : x ≡ port_label R.k s j 0) (y_is : y ≡ port_label R.k s j 1)
    (put : PortsPut s x y h ws R.low lo) (turns : TurnsPut s x y a b R.low.turns lo.turns) (back : TurnsPut s x y c d R.low.back_turns lo.back_turns) where
  first_low : (p : ℕ) → queue_of lo.requests 0 p ≡ queue_of R.low.requests 0 p
  first_low p = first_kept R.k s j x y h ws R.low lo row.small lt small x_is y_is put p

  pub low_is_row : IsRow (record R { low = lo })
  low_is_row = record {
    small = row.small;
    low = network_still R.k R.low lo row.low put.requests_shape put.replies_shape (turns.many ∙ row.low.turns) (back.many ∙ row.low.back_turns);
    comb = row.comb;
    buffers = row.buffers;
    entries = row.entries;
    procs = row.procs;
    words = row.words;
    one_out = λ p. subst (λ q. length q.items + length (queue_of R.comb.requests 0 p).items ≤ 1) (sym (first_low p)) (row.one_out p);
  }

  proc_low : (p : ℕ) → proc_of (record R { low = lo }) p ≡ proc_of R p
  proc_low p = ap (λ q. showing (slice_index_or R.procs p proc_start) (head q) (head (queue_of R.comb.requests 0 p))) (first_low p)

  others_low : (e : Component) → Exists R.k e → (e ≡ Switch LowNet s j → ⊥) → state_of (record R { low = lo }) (Some e) ≡ state_of R (Some e)
  others_low (ProcAt p) there ne = ap Proc (proc_low p)
  others_low (ModuleAt m) there ne =
      ap Module (module_same (slice_index_or R.words m []) _ _ _ _ _ _ _ _ _ _ _ _ (entering_kept R.k s j x y h ws R.low lo row.small lt small x_is y_is put m) refl
      (answering_kept R.k s j x y h ws R.low lo row.small lt small x_is y_is put m) refl refl refl)
  others_low (Switch LowNet t i) there ne =
      ap Low (low_kept R.k s j x y h ws R.low lo row.small lt small x_is y_is put a b c d turns back t i there.0 there.1 (λ e f. ne (ap (λ n. Switch LowNet n i) e ∙ ap (Switch LowNet s) f)))
  others_low (Switch CombNet t i) there ne = refl

  pub only_low : OnlyState (Switch LowNet s j) R (record R { low = lo })
  only_low = record {
    size = refl;
    others = others_low;
    of = λ P o. record {
      size = o.size;
      low = network_of_still P LowNet R.low lo o.low put.requests_shape put.replies_shape;
      comb = o.comb;
      rest = λ p within so. subst (λ u. Rests P p u) (sym (proc_low p)) (o.rest p within so);
    };
  }

-- a combining switch is put into a row
plain : (a p : ℕ) → a ≡ a + 0 * p
plain a p = omega arith

abbrev no_buffers : Buffers
no_buffers = record { entries = []; once = 0; twice = 0 }

pub entries_there : (R : Arrays) → IsRow R → (s x : ℕ) (v : Buffers) → s < R.k → x < lines R.k → v ≡ get_or R.buffers s v → x < length v.entries
entries_there R row s x v lt within is =
    subst (λ b. x < length b.entries) (sym (is ∙ get_or_default R.buffers s v no_buffers (subst (λ n. s < n) (sym row.buffers) lt))) (subst (λ n. x < n) (sym (row.entries s lt)) within)

module _ (R : Arrays) (row : IsRow R) (s j x y h a b c : ℕ) (ws : List ℕ) (co : Network) (lt : s < R.k) (small : j < half R.k) (x_is : x ≡ port_label R.k s j 0) (y_is : y ≡ port_label R.k s j 1)
    (put : PortsPut s x y h ws R.comb co) (turns : TurnsPut s x y a b R.comb.turns co.turns) (back : TurnPut s x c R.comb.back_turns co.back_turns)
    (v w : Buffers) (q : ArrayVec Waiting) (v_is : v ≡ get_or R.buffers s v) (entries : w.entries ≡ set v.entries x q)
    (counts : (z : ℕ) → z < 64 → (z ≡ x → ⊥) → combined_of w z ≡ combined_of v z) where
  abbrev with_comb : Arrays
  with_comb = record R { comb = co; buffers = set R.buffers s w }

  there : s < length R.buffers
  there = subst (λ n. s < n) (sym row.buffers) lt

  found : v ≡ buffers_at R s
  found = v_is ∙ get_or_default R.buffers s v no_buffers there

  at_stage : buffers_at with_comb s ≡ w
  at_stage = get_or-set_same R.buffers s w no_buffers there

  at_other : (t : ℕ) → (t ≡ s → ⊥) → buffers_at with_comb t ≡ buffers_at R t
  at_other t ne = get_or-set_other R.buffers s t w no_buffers ne

  entries_long : (t : ℕ) → length (buffers_at with_comb t).entries ≡ length (buffers_at R t).entries
  entries_long t = by_test (t == s) refl
    where
      by_test : (r : Bool) → (t == s) ≡ r → length (buffers_at with_comb t).entries ≡ length (buffers_at R t).entries
      by_test true e =
          ap (λ n. length (buffers_at with_comb n).entries) (eqb-true t s e) ∙ ap (λ u. length u.entries) at_stage ∙ ap length entries ∙ length-set v.entries x q
          ∙ ap (λ u. length u.entries) found ∙ ap (λ n. length (buffers_at R n).entries) (sym (eqb-true t s e))
      by_test false e = ap (λ u. length u.entries) (at_other t (λ f. false_true (sym e ∙ eq-eqb t s f)))

  first_comb : (p : ℕ) → queue_of co.requests 0 p ≡ queue_of R.comb.requests 0 p
  first_comb p = first_kept R.k s j x y h ws R.comb co row.small lt small x_is y_is put p

  pub comb_is_row : IsRow (record R { comb = co; buffers = set R.buffers s w })
  comb_is_row = record {
    small = row.small;
    low = row.low;
    comb = network_still R.k R.comb co row.comb put.requests_shape put.replies_shape (turns.many ∙ row.comb.turns) (back.many ∙ row.comb.back_turns);
    buffers = length-set R.buffers s w ∙ row.buffers;
    entries = λ t tl. entries_long t ∙ row.entries t tl;
    procs = row.procs;
    words = row.words;
    one_out = λ p. subst (λ r. length (queue_of R.low.requests 0 p).items + length r.items ≤ 1) (sym (first_comb p)) (row.one_out p);
  }

  proc_comb : (p : ℕ) → proc_of with_comb p ≡ proc_of R p
  proc_comb p = ap (λ r. showing (slice_index_or R.procs p proc_start) (head (queue_of R.low.requests 0 p)) (head r)) (first_comb p)

  label_apart : (t i : ℕ) → i < half R.k → (t ≡ s → i ≡ j → ⊥) → t ≡ s → switch_label R.k t i ≡ x → ⊥
  label_apart t i il ne same e =
      other_switch R.k s j t i 0 0 (switch_label R.k t i) x lt small il (omega arith) (omega arith) ne (plain (switch_label R.k t i) (2 ^ (R.k - 1 - t))) x_is same e

  wait_kept : (t i : ℕ) → i < half R.k → (t ≡ s → i ≡ j → ⊥) → wait_of (buffers_at with_comb t) (switch_label R.k t i) ≡ wait_of (buffers_at R t) (switch_label R.k t i)
  wait_kept t i il ne = by_test (t == s) refl
    where
      by_test : (r : Bool) → (t == s) ≡ r → wait_of (buffers_at with_comb t) (switch_label R.k t i) ≡ wait_of (buffers_at R t) (switch_label R.k t i)
      by_test true e =
          ap (λ n. wait_of (buffers_at with_comb n) (switch_label R.k t i)) (eqb-true t s e) ∙ ap (λ u. wait_of u (switch_label R.k t i)) at_stage
          ∙ ap (λ es. queue_at es (switch_label R.k t i)) entries ∙ get_or-set_other v.entries x (switch_label R.k t i) q empty (label_apart t i il ne (eqb-true t s e))
          ∙ ap (λ u. wait_of u (switch_label R.k t i)) found ∙ ap (λ n. wait_of (buffers_at R n) (switch_label R.k t i)) (sym (eqb-true t s e))
      by_test false e = ap (λ u. wait_of u (switch_label R.k t i)) (at_other t (λ f. false_true (sym e ∙ eq-eqb t s f)))

  count_kept : (t i : ℕ) → t < R.k → i < half R.k → (t ≡ s → i ≡ j → ⊥) → combined_of (buffers_at with_comb t) (switch_label R.k t i) ≡ combined_of (buffers_at R t) (switch_label R.k t i)
  count_kept t i tl il ne = by_test (t == s) refl
    where
      label_small : switch_label R.k t i < 64
      label_small = subst (λ n. n < 64) (sym (plain (switch_label R.k t i) (2 ^ (R.k - 1 - t)))) (port_small R.k t i 0 row.small tl il (omega arith))

      by_test : (r : Bool) → (t == s) ≡ r → combined_of (buffers_at with_comb t) (switch_label R.k t i) ≡ combined_of (buffers_at R t) (switch_label R.k t i)
      by_test true e =
          ap (λ n. combined_of (buffers_at with_comb n) (switch_label R.k t i)) (eqb-true t s e) ∙ ap (λ u. combined_of u (switch_label R.k t i)) at_stage
          ∙ counts (switch_label R.k t i) label_small (label_apart t i il ne (eqb-true t s e))
          ∙ ap (λ u. combined_of u (switch_label R.k t i)) found ∙ ap (λ n. combined_of (buffers_at R n) (switch_label R.k t i)) (sym (eqb-true t s e))
      by_test false e = ap (λ u. combined_of u (switch_label R.k t i)) (at_other t (λ f. false_true (sym e ∙ eq-eqb t s f)))

  others_comb : (e : Component) → Exists R.k e → (e ≡ Switch CombNet s j → ⊥) → state_of with_comb (Some e) ≡ state_of R (Some e)
  others_comb (ProcAt p) exists ne = ap Proc (proc_comb p)
  others_comb (ModuleAt m) exists ne =
      ap Module (module_same (slice_index_or R.words m []) _ _ _ _ _ _ _ _ _ _ _ _ refl (entering_kept R.k s j x y h ws R.comb co row.small lt small x_is y_is put m)
      refl (answering_kept R.k s j x y h ws R.comb co row.small lt small x_is y_is put m) refl refl)
  others_comb (Switch LowNet t i) exists ne = refl
  others_comb (Switch CombNet t i) exists ne =
      let apart_so : t ≡ s → i ≡ j → ⊥ = λ e f. ne (ap (λ n. Switch CombNet n i) e ∙ ap (Switch CombNet s) f) in
      ap Comb (comb_kept R.k s j x y h ws R.comb co row.small lt small x_is y_is put a b c turns back t i exists.0 exists.1 apart_so _ _ _ _ (wait_kept t i exists.1 apart_so) (count_kept t i exists.0 exists.1 apart_so))

  pub only_comb : OnlyState (Switch CombNet s j) R (record R { comb = co; buffers = set R.buffers s w })
  only_comb = record {
    size = refl;
    others = others_comb;
    of = λ P o. record {
      size = o.size;
      low = o.low;
      comb = network_of_still P CombNet R.comb co o.comb put.requests_shape put.replies_shape;
      rest = λ p within so. subst (λ u. Rests P p u) (sym (proc_comb p)) (o.rest p within so);
    };
  }

-- switches whose queues and turns are the same
low_still : (k : ℕ) (old new : Network) (t i : ℕ) → ((z : ℕ) → queue_of new.requests (suc t) z ≡ queue_of old.requests (suc t) z) → ((z : ℕ) → queue_of new.replies t z ≡ queue_of old.replies t z)
    → new.turns ≡ old.turns → new.back_turns ≡ old.back_turns → low_of k new t i ≡ low_of k old t i
low_still k old new t i f r a b =
    low_same _ _ _ _ _ _ _ _ _ _ _ _ _ _ _ _ (f (port_label k t i 0)) (f (port_label k t i 1)) (ap (λ ts. turn_of ts t (port_label k t i 0)) a) (ap (λ ts. turn_of ts t (port_label k t i 1)) a)
    (r (port_label k t i 0)) (r (port_label k t i 1)) (ap (λ ts. turn_of ts t (port_label k t i 0)) b) (ap (λ ts. turn_of ts t (port_label k t i 1)) b)

comb_still : (k : ℕ) (old new : Network) (t i : ℕ) (w : ArrayVec Waiting) (n : ℕ) → ((z : ℕ) → queue_of new.requests (suc t) z ≡ queue_of old.requests (suc t) z)
    → ((z : ℕ) → queue_of new.replies t z ≡ queue_of old.replies t z) → new.turns ≡ old.turns → new.back_turns ≡ old.back_turns → comb_of k new t i w n ≡ comb_of k old t i w n
comb_still k old new t i w n f r a b =
    comb_same _ _ _ _ _ _ _ _ w w _ _ _ _ _ _ n n (f (port_label k t i 0)) (f (port_label k t i 1)) (r (port_label k t i 0)) (r (port_label k t i 1)) refl
    (ap (λ ts. turn_of ts t (port_label k t i 0)) a) (ap (λ ts. turn_of ts t (port_label k t i 1)) a) (ap (λ ts. turn_of ts t (port_label k t i 0)) b) refl

pub line_small : (k p : ℕ) → k ≤ 6 → p < lines k → p < 64
line_small k p few within = let most : 2 ^ k ≤ 64 = pow_mono few in omega (arith, most, within)

-- the network and the mark that a bit is
turn_from : (n : ℕ) → n < 2 → net_for (n == 1) ≡ net_from n
turn_from zero h = refl
turn_from (suc zero) h = refl
turn_from (suc (suc n)) h = absurd (omega arith)

-- a module is put into a row, a queue after the other
module _ (R : Arrays) (row : IsRow R) (m at h : ℕ) (ws w1 w2 w3 : List ℕ) (a b c d : ℕ) (l1 l2 c1 c2 : Network) (turn served : Bool) (turns marks : ℕ) (within : m < lines R.k) (behind : at ≡ suc R.k)
    (one : RequestsPut at m (queue_from request_from a ws) R.low l1) (two : RequestsPut at m (queue_from request_from b w1) R.comb c1)
    (three : RepliesPut R.k m (queue_from reply_from c w2) l1 l2) (four : RepliesPut R.k m (queue_from reply_from d w3) c1 c2)
    (turns_so : IsSetOf (λ y. cond (y == m) turn (has R.module_turns y)) turns) (marks_so : IsSetOf (λ y. cond (y == m) served (has R.served y)) marks) where
  abbrev with_module : Arrays
  with_module = record R { low = l2; comb = c2; module_turns = turns; served = marks }

  low_requests : (l z : ℕ) → (l ≡ suc R.k → z ≡ m → ⊥) → queue_of l2.requests l z ≡ queue_of R.low.requests l z
  low_requests l z ne = ap (λ v. queue_of v l z) three.requests ∙ one.queues l z ∙ with_other R.low.requests at m (queue_from request_from a ws) l z (λ e. ne (e ∙ behind))

  comb_requests : (l z : ℕ) → (l ≡ suc R.k → z ≡ m → ⊥) → queue_of c2.requests l z ≡ queue_of R.comb.requests l z
  comb_requests l z ne = ap (λ v. queue_of v l z) four.requests ∙ two.queues l z ∙ with_other R.comb.requests at m (queue_from request_from b w1) l z (λ e. ne (e ∙ behind))

  low_replies : (l z : ℕ) → (l ≡ R.k → z ≡ m → ⊥) → queue_of l2.replies l z ≡ queue_of R.low.replies l z
  low_replies l z ne = three.queues l z ∙ with_other l1.replies R.k m (queue_from reply_from c w2) l z ne ∙ ap (λ v. queue_of v l z) one.replies

  comb_replies : (l z : ℕ) → (l ≡ R.k → z ≡ m → ⊥) → queue_of c2.replies l z ≡ queue_of R.comb.replies l z
  comb_replies l z ne = four.queues l z ∙ with_other c1.replies R.k m (queue_from reply_from d w3) l z ne ∙ ap (λ v. queue_of v l z) two.replies

  turn_here : has turns m ≡ turn
  turn_here = turns_so m (line_small R.k m row.small within) ∙ ap (λ t. cond t turn (has R.module_turns m)) (eq-eqb m m refl)

  served_here : has marks m ≡ served
  served_here = marks_so m (line_small R.k m row.small within) ∙ ap (λ t. cond t served (has R.served m)) (eq-eqb m m refl)

  pub module_loaded : turn ≡ mark_in (h / 2 ^ 27) → served ≡ mark_in (h / 2 ^ 28)
      → a ≡ count_in (h / 2 ^ 2) → b ≡ count_in (h / 2 ^ 7) → c ≡ count_in (h / 2 ^ 12) → d ≡ count_in (h / 2 ^ 17) → w1 ≡ after a ws → w2 ≡ after b w1 → w3 ≡ after c w2
      → module_of (record R { low = l2; comb = c2; module_turns = turns; served = marks }) m ≡ module_from h ws (slice_index_or R.words m [])
  module_loaded t v a_is b_is c_is d_is w1_is w2_is w3_is =
      let w1_so : w1 ≡ after (count_in (h / 2 ^ 2)) ws = w1_is ∙ ap (λ n. after n ws) a_is in
      let w2_so : w2 ≡ after_requests h ws = w2_is ∙ ap (λ n. after n w1) b_is ∙ ap (after (count_in (h / 2 ^ 7))) w1_so in
      let w3_so : w3 ≡ after (count_in (h / 2 ^ 12)) (after_requests h ws) = w3_is ∙ ap (λ n. after n w2) c_is ∙ ap (after (count_in (h / 2 ^ 12))) w2_so in
      module_same (slice_index_or R.words m []) _ _ _ _ _ _ _ _ _ _ _ _
      (ap (λ u. queue_of u (suc R.k) m) three.requests ∙ ap (λ l. queue_of l1.requests l m) (sym behind) ∙ one.queues at m ∙ with_here R.low.requests at m (queue_from request_from a ws)
      ∙ ap (λ n. queue_from request_from n ws) a_is)
      (ap (λ u. queue_of u (suc R.k) m) four.requests ∙ ap (λ l. queue_of c1.requests l m) (sym behind) ∙ two.queues at m ∙ with_here R.comb.requests at m (queue_from request_from b w1)
      ∙ ap (λ n. queue_from request_from n w1) b_is ∙ ap (queue_from request_from (count_in (h / 2 ^ 7))) w1_so)
      (three.queues R.k m ∙ with_here l1.replies R.k m (queue_from reply_from c w2) ∙ ap (λ n. queue_from reply_from n w2) c_is ∙ ap (queue_from reply_from (count_in (h / 2 ^ 12))) w2_so)
      (four.queues R.k m ∙ with_here c1.replies R.k m (queue_from reply_from d w3) ∙ ap (λ n. queue_from reply_from n w3) d_is ∙ ap (queue_from reply_from (count_in (h / 2 ^ 17))) w3_so)
      (ap net_for (turn_here ∙ t) ∙ turn_from (h / 2 ^ 27 % 2) (omega arith))
      (served_here ∙ v)

  proc_module : (p : ℕ) → proc_of with_module p ≡ proc_of R p
  proc_module p =
      ap (λ r. showing (slice_index_or R.procs p proc_start) (head r) (head (queue_of c2.requests 0 p))) (low_requests 0 p (λ e. absurd (omega (arith, e))))
      ∙ ap (λ r. showing (slice_index_or R.procs p proc_start) (head (queue_of R.low.requests 0 p)) (head r)) (comb_requests 0 p (λ e. absurd (omega (arith, e))))

  others_module : (e : Component) → Exists R.k e → (e ≡ ModuleAt m → ⊥) → state_of with_module (Some e) ≡ state_of R (Some e)
  others_module (ProcAt p) there ne = ap Proc (proc_module p)
  others_module (ModuleAt n) there ne =
      let apart_so : n ≡ m → ⊥ = λ e. ne (ap ModuleAt e) in
      ap Module (module_same (slice_index_or R.words n []) _ _ _ _ _ _ _ _ _ _ _ _
      (low_requests (suc R.k) n (λ e. apart_so)) (comb_requests (suc R.k) n (λ e. apart_so)) (low_replies R.k n (λ e. apart_so)) (comb_replies R.k n (λ e. apart_so))
      (ap net_for (turns_so n (line_small R.k n row.small there) ∙ ap (λ t. cond t turn (has R.module_turns n)) (ne_eqb n m apart_so)))
      (marks_so n (line_small R.k n row.small there) ∙ ap (λ t. cond t served (has R.served n)) (ne_eqb n m apart_so)))
  others_module (Switch LowNet t i) there ne =
      ap Low (low_still R.k R.low l2 t i (λ z. low_requests (suc t) z (λ e. absurd (omega (arith, e, there.0)))) (λ z. low_replies t z (λ e. absurd (omega (arith, e, there.0))))
      (three.turns ∙ one.turns) (three.back_turns ∙ one.back_turns))
  others_module (Switch CombNet t i) there ne =
      ap Comb (comb_still R.k R.comb c2 t i _ _ (λ z. comb_requests (suc t) z (λ e. absurd (omega (arith, e, there.0)))) (λ z. comb_replies t z (λ e. absurd (omega (arith, e, there.0))))
      (four.turns ∙ two.turns) (four.back_turns ∙ two.back_turns))

  pub only_module : OnlyState (ModuleAt m) R (record R { low = l2; comb = c2; module_turns = turns; served = marks })
  only_module = record {
    size = refl;
    others = others_module;
    of = λ P o. record {
      size = o.size;
      low = network_of_still P LowNet R.low l2 o.low (subst (λ v. SameShape R.low.requests v) (sym three.requests) one.shape) (subst (λ v. SameShape v l2.replies) one.replies three.shape);
      comb = network_of_still P CombNet R.comb c2 o.comb (subst (λ v. SameShape R.comb.requests v) (sym four.requests) two.shape) (subst (λ v. SameShape v c2.replies) two.replies four.shape);
      rest = λ p inside so. subst (λ u. Rests P p u) (sym (proc_module p)) (o.rest p inside so);
    };
  }

-- a processor is put into a row: it doesn't rest any more
module _ (R : Arrays) (row : IsRow R) (p : ℕ) (low comb : ArrayVec Request) (lo co : Network) (st : ProcState) (rests : ℕ) (within : p < lines R.k)
    (one : RequestsPut 0 p low R.low lo) (two : RequestsPut 0 p comb R.comb co) (rests_so : IsSetOf (λ y. cond (y == p) false (has R.rests y)) rests) where
  abbrev with_proc : Arrays
  with_proc = record R { low = lo; comb = co; procs = set R.procs p st; rests = rests }

  shown_low : (l z : ℕ) → (l ≡ 0 → z ≡ p → ⊥) → queue_of lo.requests l z ≡ queue_of R.low.requests l z
  shown_low l z ne = one.queues l z ∙ with_other R.low.requests 0 p low l z ne

  shown_comb : (l z : ℕ) → (l ≡ 0 → z ≡ p → ⊥) → queue_of co.requests l z ≡ queue_of R.comb.requests l z
  shown_comb l z ne = two.queues l z ∙ with_other R.comb.requests 0 p comb l z ne

  proc_kept : (q : ℕ) → (q ≡ p → ⊥) → proc_of with_proc q ≡ proc_of R q
  proc_kept q ne =
      ap (λ s. showing s (head (queue_of lo.requests 0 q)) (head (queue_of co.requests 0 q))) (get_or-set_other R.procs p q st proc_start ne)
      ∙ ap (λ r. showing (slice_index_or R.procs q proc_start) (head r) (head (queue_of co.requests 0 q))) (shown_low 0 q (λ e. ne))
      ∙ ap (λ r. showing (slice_index_or R.procs q proc_start) (head (queue_of R.low.requests 0 q)) (head r)) (shown_comb 0 q (λ e. ne))

  others_proc : (e : Component) → Exists R.k e → (e ≡ ProcAt p → ⊥) → state_of with_proc (Some e) ≡ state_of R (Some e)
  others_proc (ProcAt q) there ne = ap Proc (proc_kept q (λ e. ne (ap ProcAt e)))
  others_proc (ModuleAt m) there ne =
      ap Module (module_same (slice_index_or R.words m []) _ _ _ _ _ _ _ _ _ _ _ _
      (shown_low (suc R.k) m (λ e. absurd (omega (arith, e)))) (shown_comb (suc R.k) m (λ e. absurd (omega (arith, e))))
      (ap (λ v. queue_of v R.k m) one.replies) (ap (λ v. queue_of v R.k m) two.replies) refl refl)
  others_proc (Switch LowNet t i) there ne =
      ap Low (low_still R.k R.low lo t i (λ z. shown_low (suc t) z (λ e. absurd (omega (arith, e)))) (λ z. ap (λ v. queue_of v t z) one.replies) one.turns one.back_turns)
  others_proc (Switch CombNet t i) there ne =
      ap Comb (comb_still R.k R.comb co t i _ _ (λ z. shown_comb (suc t) z (λ e. absurd (omega (arith, e)))) (λ z. ap (λ v. queue_of v t z) two.replies) two.turns two.back_turns)

  still_rests : (P : Project) → IsRowOf P R → (q : ℕ) → q < lines P.k → has rests q ≡ true → Rests P q (proc_of with_proc q)
  still_rests P o q inside so = by_test (q == p) refl
    where
      q_small : q < 64
      q_small = line_small R.k q row.small (subst (λ n. q < lines n) (sym o.size) inside)

      by_test : (t : Bool) → (q == p) ≡ t → Rests P q (proc_of with_proc q)
      by_test true e = absurd (false_true (sym (rests_so q q_small ∙ ap (λ t. cond t false (has R.rests q)) e) ∙ so))
      by_test false e =
          subst (λ u. Rests P q u) (sym (proc_kept q (λ f. false_true (sym e ∙ eq-eqb q p f))))
          (o.rest q inside (sym (rests_so q q_small ∙ ap (λ t. cond t false (has R.rests q)) e) ∙ so))

  pub only_proc : OnlyState (ProcAt p) R (record R { low = lo; comb = co; procs = set R.procs p st; rests = rests })
  only_proc = record {
    size = refl;
    others = others_proc;
    of = λ P o. record {
      size = o.size;
      low = network_of_still P LowNet R.low lo o.low one.shape (subst (λ v. SameShape R.low.replies v) (sym one.replies) (shape_same R.low.replies));
      comb = network_of_still P CombNet R.comb co o.comb two.shape (subst (λ v. SameShape R.comb.replies v) (sym two.replies) (shape_same R.comb.replies));
      rest = still_rests P o;
    };
  }
