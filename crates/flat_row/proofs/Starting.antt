-- The row before the first cycle is the first states of its project.
use Rattle.std.proofs.Common.{◌≡◌, ℕ, zero, suc, ◌+◌, ◌<◌, ◌≤◌, Bool, true, false, List, [], ◌∷◌, ◌++◌, length, map, get_or, replicate, refl, ap, sym, subst, ◌∙◌, inl, inr, None, Some, arith}
use Rattle.std.specs.Prelude.{◌==◌}
use Rattle.std.proofs.lemmas.List.{get_or-map, get_or-replicate, get_or_past, length-map, length-replicate, map_push}
use Rattle.std.proofs.lemmas.Option.{get_or_from_slice_get}
use Rattle.std.proofs.lemmas.Bool.{cases_lt}
use Rattle.std.proofs.lemmas.Nat.Bits.{bit_at-zero}
use Rattle.arrayvec.specs.ArrayVec.{ArrayVec}
use Rattle.omega_net.specs.declared.component.Net.{Net}
use Rattle.omega_net.specs.declared.component.Net.TheVariants.{Low as LowNet, Comb as CombNet}
use Rattle.omega_net.specs.declared.component.Component.{Component}
use Rattle.omega_net.specs.declared.component.Component.TheVariants.{Proc as ProcAt, Module as ModuleAt, Switch}
use Rattle.omega_net.specs.declared.message.Request.{Request}
use Rattle.omega_net.specs.declared.message.Reply.{Reply}
use Rattle.omega_net.specs.Numbers.{lines, components, component_of, Exists}
use Rattle.omega_net.specs.Wires.{bit, below}
use Rattle.omega_net.specs.Queues.{head}
use Rattle.omega_net.specs.Ports.{queue_at, empty}
use Rattle.omega_net.proofs.Numbering.{Has, component_has}
use Rattle.ref_proc.specs.declared.state.ProcState.{ProcState}
use Rattle.ref_proc.specs.RefProc.{proc_start, net_for}
use Rattle.mem_module.specs.declared.words.Stored.{Stored}
use Rattle.comb_switch.specs.declared.waiting.Waiting.{Waiting}
use Rattle.machine_cells.specs.declared.state.MachineState.{MachineState}
use Rattle.machine_cells.specs.declared.state.MachineState.TheVariants.{Proc, Module, Low, Comb}
use Rattle.machine_cells.specs.Run.{words_in, start_of, first_states}
use Rattle.machine_cells.proofs.Runs.{below-get, length-below}
use Rattle.project_book.specs.Project.{Project, IsProject}
use Rattle.flat_row.specs.declared.marks.Rule.{Rule}
use Rattle.flat_row.specs.Masks.{has}
use Rattle.flat_row.specs.Queues.{Queues}
use Rattle.flat_row.specs.Labels.{switch_label}
use Rattle.flat_row.specs.Row.{Network, Buffers, Arrays, IsRow, IsRowOf, IsNetworkOf, HasNetwork, HasLevels, no_queues, queue_of, port_label, turn_of, buffers_at, wait_of, combined_of, out_from, out_of, state_of, states_of, request_rule, reply_rule, first_network, first_buffers, first_requests, first_replies, first_words, first_row}

module _ {X : Type 0} where
  -- a list by numbers from 0 on
  pub at_below : (g : ℕ → X) (c l : ℕ) (d : X) → l < c → get_or (map g (below c)) l d ≡ g l
  at_below g c l d h =
      let there : l < length (below c) = omega (arith, h, length-below c) in
      get_or-map g (below c) l l d there ∙ ap g (get_or_from_slice_get (below c) l l l (below-get c l h))

  pub past_below : (g : ℕ → X) (c l : ℕ) (d : X) → c ≤ l → get_or (map g (below c)) l d ≡ d
  past_below g c l d h = get_or_past (map g (below c)) l d (omega (arith, h, length-map (below c) g, length-below c))

  pub length_by : (g : ℕ → X) (c : ℕ) → length (map g (below c)) ≡ c
  length_by g c = length-map (below c) g ∙ length-below c

  pub one_more_below : (g : ℕ → X) (c : ℕ) → map g (below c) ++ g c ∷ [] ≡ map g (below (c + 1))
  one_more_below g c = let e : c + 1 ≡ suc c = omega arith in sym (ap (λ n. map g (below n)) e ∙ map_push g (below c) c)

  pub map_alike : (f g : ℕ → X) (n : ℕ) → ((c : ℕ) → c < n → f c ≡ g c) → map f (below n) ≡ map g (below n)
  map_alike f g zero h = refl
  map_alike f g (suc n) h =
      map_push f (below n) n
      ∙ ap (λ xs. xs ++ f n ∷ []) (map_alike f g n (λ c l. h c (omega (arith, l))))
      ∙ ap (λ x. map g (below n) ++ x ∷ []) (h n (omega arith))
      ∙ sym (map_push g (below n) n)

-- empty queues
pub empty_at : {T : Type 0} (n x : ℕ) → queue_at (replicate n (empty {T = T})) x ≡ empty
empty_at {T} n x = elim (cases_lt x n) [
  | inl h ↦ get_or-replicate n x (empty {T = T}) empty h
  | inr h ↦ get_or_past (replicate n (empty {T = T})) x empty (omega (arith, h, length-replicate n (empty {T = T})))
]

module _ {T : Type 0} (n : ℕ) (rule : ℕ → Rule) where
  abbrev level : ℕ → Queues T
  level l = record { queues = replicate n empty; rule = rule l }

  pub empty_there : (c l x : ℕ) → queue_of (map level (below c)) l x ≡ empty
  empty_there c l x = elim (cases_lt l c) [
    | inl h ↦ ap (λ q. queue_at q.queues x) (at_below level c l no_queues h) ∙ empty_at n x
    | inr h ↦ ap (λ q. queue_at q.queues x) (past_below level c l no_queues h)
  ]

  pub has_levels : (c : ℕ) → HasLevels c n (map level (below c))
  has_levels c = record {
    many = length_by level c;
    each = λ l h. ap (λ q. length q.queues) (at_below level c l no_queues h) ∙ length-replicate n empty;
  }

pub has_network : (P : Project) (net : Net) → HasNetwork P.k (first_network P net)
has_network P net = record {
  requests = has_levels (lines P.k) (request_rule P net) (P.k + 2);
  replies = has_levels (lines P.k) (reply_rule P net) (P.k + 1);
  turns = refl;
  back_turns = refl;
}

network_of : (P : Project) (net : Net) → IsNetworkOf P net (first_network P net)
network_of P net = record {
  requests = λ l h. ap (λ q. q.rule) (at_below (λ l. level (lines P.k) (request_rule P net) l) (P.k + 2) l no_queues h);
  replies = λ l h. ap (λ q. q.rule) (at_below (λ l. level (lines P.k) (reply_rule P net) l) (P.k + 1) l no_queues h);
}

-- no label is in the empty set
pub none_in : (x : ℕ) → has 0 x ≡ true → ⊥
none_in x e = false_true (sym (ap (λ b. b == 1) (bit_at-zero x)) ∙ e)
  where
    false_true : false ≡ true → ⊥
    false_true f = cc

pub first_is_of : (P : Project) → IsRowOf P (first_row P)
first_is_of P = record { size = refl; low = network_of P LowNet; comb = network_of P CombNet; rest = λ p h so. absurd (none_in p so) }

-- its queues, turns and buffers
module _ (P : Project) where
  no_request : (net : Net) (c l x : ℕ) → queue_of (first_requests P net c) l x ≡ empty
  no_request net c l x = empty_there (lines P.k) (request_rule P net) c l x

  no_reply : (net : Net) (c l x : ℕ) → queue_of (first_replies P net c) l x ≡ empty
  no_reply net c l x = empty_there (lines P.k) (reply_rule P net) c l x

  buffers_first : (s : ℕ) → s < P.k → buffers_at (first_row P) s ≡ first_buffers P.k
  buffers_first s h = get_or-replicate P.k s (first_buffers P.k) (record { entries = []; once = 0; twice = 0 }) h

  pub first_is_row : IsProject P → IsRow (first_row P)
  first_is_row isp = record {
    small = isp.small;
    low = has_network P LowNet;
    comb = has_network P CombNet;
    buffers = length-replicate P.k (first_buffers P.k);
    entries = λ s h. ap (λ b. length b.entries) (buffers_first s h) ∙ length-replicate (lines P.k) empty;
    procs = length-replicate (lines P.k) proc_start;
    words = length_by (λ m. words_in P m P.words) (lines P.k);
    one_out = λ p. few (queue_of (first_requests P LowNet (P.k + 2)) 0 p) (queue_of (first_requests P CombNet (P.k + 2)) 0 p) (no_request LowNet (P.k + 2) 0 p) (no_request CombNet (P.k + 2) 0 p);
  }
    where
      few : (a b : ArrayVec Request) → a ≡ empty → b ≡ empty → length a.items + length b.items ≤ 1
      few a b e f =
          let x : length a.items ≡ 0 = ap (λ q. length q.items) e in
          let y : length b.items ≡ 0 = ap (λ q. length q.items) f in
          omega (arith, x, y)

abbrev turns_at : ℕ → ℕ
turns_at s = get_or (replicate 6 0) s 0

no_turn : (s x : ℕ) → turn_of (replicate 6 0) s x ≡ 0
no_turn s x = ap (bit x) (none s) ∙ bit_at-zero x
  where
    none : (s : ℕ) → turns_at s ≡ 0
    none s = elim (cases_lt s 6) [
      | inl h ↦ get_or-replicate 6 s 0 0 h
      | inr h ↦ get_or_past (replicate 6 0) s 0 h
    ]

no_mark : (x : ℕ) → has 0 x ≡ false
no_mark x = ap (λ n. n == 1) (bit_at-zero x)

-- each component
abbrev module_with : List Stored → ArrayVec Request → ArrayVec Request → ArrayVec Reply → ArrayVec Reply → Bool → Bool → MachineState
module_with ws a b c d turn served = Module (record { words = ws; requests = a ∷ b ∷ []; replies = c ∷ d ∷ []; turn = net_for turn; served = served })

abbrev low_with : ArrayVec Request → ArrayVec Request → ArrayVec Reply → ArrayVec Reply → ℕ → ℕ → ℕ → ℕ → MachineState
low_with a b c d s t u v = Low (record { fwd = a ∷ b ∷ []; turn = s ∷ t ∷ []; rev = c ∷ d ∷ []; rturn = u ∷ v ∷ [] })

abbrev comb_with : ArrayVec Request → ArrayVec Request → ArrayVec Reply → ArrayVec Reply → ArrayVec Waiting → ℕ → ℕ → ℕ → ℕ → MachineState
comb_with a b c d w s t u n = Comb (record { fwd = a ∷ b ∷ []; rev = c ∷ d ∷ []; wait = w; turn = s ∷ t ∷ []; rturn = u; combined = n })

module _ (P : Project) where
  abbrev requests_of : Net → List (Queues Request)
  requests_of net = first_requests P net (P.k + 2)

  abbrev replies_of : Net → List (Queues Reply)
  replies_of net = first_replies P net (P.k + 1)

  nothing_out : (p : ℕ) → out_of (first_row P) p ≡ None
  nothing_out p =
      ap (λ q. out_from (head q) (head (queue_of (requests_of CombNet) 0 p))) (no_request P LowNet (P.k + 2) 0 p)
      ∙ ap (λ q. out_from None (head q)) (no_request P CombNet (P.k + 2) 0 p)

  component_starts : (x : Component) → Exists P.k x → state_of (first_row P) (Some x) ≡ start_of P (Some x)
  component_starts (ProcAt p) h =
      ap (λ s. Proc (record s { out = out_of (first_row P) p })) (get_or-replicate (lines P.k) p proc_start proc_start h)
      ∙ ap (λ o. Proc (record proc_start { out = o })) (nothing_out p)
  component_starts (ModuleAt m) h =
      let ws = get_or (first_words P (lines P.k)) m [] in
      let a = queue_of (requests_of LowNet) (suc P.k) m in
      let b = queue_of (requests_of CombNet) (suc P.k) m in
      let c = queue_of (replies_of LowNet) P.k m in
      let d = queue_of (replies_of CombNet) P.k m in
      ap (λ o. module_with o a b c d (has 0 m) (has 0 m)) (at_below (λ m. words_in P m P.words) (lines P.k) m [] h)
      ∙ ap (λ o. module_with (words_in P m P.words) o b c d (has 0 m) (has 0 m)) (no_request P LowNet (P.k + 2) (suc P.k) m)
      ∙ ap (λ o. module_with (words_in P m P.words) empty o c d (has 0 m) (has 0 m)) (no_request P CombNet (P.k + 2) (suc P.k) m)
      ∙ ap (λ o. module_with (words_in P m P.words) empty empty o d (has 0 m) (has 0 m)) (no_reply P LowNet (P.k + 1) P.k m)
      ∙ ap (λ o. module_with (words_in P m P.words) empty empty empty o (has 0 m) (has 0 m)) (no_reply P CombNet (P.k + 1) P.k m)
      ∙ ap (λ o. module_with (words_in P m P.words) empty empty empty empty o o) (no_mark m)
  component_starts (Switch LowNet s j) h =
      let x = port_label P.k s j 0 in
      let y = port_label P.k s j 1 in
      let turns = replicate 6 0 in
      let b = queue_of (requests_of LowNet) (suc s) y in
      let c = queue_of (replies_of LowNet) s x in
      let d = queue_of (replies_of LowNet) s y in
      ap (λ o. low_with o b c d (turn_of turns s x) (turn_of turns s y) (turn_of turns s x) (turn_of turns s y)) (no_request P LowNet (P.k + 2) (suc s) x)
      ∙ ap (λ o. low_with empty o c d (turn_of turns s x) (turn_of turns s y) (turn_of turns s x) (turn_of turns s y)) (no_request P LowNet (P.k + 2) (suc s) y)
      ∙ ap (λ o. low_with empty empty o d (turn_of turns s x) (turn_of turns s y) (turn_of turns s x) (turn_of turns s y)) (no_reply P LowNet (P.k + 1) s x)
      ∙ ap (λ o. low_with empty empty empty o (turn_of turns s x) (turn_of turns s y) (turn_of turns s x) (turn_of turns s y)) (no_reply P LowNet (P.k + 1) s y)
      ∙ ap (λ o. low_with empty empty empty empty o (turn_of turns s y) o (turn_of turns s y)) (no_turn s x)
      ∙ ap (λ o. low_with empty empty empty empty 0 o 0 o) (no_turn s y)
  component_starts (Switch CombNet s j) h =
      let x = port_label P.k s j 0 in
      let y = port_label P.k s j 1 in
      let z = switch_label P.k s j in
      let turns = replicate 6 0 in
      let w = wait_of (buffers_at (first_row P) s) z in
      let n = combined_of (buffers_at (first_row P) s) z in
      let b = queue_of (requests_of CombNet) (suc s) y in
      let c = queue_of (replies_of CombNet) s x in
      let d = queue_of (replies_of CombNet) s y in
      ap (λ o. comb_with o b c d w (turn_of turns s x) (turn_of turns s y) (turn_of turns s x) n) (no_request P CombNet (P.k + 2) (suc s) x)
      ∙ ap (λ o. comb_with empty o c d w (turn_of turns s x) (turn_of turns s y) (turn_of turns s x) n) (no_request P CombNet (P.k + 2) (suc s) y)
      ∙ ap (λ o. comb_with empty empty o d w (turn_of turns s x) (turn_of turns s y) (turn_of turns s x) n) (no_reply P CombNet (P.k + 1) s x)
      ∙ ap (λ o. comb_with empty empty empty o w (turn_of turns s x) (turn_of turns s y) (turn_of turns s x) n) (no_reply P CombNet (P.k + 1) s y)
      ∙ ap (λ o. comb_with empty empty empty empty w o (turn_of turns s y) o n) (no_turn s x)
      ∙ ap (λ o. comb_with empty empty empty empty w 0 o 0 n) (no_turn s y)
      ∙ ap (λ o. comb_with empty empty empty empty (wait_of o z) 0 0 0 (combined_of o z)) (buffers_first P s h.0)
      ∙ ap (λ o. comb_with empty empty empty empty o 0 0 0 (bit z 0 + bit z 0)) (empty_at (lines P.k) z)
      ∙ ap (λ o. comb_with empty empty empty empty empty 0 0 0 (o + o)) (bit_at-zero z)

  pub first_states_are : states_of (first_row P) ≡ first_states P
  first_states_are = map_alike (λ c. state_of (first_row P) (component_of P.k c)) (λ c. start_of P (component_of P.k c)) (components P.k) each
    where
      each : (c : ℕ) → c < components P.k → state_of (first_row P) (component_of P.k c) ≡ start_of P (component_of P.k c)
      each c lt = by_component (component_has P.k c lt).0 (component_has P.k c lt).1
        where
          by_component : (x : Component) → Has P.k c (component_of P.k c) x → state_of (first_row P) (component_of P.k c) ≡ start_of P (component_of P.k c)
          by_component x has_it = ap (state_of (first_row P)) has_it.is ∙ component_starts x has_it.there ∙ sym (ap (start_of P) has_it.is)

-- a row that is made of these parts
pub same_row : (P : Project) (k : ℕ) (low comb : Network) (buffers : List Buffers) (procs : List ProcState) (words : List (List Stored))
    → k ≡ P.k → low ≡ first_network P LowNet → comb ≡ first_network P CombNet → buffers ≡ replicate k (first_buffers k) → procs ≡ replicate (lines k) proc_start → words ≡ first_words P (lines P.k)
    → record { k = k; low = low; comb = comb; buffers = buffers; procs = procs; words = words; module_turns = 0; served = 0; rests = 0 } ≡ first_row P
same_row P k low comb buffers procs words a b c d e f =
    ap (λ o. made k o comb buffers procs words) b
    ∙ ap (λ o. made k (first_network P LowNet) o buffers procs words) c
    ∙ ap (λ o. made k (first_network P LowNet) (first_network P CombNet) o procs words) d
    ∙ ap (λ o. made k (first_network P LowNet) (first_network P CombNet) (replicate k (first_buffers k)) o words) e
    ∙ ap (λ o. made k (first_network P LowNet) (first_network P CombNet) (replicate k (first_buffers k)) (replicate (lines k) proc_start) o) f
    ∙ ap (λ o. made o (first_network P LowNet) (first_network P CombNet) (replicate o (first_buffers o)) (replicate (lines o) proc_start) (first_words P (lines P.k))) a
  where
    made : ℕ → Network → Network → List Buffers → List ProcState → List (List Stored) → Arrays
    made k low comb buffers procs words = record { k = k; low = low; comb = comb; buffers = buffers; procs = procs; words = words; module_turns = 0; served = 0; rests = 0 }

pub made_is_row : (P : Project) (R : Arrays) → IsProject P → R ≡ first_row P → IsRow R
made_is_row P R isp e = subst IsRow (sym e) (first_is_row P isp)

-- one level more, and the words of one module more
abbrev pub fresh : {T : Type 0} → ℕ → Rule → Queues T
fresh n r = record { queues = replicate n empty; rule = r }

pub requests_more : (P : Project) (net : Net) (l n : ℕ) (r : Rule) (items new : List (Queues Request)) (q : Queues Request)
    → new ≡ items ++ q ∷ [] → items ≡ first_requests P net l → q ≡ fresh n r → n ≡ lines P.k → r ≡ request_rule P net l → new ≡ first_requests P net (l + 1)
requests_more P net l n r items new q a b c d e =
    a ∙ ap (λ xs. xs ++ q ∷ []) b
    ∙ ap (λ o. first_requests P net l ++ o ∷ []) (c ∙ ap (λ m. fresh m r) d ∙ ap (λ s. fresh (lines P.k) s) e)
    ∙ one_more_below (λ l. fresh (lines P.k) (request_rule P net l)) l

pub replies_more : (P : Project) (net : Net) (l n : ℕ) (r : Rule) (items new : List (Queues Reply)) (q : Queues Reply)
    → new ≡ items ++ q ∷ [] → items ≡ first_replies P net l → q ≡ fresh n r → n ≡ lines P.k → r ≡ reply_rule P net l → new ≡ first_replies P net (l + 1)
replies_more P net l n r items new q a b c d e =
    a ∙ ap (λ xs. xs ++ q ∷ []) b
    ∙ ap (λ o. first_replies P net l ++ o ∷ []) (c ∙ ap (λ m. fresh m r) d ∙ ap (λ s. fresh (lines P.k) s) e)
    ∙ one_more_below (λ l. fresh (lines P.k) (reply_rule P net l)) l

pub words_more : (P : Project) (m : ℕ) (items new : List (List Stored)) (ws : List Stored)
    → new ≡ items ++ ws ∷ [] → items ≡ first_words P m → ws ≡ words_in P m P.words → new ≡ first_words P (m + 1)
words_more P m items new ws a b c =
    a ∙ ap (λ xs. xs ++ ws ∷ []) b ∙ ap (λ o. first_words P m ++ o ∷ []) c ∙ one_more_below (λ m. words_in P m P.words) m
