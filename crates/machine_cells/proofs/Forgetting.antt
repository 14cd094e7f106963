-- A memory isn't seen on the wires, so a component's next state hangs on the words of the states near it and on its own memory alone.
use Rattle.std.proofs.Common.{◌≡◌, ℕ, ◌-◌, ◌%◌, ◌^◌, ◌==◌, ◌||◌, Bool, true, false, cond, List, [], ◌∷◌, map, drop, slice_index, refl, ap, sym, ◌∙◌, Option, None, Some, is_some}
use Rattle.std.specs.Prelude.{option_map, slice_get}
use Rattle.std.specs.List.{AllByRecursion}
use Rattle.std.proofs.lemmas.List.Elements.{recursion_from_All}
use Rattle.std.proofs.lemmas.Option.{slice_get-map}
use Rattle.grid_law.specs.ByWords.{AreOfWords, IsByWords}
use Rattle.omega_net.specs.declared.component.Net.{Net}
use Rattle.omega_net.specs.declared.component.Net.TheVariants.{Low as LowNet, Comb as CombNet}
use Rattle.omega_net.specs.declared.component.Component.{Component}
use Rattle.omega_net.specs.declared.component.Component.TheVariants.{Proc as ProcAt, Module as ModuleAt, Switch}
use Rattle.omega_net.specs.declared.message.Request.{Request}
use Rattle.omega_net.specs.declared.message.Reply.{Reply}
use Rattle.omega_net.specs.declared.message.Traffic.{Traffic}
use Rattle.omega_net.specs.declared.wire.Wire.{Wire}
use Rattle.omega_net.specs.Numbers.{component_of}
use Rattle.omega_net.specs.Wires.{lower_end, upper_end, wire_of_proc, wire_of_module, wire_into, wire_out}
use Rattle.mem_module.specs.declared.words.Stored.{Stored}
use Rattle.mem_module.specs.declared.step.ModuleTraffic.{ModuleTraffic}
use Rattle.mem_module.specs.MemModule.{module_after}
use Rattle.ref_proc.specs.declared.state.ProcState.{ProcState}
use Rattle.ref_proc.specs.declared.step.ProcTraffic.{ProcTraffic}
use Rattle.ref_proc.specs.RefProc.{proc_after}
use Rattle.low_switch.specs.declared.state.LowState.{LowState}
use Rattle.low_switch.specs.LowSwitch.{low_after}
use Rattle.comb_switch.specs.declared.state.CombState.{CombState}
use Rattle.comb_switch.specs.CombSwitch.{comb_after}
use Rattle.state_words.specs.Reading.{proc_from, module_from, low_from, comb_from}
use Rattle.project_book.specs.Project.{Project, depth_of}
use Rattle.project_book.specs.declared.edit.Depths.TheVariants.{ModuleQueue}
use Rattle.machine_cells.specs.declared.state.MachineState.{MachineState}
use Rattle.machine_cells.specs.declared.state.MachineState.TheVariants.{Proc, Module, Low, Comb}
use Rattle.machine_cells.specs.Moves.{request_on, reply_on, takes_request_at, takes_reply_at, takes_request, takes_reply, if_taken, request_between, reply_between, at_ends}
use Rattle.machine_cells.specs.Words.{words_of, with_memory, state_from}
use Rattle.machine_cells.specs.Codec.{memory_in, or_none, rp3_codec}
use Rattle.machine_cells.specs.Cycle.{proc_settings, comb_settings}
use Rattle.machine_cells.specs.Cells.{beside_on, request_pulled, reply_pulled, proc_pulls, module_pulls, switch_pulls, pulled}
use Rattle.machine_cells.specs.GridRules.{rp3_rules, near_cells}

-- a state without its memory
abbrev forgotten : MachineState → MachineState
forgotten s = with_memory [] s

-- what it shows, and takes, is the same
request_shown : (w : Wire) (s : MachineState) → request_on w s ≡ request_on w (forgotten s)
request_shown w (Proc s) = refl
request_shown w (Module s) = refl
request_shown w (Low s) = refl
request_shown w (Comb s) = refl

reply_shown : (k : ℕ) (w : Wire) (s : MachineState) → reply_on k w s ≡ reply_on k w (forgotten s)
reply_shown k w (Proc s) = refl
reply_shown k w (Module s) = refl
reply_shown k w (Low s) = refl
reply_shown k w (Comb s) = refl

request_taken : (P : Project) (w : Wire) (r : Request) (c : Component) (s : MachineState) → takes_request_at P w r c s ≡ takes_request_at P w r c (forgotten s)
request_taken P w r (ProcAt p) (Proc s) = refl
request_taken P w r (ProcAt p) (Module s) = refl
request_taken P w r (ProcAt p) (Low s) = refl
request_taken P w r (ProcAt p) (Comb s) = refl
request_taken P w r (ModuleAt m) (Proc s) = refl
request_taken P w r (ModuleAt m) (Module s) = refl
request_taken P w r (ModuleAt m) (Low s) = refl
request_taken P w r (ModuleAt m) (Comb s) = refl
request_taken P w r (Switch LowNet i j) (Proc s) = refl
request_taken P w r (Switch LowNet i j) (Module s) = refl
request_taken P w r (Switch LowNet i j) (Low s) = refl
request_taken P w r (Switch LowNet i j) (Comb s) = refl
request_taken P w r (Switch CombNet i j) (Proc s) = refl
request_taken P w r (Switch CombNet i j) (Module s) = refl
request_taken P w r (Switch CombNet i j) (Low s) = refl
request_taken P w r (Switch CombNet i j) (Comb s) = refl

reply_taken : (P : Project) (w : Wire) (y : Reply) (c : Component) (s : MachineState) → takes_reply_at P w y c s ≡ takes_reply_at P w y c (forgotten s)
reply_taken P w y (ProcAt p) (Proc s) = refl
reply_taken P w y (ProcAt p) (Module s) = refl
reply_taken P w y (ProcAt p) (Low s) = refl
reply_taken P w y (ProcAt p) (Comb s) = refl
reply_taken P w y (ModuleAt m) (Proc s) = refl
reply_taken P w y (ModuleAt m) (Module s) = refl
reply_taken P w y (ModuleAt m) (Low s) = refl
reply_taken P w y (ModuleAt m) (Comb s) = refl
reply_taken P w y (Switch LowNet i j) (Proc s) = refl
reply_taken P w y (Switch LowNet i j) (Module s) = refl
reply_taken P w y (Switch LowNet i j) (Low s) = refl
reply_taken P w y (Switch LowNet i j) (Comb s) = refl
reply_taken P w y (Switch CombNet i j) (Proc s) = refl
reply_taken P w y (Switch CombNet i j) (Module s) = refl
reply_taken P w y (Switch CombNet i j) (Low s) = refl
reply_taken P w y (Switch CombNet i j) (Comb s) = refl

taken_alike : {T : Type 0} (f g : T → Bool) (o : Option T) → ((m : T) → f m ≡ g m) → if_taken f o ≡ if_taken g o
taken_alike f g None h = refl
taken_alike f g (Some m) h = ap (λ t. cond t (Some m) None) (h m)

-- and so is what goes over a wire
request_alike : (P : Project) (w : Wire) (u l : MachineState) → request_between P w u l ≡ request_between P w (forgotten u) (forgotten l)
request_alike P w u l =
    ap (if_taken (λ r. takes_request P w r l)) (request_shown w u)
    ∙ taken_alike (λ r. takes_request P w r l) (λ r. takes_request P w r (forgotten l)) (request_on w (forgotten u)) (λ r. request_taken P w r (lower_end P.k w) l)

reply_alike : (P : Project) (w : Wire) (u l : MachineState) → reply_between P w u l ≡ reply_between P w (forgotten u) (forgotten l)
reply_alike P w u l =
    ap (if_taken (λ y. takes_reply P w y u)) (reply_shown P.k w l)
    ∙ taken_alike (λ y. takes_reply P w y u) (λ y. takes_reply P w y (forgotten u)) (reply_on P.k w (forgotten l)) (λ y. reply_taken P w y (upper_end w) u)

ends_alike : {X : Type 0} (f : MachineState → MachineState → Option X) → ((u l : MachineState) → f u l ≡ f (forgotten u) (forgotten l))
    → (a b : Option MachineState) → at_ends f a b ≡ at_ends f (option_map forgotten a) (option_map forgotten b)
ends_alike f h (Some u) (Some l) = h u l
ends_alike f h (Some u) None = refl
ends_alike f h None (Some l) = refl
ends_alike f h None None = refl

-- what a component is handed, of what goes over its wires
abbrev proc_made : Option Reply → Option Reply → Option Request → Option Request → ProcTraffic
proc_made y z q r = record { replies = y ∷ z ∷ []; request_leaves = is_some q || is_some r }

abbrev module_made : Option Request → Option Request → Option Reply → Option Reply → ModuleTraffic
module_made q r y z = record { requests = q ∷ r ∷ []; replies_leave = is_some y ∷ is_some z ∷ [] }

abbrev switch_made : List (Option Request) → List (Option Reply) → List Bool → List Bool → Traffic
switch_made rs ys bs cs = record { requests = rs; replies = ys; requests_leave = bs; replies_leave = cs }

two : {X Y : Type 0} (f : X → Y) {a b d e : X} → a ≡ d → b ≡ e → f a ∷ f b ∷ [] ≡ f d ∷ f e ∷ []
two f {a} {b} {d} {e} x y = ap (λ v. f v ∷ f b ∷ []) x ∙ ap (λ v. f d ∷ f v ∷ []) y

-- a list of the same states, but for memories, is pulled from alike
module _ (P : Project) (N M : List MachineState) (same : map forgotten N ≡ map forgotten M) where
  forgotten_at : (i : ℕ) → option_map forgotten (slice_get N i) ≡ option_map forgotten (slice_get M i)
  forgotten_at i = sym (slice_get-map forgotten N i) ∙ ap (λ l. slice_get l i) same ∙ slice_get-map forgotten M i

  over_alike : {X : Type 0} (f : MachineState → MachineState → Option X) → ((u l : MachineState) → f u l ≡ f (forgotten u) (forgotten l))
      → (i j : ℕ) → at_ends f (slice_get N i) (slice_get N j) ≡ at_ends f (slice_get M i) (slice_get M j)
  over_alike f h i j =
      ends_alike f h (slice_get N i) (slice_get N j)
      ∙ ap (λ o. at_ends f o (option_map forgotten (slice_get N j))) (forgotten_at i)
      ∙ ap (at_ends f (option_map forgotten (slice_get M i))) (forgotten_at j)
      ∙ sym (ends_alike f h (slice_get M i) (slice_get M j))

  requests : (w : Wire) (i j : ℕ) → request_pulled P N w i j ≡ request_pulled P M w i j
  requests w i j = over_alike (request_between P w) (request_alike P w) i j

  replies : (w : Wire) (i j : ℕ) → reply_pulled P N w i j ≡ reply_pulled P M w i j
  replies w i j = over_alike (reply_between P w) (reply_alike P w) i j

  proc_alike : (p : ℕ) → proc_pulls P N p ≡ proc_pulls P M p
  proc_alike p =
      let low = wire_of_proc LowNet p in
      let comb = wire_of_proc CombNet p in
      let near = beside_on P.k LowNet in
      let far = beside_on P.k CombNet in
      ap (λ y. proc_made y (reply_pulled P N comb 0 far) (request_pulled P N low 0 near) (request_pulled P N comb 0 far)) (replies low 0 near)
      ∙ ap (λ y. proc_made (reply_pulled P M low 0 near) y (request_pulled P N low 0 near) (request_pulled P N comb 0 far)) (replies comb 0 far)
      ∙ ap (λ r. proc_made (reply_pulled P M low 0 near) (reply_pulled P M comb 0 far) r (request_pulled P N comb 0 far)) (requests low 0 near)
      ∙ ap (λ r. proc_made (reply_pulled P M low 0 near) (reply_pulled P M comb 0 far) (request_pulled P M low 0 near) r) (requests comb 0 far)

  module_alike : (m : ℕ) → module_pulls P N m ≡ module_pulls P M m
  module_alike m =
      let low = wire_of_module P.k LowNet m in
      let comb = wire_of_module P.k CombNet m in
      let near = beside_on P.k LowNet in
      let far = beside_on P.k CombNet in
      ap (λ q. module_made q (request_pulled P N comb far 0) (reply_pulled P N low near 0) (reply_pulled P N comb far 0)) (requests low near 0)
      ∙ ap (λ r. module_made (request_pulled P M low near 0) r (reply_pulled P N low near 0) (reply_pulled P N comb far 0)) (requests comb far 0)
      ∙ ap (λ y. module_made (request_pulled P M low near 0) (request_pulled P M comb far 0) y (reply_pulled P N comb far 0)) (replies low near 0)
      ∙ ap (λ z. module_made (request_pulled P M low near 0) (request_pulled P M comb far 0) (reply_pulled P M low near 0) z) (replies comb far 0)

  switch_alike : (net : Net) (stage j : ℕ) → switch_pulls P N net stage j ≡ switch_pulls P M net stage j
  switch_alike net stage j =
      let upper = wire_into P.k net stage j 0 in
      let other = wire_into P.k net stage j 1 in
      let lower = wire_out net stage j 0 in
      let last = wire_out net stage j 1 in
      ap (λ rs. switch_made rs (reply_pulled P N lower 0 3 ∷ reply_pulled P N last 0 4 ∷ []) (is_some (request_pulled P N lower 0 3) ∷ is_some (request_pulled P N last 0 4) ∷ []) (is_some (reply_pulled P N upper 1 0) ∷ is_some (reply_pulled P N other 2 0) ∷ []))
      (two (λ r. r) (requests upper 1 0) (requests other 2 0))
      ∙ ap (λ ys. switch_made (request_pulled P M upper 1 0 ∷ request_pulled P M other 2 0 ∷ []) ys (is_some (request_pulled P N lower 0 3) ∷ is_some (request_pulled P N last 0 4) ∷ []) (is_some (reply_pulled P N upper 1 0) ∷ is_some (reply_pulled P N other 2 0) ∷ []))
      (two (λ y. y) (replies lower 0 3) (replies last 0 4))
      ∙ ap (λ bs. switch_made (request_pulled P M upper 1 0 ∷ request_pulled P M other 2 0 ∷ []) (reply_pulled P M lower 0 3 ∷ reply_pulled P M last 0 4 ∷ []) bs (is_some (reply_pulled P N upper 1 0) ∷ is_some (reply_pulled P N other 2 0) ∷ []))
      (two is_some (requests lower 0 3) (requests last 0 4))
      ∙ ap (switch_made (request_pulled P M upper 1 0 ∷ request_pulled P M other 2 0 ∷ []) (reply_pulled P M lower 0 3 ∷ reply_pulled P M last 0 4 ∷ []) (is_some (request_pulled P M lower 0 3) ∷ is_some (request_pulled P M last 0 4) ∷ []))
      (two is_some (replies upper 1 0) (replies other 2 0))

  -- so a component's next state is the same
  pulled_alike : (x : Option Component) (own : MachineState) → pulled P N x own ≡ pulled P M x own
  pulled_alike None own = refl
  pulled_alike (Some (ProcAt p)) (Proc s) = ap (λ t. Proc (proc_after (proc_settings P p s.index) t s)) (proc_alike p)
  pulled_alike (Some (ProcAt p)) (Module s) = refl
  pulled_alike (Some (ProcAt p)) (Low s) = refl
  pulled_alike (Some (ProcAt p)) (Comb s) = refl
  pulled_alike (Some (ModuleAt m)) (Proc s) = refl
  pulled_alike (Some (ModuleAt m)) (Module s) = ap (λ t. Module (module_after (depth_of P ModuleQueue) t s)) (module_alike m)
  pulled_alike (Some (ModuleAt m)) (Low s) = refl
  pulled_alike (Some (ModuleAt m)) (Comb s) = refl
  pulled_alike (Some (Switch LowNet i j)) (Proc s) = refl
  pulled_alike (Some (Switch LowNet i j)) (Module s) = refl
  pulled_alike (Some (Switch LowNet i j)) (Low s) = ap (λ t. Low (low_after (P.k - 1 - i) t s)) (switch_alike LowNet i j)
  pulled_alike (Some (Switch LowNet i j)) (Comb s) = refl
  pulled_alike (Some (Switch CombNet i j)) (Proc s) = refl
  pulled_alike (Some (Switch CombNet i j)) (Module s) = refl
  pulled_alike (Some (Switch CombNet i j)) (Low s) = refl
  pulled_alike (Some (Switch CombNet i j)) (Comb s) = ap (λ t. Comb (comb_after (comb_settings P i) t s)) (switch_alike CombNet i j)

-- a state by its head, of one of four kinds
abbrev by_kind : Bool → Bool → Bool → ProcState → ℕ → List ℕ → LowState → CombState → List Stored → MachineState
by_kind is_proc is_module is_low p h ws l q memory = cond is_proc (Proc p) (cond is_module (Module (module_from h ws memory)) (cond is_low (Low l) (Comb q)))

-- without its memory it is the same, whatever memory is put to the words
forget_kind : (a b d : Bool) (p : ProcState) (h : ℕ) (ws : List ℕ) (l : LowState) (q : CombState) (m n : List Stored)
    → forgotten (by_kind a b d p h ws l q m) ≡ forgotten (by_kind a b d p h ws l q n)
forget_kind true b d p h ws l q m n = refl
forget_kind false true d p h ws l q m n = refl
forget_kind false false true p h ws l q m n = refl
forget_kind false false false p h ws l q m n = refl

forget_from : (ws : List ℕ) (m n : List Stored) → forgotten (state_from ws m) ≡ forgotten (state_from ws n)
forget_from ws m n =
    let h = slice_index ws 0 in
    let rest = drop 1 ws in
    forget_kind (h % 2 ^ 2 == 0) (h % 2 ^ 2 == 1) (h % 2 ^ 2 == 2) (proc_from h rest) h rest (low_from h rest) (comb_from h rest) m n

-- states of the same words are the same but for memories, and with the same memory the same
of_words : (x y : MachineState) → AreOfWords rp3_codec x y → forgotten x ≡ forgotten y
of_words x y are =
    ap forgotten (sym are.told) ∙ forget_from (words_of x) (or_none (memory_in x)) (or_none (memory_in y))
    ∙ ap forgotten (ap (λ ws. state_from ws (or_none (memory_in y))) are.words ∙ are.other_told)

with_memory_too : (x y : MachineState) → AreOfWords rp3_codec x y → memory_in x ≡ memory_in y → x ≡ y
with_memory_too x y are memory =
    sym are.told ∙ ap (λ m. state_from (words_of x) (or_none m)) memory ∙ ap (λ ws. state_from ws (or_none (memory_in y))) are.words ∙ are.other_told

all_forgotten : (xs ys : ℕ → MachineState) (near : List ℕ) → AllByRecursion (λ d. AreOfWords rp3_codec (xs d) (ys d)) near → map forgotten (map xs near) ≡ map forgotten (map ys near)
all_forgotten xs ys [] all = refl
all_forgotten xs ys (d ∷ near) all =
    ap (λ s. s ∷ map forgotten (map xs near)) (of_words (xs d) (ys d) all.0) ∙ ap (λ l. forgotten (ys d) ∷ l) (all_forgotten xs ys near all.1)

pub by_words : (P : Project) → IsByWords rp3_rules rp3_codec P
by_words P xs ys c there all memory =
    let near = near_cells P.k c in
    let each = recursion_from_All (λ d. AreOfWords rp3_codec (xs d) (ys d)) near all in
    pulled_alike P (map xs near) (map ys near) (all_forgotten xs ys near each) (component_of P.k c) (xs c)
    ∙ ap (pulled P (map ys near) (component_of P.k c)) (with_memory_too (xs c) (ys c) each.0 memory)
