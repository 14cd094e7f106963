-- A memory that is handed over is not seen on the wires, so one component's next state is its part of the row's own cycle.
use Rattle.std.proofs.Common.{◌≡◌, ℕ, zero, suc, ◌+◌, ◌<◌, Bool, cond, List, [], ◌∷◌, ◌++◌, length, map, get_or, refl, ap, sym, ◌∙◌, subst, Option, None, Some, arith}
use Rattle.std.specs.Prelude.{option_map}
use Rattle.std.specs.List.{flat_map}
use Rattle.std.proofs.Math.ListN.{length-set}
use Rattle.std.proofs.Math.Seq.{map-set_same}
use Rattle.std.proofs.lemmas.List.{get_or-set_same}
use Rattle.std.proofs.lemmas.Option.{get_or_from_slice_get, slice_get-map}
use Rattle.omega_net.specs.declared.component.Net.TheVariants.{Low as LowNet, Comb as CombNet}
use Rattle.omega_net.specs.declared.component.Component.{Component}
use Rattle.omega_net.specs.declared.component.Component.TheVariants.{Proc as ProcAt, Module as ModuleAt, Switch}
use Rattle.omega_net.specs.declared.message.Request.{Request}
use Rattle.omega_net.specs.declared.message.Reply.{Reply}
use Rattle.omega_net.specs.declared.wire.Wire.{Wire}
use Rattle.omega_net.specs.Numbers.{Exists, components, component_of, number_of}
use Rattle.omega_net.specs.Wires.{wires, lower_end, upper_end}
use Rattle.omega_net.proofs.Numbering.{number_leads_back, number_within}
use Rattle.mem_module.specs.declared.words.Stored.{Stored}
use Rattle.project_book.specs.Project.{Project}
use Rattle.machine_cells.specs.declared.state.MachineState.{MachineState}
use Rattle.machine_cells.specs.declared.state.MachineState.TheVariants.{Proc, Module, Low, Comb}
use Rattle.machine_cells.specs.Moves.{Move, moves, request_on, reply_on, takes_request_at, takes_reply_at, takes_request, takes_reply, if_taken, request_between, reply_between, at_ends, upper_state, lower_state, request_over, reply_over, forward_moves, back_moves}
use Rattle.machine_cells.specs.Cycle.{blank_of, part_of, parts_from}
use Rattle.machine_cells.specs.Words.{with_memory, memory_of}
use Rattle.flat_row.specs.Next.{given, states_given, next_state, part_given, memory_given, module_given}
use Rattle.flat_row.specs.Row.{Arrays, state_of, states_of}
use Rattle.flat_row.proofs.Holding.{state_there}
use Rattle.flat_row.proofs.Starting.{length_by}

-- a state without its memory
abbrev pub forgotten : MachineState → MachineState
forgotten s = with_memory [] s

-- what it shows, and takes, is the same
request_shown : (w : Wire) (s : MachineState) → request_on w s ≡ request_on w (forgotten s)
request_shown w (Proc s) = refl
request_shown w (Module s) = refl
request_shown w (Low s) = refl
request_shown w (Comb s) = refl

reply_shown : (k : ℕ) (w : Wire) (s : MachineState) → reply_on k w s ≡ reply_on k w (forgotten s)
reply_shown k w (Proc s) = refl
reply_shown k w (Module s) = refl
reply_shown k w (Low s) = refl
reply_shown k w (Comb s) = refl

request_taken : (P : Project) (w : Wire) (r : Request) (c : Component) (s : MachineState) → takes_request_at P w r c s ≡ takes_request_at P w r c (forgotten s)
request_taken P w r (ProcAt p) (Proc s) = refl
request_taken P w r (ProcAt p) (Module s) = refl
request_taken P w r (ProcAt p) (Low s) = refl
request_taken P w r (ProcAt p) (Comb s) = refl
request_taken P w r (ModuleAt m) (Proc s) = refl
request_taken P w r (ModuleAt m) (Module s) = refl
request_taken P w r (ModuleAt m) (Low s) = refl
request_taken P w r (ModuleAt m) (Comb s) = refl
request_taken P w r (Switch LowNet i j) (Proc s) = refl
request_taken P w r (Switch LowNet i j) (Module s) = refl
request_taken P w r (Switch LowNet i j) (Low s) = refl
request_taken P w r (Switch LowNet i j) (Comb s) = refl
request_taken P w r (Switch CombNet i j) (Proc s) = refl
request_taken P w r (Switch CombNet i j) (Module s) = refl
request_taken P w r (Switch CombNet i j) (Low s) = refl
request_taken P w r (Switch CombNet i j) (Comb s) = refl

reply_taken : (P : Project) (w : Wire) (y : Reply) (c : Component) (s : MachineState) → takes_reply_at P w y c s ≡ takes_reply_at P w y c (forgotten s)
reply_taken P w y (ProcAt p) (Proc s) = refl
reply_taken P w y (ProcAt p) (Module s) = refl
reply_taken P w y (ProcAt p) (Low s) = refl
reply_taken P w y (ProcAt p) (Comb s) = refl
reply_taken P w y (ModuleAt m) (Proc s) = refl
reply_taken P w y (ModuleAt m) (Module s) = refl
reply_taken P w y (ModuleAt m) (Low s) = refl
reply_taken P w y (ModuleAt m) (Comb s) = refl
reply_taken P w y (Switch LowNet i j) (Proc s) = refl
reply_taken P w y (Switch LowNet i j) (Module s) = refl
reply_taken P w y (Switch LowNet i j) (Low s) = refl
reply_taken P w y (Switch LowNet i j) (Comb s) = refl
reply_taken P w y (Switch CombNet i j) (Proc s) = refl
reply_taken P w y (Switch CombNet i j) (Module s) = refl
reply_taken P w y (Switch CombNet i j) (Low s) = refl
reply_taken P w y (Switch CombNet i j) (Comb s) = refl

taken_alike : {T : Type 0} (f g : T → Bool) (o : Option T) → ((m : T) → f m ≡ g m) → if_taken f o ≡ if_taken g o
taken_alike f g None h = refl
taken_alike f g (Some m) h = ap (λ t. cond t (Some m) None) (h m)

-- and so is what goes over a wire
request_alike : (P : Project) (w : Wire) (u l : MachineState) → request_between P w u l ≡ request_between P w (forgotten u) (forgotten l)
request_alike P w u l =
    ap (if_taken (λ r. takes_request P w r l)) (request_shown w u)
    ∙ taken_alike (λ r. takes_request P w r l) (λ r. takes_request P w r (forgotten l)) (request_on w (forgotten u)) (λ r. request_taken P w r (lower_end P.k w) l)

reply_alike : (P : Project) (w : Wire) (u l : MachineState) → reply_between P w u l ≡ reply_between P w (forgotten u) (forgotten l)
reply_alike P w u l =
    ap (if_taken (λ y. takes_reply P w y u)) (reply_shown P.k w l)
    ∙ taken_alike (λ y. takes_reply P w y u) (λ y. takes_reply P w y (forgotten u)) (reply_on P.k w (forgotten l)) (λ y. reply_taken P w y (upper_end w) u)

ends_alike : {X : Type 0} (f : MachineState → MachineState → Option X) → ((u l : MachineState) → f u l ≡ f (forgotten u) (forgotten l))
    → (a b : Option MachineState) → at_ends f a b ≡ at_ends f (option_map forgotten a) (option_map forgotten b)
ends_alike f h (Some u) (Some l) = h u l
ends_alike f h (Some u) None = refl
ends_alike f h None (Some l) = refl
ends_alike f h None None = refl

over_alike : {X : Type 0} (P : Project) (S : List MachineState) (w : Wire) (f : MachineState → MachineState → Option X) → ((u l : MachineState) → f u l ≡ f (forgotten u) (forgotten l))
    → at_ends f (upper_state P S w) (lower_state P S w) ≡ at_ends f (upper_state P (map forgotten S) w) (lower_state P (map forgotten S) w)
over_alike P S w f h =
    ends_alike f h (upper_state P S w) (lower_state P S w)
    ∙ ap (λ o. at_ends f o (option_map forgotten (lower_state P S w))) (sym (slice_get-map forgotten S (number_of P.k (upper_end w))))
    ∙ ap (at_ends f (upper_state P (map forgotten S) w)) (sym (slice_get-map forgotten S (number_of P.k (lower_end P.k w))))

flat_alike : {X A : Type 0} (f g : X → List A) (xs : List X) → ((x : X) → f x ≡ g x) → flat_map f xs ≡ flat_map g xs
flat_alike f g [] h = refl
flat_alike f g (x ∷ xs) h = ap (λ ys. ys ++ flat_map f xs) (h x) ∙ ap (λ ys. g x ++ ys) (flat_alike f g xs h)

pub moves_forgotten : (P : Project) (S : List MachineState) → moves P S ≡ moves P (map forgotten S)
moves_forgotten P S =
    flat_alike (λ w. forward_moves w (request_over P S w) ++ back_moves w (reply_over P S w)) (λ w. forward_moves w (request_over P (map forgotten S) w) ++ back_moves w (reply_over P (map forgotten S) w)) (wires P.k)
    (λ w. ap (λ o. forward_moves w o ++ back_moves w (reply_over P S w)) (over_alike P S w (request_between P w) (request_alike P w))
    ∙ ap (λ o. forward_moves w (request_over P (map forgotten S) w) ++ back_moves w o) (over_alike P S w (reply_between P w) (reply_alike P w)))

forgets_given : (memory : Option (List Stored)) (s : MachineState) → forgotten (given memory s) ≡ forgotten s
forgets_given None s = refl
forgets_given (Some ws) (Proc s) = refl
forgets_given (Some ws) (Module s) = refl
forgets_given (Some ws) (Low s) = refl
forgets_given (Some ws) (Comb s) = refl

-- the part at a place
part_at : (P : Project) (M : List Move) (b n : ℕ) (S : List MachineState) (d e : MachineState) → n < length S
    → get_or (parts_from P M b S) n d ≡ part_of P M (component_of P.k (b + n)) (get_or S n e)
part_at P M b n [] d e h = absurd (omega (arith, h))
part_at P M b zero (s ∷ S) d e h = let same : b ≡ b + 0 = omega arith in ap (λ m. part_of P M (component_of P.k m) s) same
part_at P M b (suc n) (s ∷ S) d e h =
    let same : suc b + n ≡ b + suc n = omega arith in
    let less : n < length S = omega (arith, h) in
    part_at P M (suc b) n S d e less ∙ ap (λ m. part_of P M (component_of P.k m) (get_or S n e)) same

module _ (P : Project) (R : Arrays) (size : R.k ≡ P.k) (c : Component) (exists : Exists P.k c) (memory : Option (List Stored)) where
  abbrev at : ℕ
  at = number_of R.k c

  abbrev own : MachineState
  own = state_of R (Some c)

  here : Exists R.k c
  here = subst (λ k. Exists k c) (sym size) exists

  within : at < length (states_of R)
  within = subst (λ n. at < n) (sym (length_by (λ n. state_of R (component_of R.k n)) (components R.k))) (number_within R.k c here)

  it : get_or (states_of R) at own ≡ own
  it = get_or_from_slice_get (states_of R) at own own (state_there R c here)

  moves_given : moves P (states_given R c memory) ≡ moves P (states_of R)
  moves_given =
      moves_forgotten P (states_given R c memory)
      ∙ ap (moves P) (map-set_same forgotten (states_of R) at (given memory own) own (forgets_given memory own ∙ ap forgotten (sym it)))
      ∙ sym (moves_forgotten P (states_of R))

  is_it : component_of P.k (0 + at) ≡ Some c
  is_it =
      let none : 0 + at ≡ at = omega arith in
      ap (component_of P.k) none ∙ ap (λ k. component_of k at) (sym size) ∙ number_leads_back R.k c here

  pub next_is : next_state P R c memory ≡ part_given P R c memory
  next_is =
      part_at P (moves P (states_given R c memory)) 0 at (states_given R c memory) (blank_of (Some c)) own (subst (λ n. at < n) (sym (length-set (states_of R) at (given memory own))) within)
      ∙ ap (λ m. part_of P m (component_of P.k (0 + at)) (get_or (states_given R c memory) at own)) moves_given
      ∙ ap (λ o. part_of P (moves P (states_of R)) o (get_or (states_given R c memory) at own)) is_it
      ∙ ap (part_of P (moves P (states_of R)) (Some c)) (get_or-set_same (states_of R) at (given memory own) own within)

-- a component without a memory
abbrev pub HasNone : Component → Type 0
HasNone (ModuleAt m) = ⊥
HasNone c = Unit {0}

forgetful : (R : Arrays) (c : Component) → HasNone c → (memory : Option (List Stored)) → (given memory (state_of R (Some c)) ≡ state_of R (Some c)) × (memory_of (state_of R (Some c)) ≡ [])
forgetful R (ProcAt p) h None = (refl, refl)
forgetful R (ProcAt p) h (Some ws) = (refl, refl)
forgetful R (ModuleAt m) h memory = absurd h
forgetful R (Switch LowNet s j) h None = (refl, refl)
forgetful R (Switch LowNet s j) h (Some ws) = (refl, refl)
forgetful R (Switch CombNet s j) h None = (refl, refl)
forgetful R (Switch CombNet s j) h (Some ws) = (refl, refl)

still_none : (P : Project) (R : Arrays) (c : Component) → HasNone c → memory_of (part_given P R c None) ≡ []
still_none P R (ProcAt p) h = refl
still_none P R (ModuleAt m) h = absurd h
still_none P R (Switch LowNet s j) h = refl
still_none P R (Switch CombNet s j) h = refl

pub next_without : (P : Project) (R : Arrays) → R.k ≡ P.k → (c : Component) → Exists P.k c → (memory : Option (List Stored)) → HasNone c → next_state P R c memory ≡ part_given P R c None
next_without P R size c exists memory none = next_is P R size c exists memory ∙ ap (part_of P (moves P (states_of R)) (Some c)) (forgetful R c none memory).0

pub nothing_left : (P : Project) (R : Arrays) → R.k ≡ P.k → (c : Component) → Exists P.k c → (memory : Option (List Stored)) → HasNone c → memory_of (next_state P R c memory) ≡ memory_given R c memory
nothing_left P R size c exists memory none =
    ap memory_of (next_without P R size c exists memory none) ∙ still_none P R c none
    ∙ sym (ap memory_of (forgetful R c none memory).0 ∙ (forgetful R c none memory).1)

-- a module with what is handed over
pub given_module : (R : Arrays) (m : ℕ) (memory : Option (List Stored)) → given memory (state_of R (Some (ModuleAt m))) ≡ Module (module_given R m memory)
given_module R m None = refl
given_module R m (Some ws) = refl
