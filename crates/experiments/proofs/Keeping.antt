-- What a run shows of the queues towards a module.
use Rattle.std.proofs.Common.{◌≡◌, ℕ, ◌+◌, ◌-◌, ◌*◌, ◌/◌, ◌%◌, ◌^◌, ◌<◌, ◌≤◌, List, [], ◌∷◌, ◌++◌, map, get_or, refl, sym, ap, ap₂, ◌∙◌, subst, append_assoc, Bool, Some, arith}
use Rattle.std.specs.Prelude.{nat_lt, length}
use Rattle.std.specs.List.{flat_map}
use Rattle.std.proofs.lemmas.Nat.{pow_pos}
use Rattle.omega_net.specs.declared.component.Net.{Net}
use Rattle.omega_net.specs.declared.component.Net.TheVariants.{Low as LowNet, Comb as CombNet}
use Rattle.omega_net.specs.declared.component.Component.TheVariants.{Switch}
use Rattle.omega_net.specs.Numbers.{lines, number_of}
use Rattle.omega_net.specs.Wires.{below}
use Rattle.project_book.specs.Project.{Project, forward}
use Rattle.machine_cells.specs.declared.state.MachineState.{MachineState}
use Rattle.machine_cells.specs.declared.state.MachineState.TheVariants.{Proc, Module, Low, Comb}
use Rattle.machine_cells.specs.Run.{run}
use Rattle.machine_cells.specs.Runs.{state_in}
use Rattle.saturation.proofs.Below.{map-next}
use Rattle.saturation.specs.Levels.{level}
use Rattle.saturation.specs.Towards.{is_full, is_full_on, queues_at}
use Rattle.flat_row.specs.Looks.{length_forward}
use Rattle.flat_row.specs.Row.{Arrays, state_of}
use Rattle.experiments.specs.declared.map.Kept.{Kept}
use Rattle.experiments.specs.declared.map.Scope.{Scope}
use Rattle.experiments.specs.declared.map.Window.{Window}
use Rattle.run_reports.specs.declared.runner.Runner.{Runner}
use Rattle.experiments.specs.Lengths.{cycles_of, length_there, lengths_now, lengths_of, states_from, AreLengths, IsKept}
use Rattle.experiments.specs.Maps.{has_served, length_in, length_on}
use Rattle.run_reports.specs.Runners.{IsAt}
use Rattle.experiments.proofs.Lines.{switch_there}
use Rattle.experiments.proofs.Places.{length_stands}
use Rattle.run_reports.proofs.Runners.{switch_shows}
use Rattle.experiments.proofs.Waits.{flat-next}

-- the two ways to say the length of a switch's queue
same_length : (o : ℕ) (s : MachineState) → length_forward o s ≡ length_in o (Some s)
same_length o (Proc s) = refl
same_length o (Module s) = refl
same_length o (Low s) = refl
same_length o (Comb s) = refl

-- a switch's queue is full where its length leaves fewer than two places
full_length : (R : Arrays) (depth o : ℕ) (net : Net) (s j : ℕ)
    → is_full depth o (Some (state_of R (Some (Switch net s j)))) ≡ nat_lt (depth - length_in o (Some (state_of R (Some (Switch net s j))))) 2
full_length R depth o LowNet s j = refl
full_length R depth o CombNet s j = refl

module _ (P : Project) (r : Runner) (at : IsAt P r) (net : Net) (stage line : ℕ) (low : stage < P.k) (there : line < lines P.k) where
  switch_is : state_in (run P) r.cycle (number_of P.k (Switch net stage (line / 2))) ≡ Some (state_of r.row (Some (Switch net stage (line / 2))))
  switch_is = switch_shows P r at net stage (line / 2) low (switch_there P.k stage line low there)

  pub length_shows : length_forward (line % 2) (state_of r.row (Some (Switch net stage (line / 2)))) ≡ length_on P.k net (state_in (run P) r.cycle) stage line
  length_shows = same_length (line % 2) (state_of r.row (Some (Switch net stage (line / 2)))) ∙ ap (length_in (line % 2)) (sym switch_is)

  pub full_shows : is_full_on P net (state_in (run P) r.cycle) stage line ≡ nat_lt (forward P net - length_on P.k net (state_in (run P) r.cycle) stage line) 2
  full_shows =
      ap (is_full (forward P net) (line % 2)) switch_is
      ∙ full_length r.row (forward P net) (line % 2) net stage (line / 2)
      ∙ ap (λ o. nat_lt (forward P net - length_in (line % 2) o) 2) (sym switch_is)

-- one thing more behind what is there: of a cycle, a queue of a stage, a stage
pub one_more : {X : Type 0} (f : ℕ → X) (i : ℕ) (xs new : List X) (x : X) → xs ≡ map f (below i) → new ≡ xs ++ x ∷ [] → x ≡ f i → new ≡ map f (below (i + 1))
one_more f i xs new x so_far pushed is = pushed ∙ ap₂ (λ ys y. ys ++ y ∷ []) so_far is ∙ sym (map-next f i)

pub queue_next : (f : ℕ → ℕ) (i n : ℕ) (old xs new : List ℕ) → xs ≡ old ++ map f (below i) → new ≡ xs ++ n ∷ [] → n ≡ f i → new ≡ old ++ map f (below (i + 1))
queue_next f i n old xs new so_far pushed is =
    pushed ∙ ap₂ (λ (ys : List ℕ) (x : ℕ). ys ++ x ∷ []) so_far is ∙ append_assoc old (map f (below i)) (f i ∷ []) ∙ ap (λ (ys : List ℕ). old ++ ys) (sym (map-next f i))

pub stage_next : (f : ℕ → List ℕ) (i : ℕ) (old xs new : List ℕ) → xs ≡ old ++ flat_map f (below i) → new ≡ xs ++ f i → new ≡ old ++ flat_map f (below (i + 1))
stage_next f i old xs new so_far added =
    added ∙ ap (λ (ys : List ℕ). ys ++ f i) so_far ∙ append_assoc old (flat_map f (below i)) (f i) ∙ ap (λ (ys : List ℕ). old ++ ys) (sym (flat-next f i))

-- the cycles of a window before the first cycle, one cycle later, and at the end
module _ (w : Window) where
  pub none_shown : (t : ℕ) → t ≡ 0 → cycles_of w t ≡ 0
  none_shown t first = omega (arith, first)

  pub in_window : (t : ℕ) → w.from ≤ t → t ≤ w.to → cycles_of w t + 1 ≡ cycles_of w (t + 1)
  in_window t begun early = omega arith

  pub place_in_window : (t : ℕ) → w.from ≤ t → t ≤ w.to → cycles_of w t + w.from ≡ t
  place_in_window t begun early = omega arith

  pub all_shown : (t : ℕ) → w.to < t → cycles_of w t ≡ w.to + 1 - w.from
  all_shown t late = omega arith

module _ (P : Project) (s : Scope) (t : ℕ) (begun : s.window.from ≤ t) (early : t ≤ s.window.to) where
  -- a cycle of the window more
  pub lengths_next : (xs new : List ℕ) → xs ≡ lengths_of P s (cycles_of s.window t)
      → new ≡ xs ++ lengths_now P.k s.net s.«module» (state_in (run P) t) P.k → new ≡ lengths_of P s (cycles_of s.window (t + 1))
  lengths_next xs new so_far added =
      added
      ∙ ap₂ (λ (ys : List ℕ) (u : ℕ). ys ++ lengths_now P.k s.net s.«module» (state_in (run P) u) P.k) so_far (sym (place_in_window s.window t begun early))
      ∙ sym (flat-next (λ i. lengths_now P.k s.net s.«module» (states_from P s.window i) P.k) (cycles_of s.window t))
      ∙ ap (lengths_of P s) (in_window s.window t begun early)

  pub served_next : (xs new : List Bool) (b : Bool)
      → xs ≡ map (λ i. has_served s.net (states_from P s.window i (lines P.k + s.«module»))) (below (cycles_of s.window t)) → new ≡ xs ++ b ∷ []
      → b ≡ has_served s.net (state_in (run P) t (lines P.k + s.«module»))
      → new ≡ map (λ i. has_served s.net (states_from P s.window i (lines P.k + s.«module»))) (below (cycles_of s.window (t + 1)))
  served_next xs new b so_far pushed is =
      let shown = λ (i : ℕ). has_served s.net (states_from P s.window i (lines P.k + s.«module»)) in
      one_more shown (cycles_of s.window t) xs new b so_far pushed
      (is ∙ ap (λ (u : ℕ). has_served s.net (state_in (run P) u (lines P.k + s.«module»))) (sym (place_in_window s.window t begun early)))
      ∙ ap (λ (n : ℕ). map shown (below n)) (in_window s.window t begun early)

-- what is kept of no cycle
pub none_kept : (P : Project) (t : ℕ) (kept : Kept) → t ≡ 0 → kept.lengths.items ≡ [] → kept.served.items ≡ [] → kept.levels.items ≡ [] → IsKept P t kept
none_kept P t kept first lengths served levels =
    let w = kept.scope.window in
    record {
      lengths = lengths ∙ ap (lengths_of P kept.scope) (sym (none_shown w t first));
      served = served ∙ ap (λ (n : ℕ). map (λ i. has_served kept.scope.net (states_from P w i (lines P.k + kept.scope.«module»))) (below n)) (sym (none_shown w t first));
      levels = levels ∙ ap (λ (n : ℕ). map (λ u. level P kept.scope.net kept.scope.«module» (state_in (run P) u)) (below n)) (sym first);
    }

-- where the length of a queue at a cycle is kept
pub record Found (P : Project) (kept : Kept) (cycle stage place index : ℕ) : Type 0 where
  pub within : index < length kept.lengths.items
  pub value : (d : ℕ) → get_or kept.lengths.items index d ≡ length_there P.k kept.scope.net kept.scope.«module» (states_from P kept.scope.window cycle) stage place

pub found : (P : Project) (kept : Kept) → AreLengths P kept → (cycle stage place all queues : ℕ) → cycle < kept.scope.window.to + 1 - kept.scope.window.from
    → stage < P.k → place < queues_at P.k stage → all ≡ 2 ^ P.k → queues ≡ queues_at P.k stage → Found P kept cycle stage place (cycle * (all - 1) + (queues - 1) + place)
found P kept is cycle stage place all queues early low few is_all is_queues =
    let stands = length_stands P.k kept.scope.net kept.scope.«module» (states_from P kept.scope.window) (kept.scope.window.to + 1 - kept.scope.window.from) cycle stage place (all - 1) (queues - 1)
    early low few (omega (arith, is_all, pow_pos P.k)) (omega (arith, is_queues, pow_pos (P.k - 1 - stage))) in
    record {
      within = subst (λ (xs : List ℕ). cycle * (all - 1) + (queues - 1) + place < length xs) (sym is) stands.within;
      value = λ d. ap (λ (xs : List ℕ). get_or xs (cycle * (all - 1) + (queues - 1) + place) d) is ∙ stands.value d;
    }
