-- A row whose components are the parts of a cycle is that cycle.
use Rattle.std.proofs.Common.{◌≡◌, ℕ, zero, suc, ◌+◌, ◌<◌, List, [], ◌∷◌, ◌++◌, length, map, refl, ap, sym, ◌∙◌, Some, arith}
use Rattle.std.proofs.lemmas.List.{map_push}
use Rattle.omega_net.specs.declared.component.Component.{Component}
use Rattle.omega_net.specs.Numbers.{components, component_of, Exists}
use Rattle.omega_net.specs.Wires.{below}
use Rattle.omega_net.proofs.Numbering.{Has, component_has}
use Rattle.project_book.specs.Project.{Project}
use Rattle.machine_cells.specs.declared.state.MachineState.{MachineState}
use Rattle.machine_cells.specs.Moves.{Move, moves}
use Rattle.machine_cells.specs.Cycle.{cycle, parts_from, part_of}
use Rattle.flat_row.specs.Row.{Arrays, state_of, states_of}
use Rattle.flat_row.proofs.Starting.{length_by, map_alike}

module _ (P : Project) (M : List Move) where
  parts_append : (b : ℕ) (xs ys : List MachineState) → parts_from P M b (xs ++ ys) ≡ parts_from P M b xs ++ parts_from P M (b + length xs) ys
  parts_append b [] ys = let e : b ≡ b + 0 = omega arith in ap (λ n. parts_from P M n ys) e
  parts_append b (x ∷ xs) ys =
      let e : suc b + length xs ≡ b + suc (length xs) = omega arith in
      ap (λ rest. part_of P M (component_of P.k b) x ∷ rest) (parts_append (suc b) xs ys ∙ ap (λ n. parts_from P M (suc b) xs ++ parts_from P M n ys) e)

  pub parts_below : (f : ℕ → MachineState) (n : ℕ) → parts_from P M 0 (map f (below n)) ≡ map (λ c. part_of P M (component_of P.k c) (f c)) (below n)
  parts_below f zero = refl
  parts_below f (suc n) =
      let long : 0 + length (map f (below n)) ≡ n = plus (length (map f (below n))) ∙ length_by f n in
      ap (parts_from P M 0) (map_push f (below n) n)
      ∙ parts_append 0 (map f (below n)) (f n ∷ [])
      ∙ ap (λ xs. xs ++ parts_from P M (0 + length (map f (below n))) (f n ∷ [])) (parts_below f n)
      ∙ ap (λ m. map (λ c. part_of P M (component_of P.k c) (f c)) (below n) ++ parts_from P M m (f n ∷ [])) long
      ∙ sym (map_push (λ c. part_of P M (component_of P.k c) (f c)) (below n) n)
    where
      plus : (m : ℕ) → 0 + m ≡ m
      plus m = omega arith

pub cycle_is : (P : Project) (R S : Arrays) → R.k ≡ P.k → S.k ≡ P.k
    → ((x : Component) → Exists P.k x → state_of S (Some x) ≡ part_of P (moves P (states_of R)) (Some x) (state_of R (Some x))) → states_of S ≡ cycle P (states_of R)
cycle_is P R S e f each =
    ap (λ k. map (λ c. state_of S (component_of k c)) (below (components k))) f
    ∙ map_alike (λ c. state_of S (component_of P.k c)) (λ c. part_of P (moves P (states_of R)) (component_of P.k c) (state_of R (component_of P.k c))) (components P.k) here
    ∙ sym (parts_below P (moves P (states_of R)) (λ c. state_of R (component_of P.k c)) (components P.k))
    ∙ ap (λ k. parts_from P (moves P (states_of R)) 0 (map (λ c. state_of R (component_of k c)) (below (components k)))) (sym e)
  where
    here : (c : ℕ) → c < components P.k → state_of S (component_of P.k c) ≡ part_of P (moves P (states_of R)) (component_of P.k c) (state_of R (component_of P.k c))
    here c lt = by_component (component_has P.k c lt).0 (component_has P.k c lt).1
      where
        by_component : (x : Component) → Has P.k c (component_of P.k c) x → state_of S (component_of P.k c) ≡ part_of P (moves P (states_of R)) (component_of P.k c) (state_of R (component_of P.k c))
        by_component x has_it =
            ap (state_of S) has_it.is ∙ each x has_it.there
            ∙ ap (λ o. part_of P (moves P (states_of R)) o (state_of R o)) (sym has_it.is)

-- rows whose components are alike are one whole state
pub states_alike : (R S : Arrays) (k : ℕ) → R.k ≡ k → S.k ≡ k → ((x : Component) → Exists k x → state_of S (Some x) ≡ state_of R (Some x)) → states_of S ≡ states_of R
states_alike R S k e f each =
    ap (λ n. map (λ c. state_of S (component_of n c)) (below (components n))) f
    ∙ map_alike (λ c. state_of S (component_of k c)) (λ c. state_of R (component_of k c)) (components k) here
    ∙ sym (ap (λ n. map (λ c. state_of R (component_of n c)) (below (components n))) e)
  where
    here : (c : ℕ) → c < components k → state_of S (component_of k c) ≡ state_of R (component_of k c)
    here c lt = by_component (component_has k c lt).0 (component_has k c lt).1
      where
        by_component : (x : Component) → Has k c (component_of k c) x → state_of S (component_of k c) ≡ state_of R (component_of k c)
        by_component x has_it = ap (state_of S) has_it.is ∙ each x has_it.there ∙ ap (state_of R) (sym has_it.is)
