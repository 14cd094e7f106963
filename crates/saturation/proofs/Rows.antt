-- What is made of each row is made of each cycle.
use Rattle.std.proofs.Common.{◌≡◌, ℕ, ◌<◌, List, [], length, get_or, map, Option, sym, ap, ◌∙◌, arith}
use Rattle.std.specs.Prelude.{slice_get, option_map, option_and_then}
use Rattle.std.proofs.lemmas.List.{ext_get_or, length-map}
use Rattle.std.proofs.lemmas.Option.{slice_get-map, slice_get-get_or, get_or_from_slice_get}
use Rattle.omega_net.specs.Wires.{below}
use Rattle.machine_cells.specs.declared.state.MachineState.{MachineState}
use Rattle.machine_cells.specs.Runs.{state_in}
use Rattle.machine_cells.proofs.Runs.{length-below, below-get}

module _ (made : (ℕ → Option MachineState) → ℕ) (rows : List (List MachineState)) where
  by_row : (t : ℕ) → t < length rows → get_or (map (λ S. made (slice_get S)) rows) t 0 ≡ made (slice_get (get_or rows t []))
  by_row t h =
      get_or_from_slice_get (map (λ S. made (slice_get S)) rows) t _ 0
      (slice_get-map (λ S. made (slice_get S)) rows t ∙ ap (option_map (λ S. made (slice_get S))) (slice_get-get_or rows t [] h))

  by_cycle : (n t : ℕ) → t < length rows → t < n → get_or (map (λ u. made (state_in rows u)) (below n)) t 0 ≡ made (slice_get (get_or rows t []))
  by_cycle n t h low =
      get_or_from_slice_get (map (λ u. made (state_in rows u)) (below n)) t (made (state_in rows t)) 0
      (slice_get-map (λ u. made (state_in rows u)) (below n) t ∙ ap (option_map (λ u. made (state_in rows u))) (below-get n t low))
      ∙ ap (λ (o : Option (List MachineState)). made (λ c. option_and_then (λ S. slice_get S c) o)) (slice_get-get_or rows t [] h)

  pub rows_are_cycles : (n : ℕ) → length rows ≡ n → map (λ S. made (slice_get S)) rows ≡ map (λ t. made (state_in rows t)) (below n)
  rows_are_cycles n size =
      let all = length-map rows (λ S. made (slice_get S)) in
      let each = length-map (below n) (λ t. made (state_in rows t)) in
      ext_get_or 0 _ _ (omega (arith, all, each, size, length-below n))
      (λ t lt. by_row t (omega (arith, all)) ∙ sym (by_cycle n t (omega (arith, all)) (omega (arith, all, size))))
