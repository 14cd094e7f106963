-- What the levels of the rows say of a run.
use Rattle.std.proofs.Common.{◌≡◌, ℕ, suc, ◌+◌, List, length, map, find, Option, ap, ◌∙◌, add-one}
use Rattle.std.specs.Prelude.{nat_le, slice_get, slice_index}
use Rattle.std.proofs.lemmas.List.{length-map}
use Rattle.omega_net.specs.declared.component.Net.{Net}
use Rattle.omega_net.specs.Wires.{below}
use Rattle.project_book.specs.Project.{Project}
use Rattle.machine_cells.specs.declared.state.MachineState.{MachineState}
use Rattle.machine_cells.specs.Runs.{state_in}
use Rattle.saturation.specs.declared.report.Tree.{Tree}
use Rattle.saturation.specs.Levels.{level, levels, first_cycles}
use Rattle.saturation.specs.Trees.{tree}
use Rattle.saturation.proofs.Firsts.{firsts_are}
use Rattle.saturation.proofs.Rows.{rows_are_cycles}

abbrev pub tree_of : List ℕ → List (Option ℕ) → Tree
tree_of ls items = record { levels = ls; first = record { items = items } }

module _ (P : Project) (net : Net) (m : ℕ) (rows : List (List MachineState)) (size : length rows ≡ P.horizon + 1) where
  pub levels_made : map (λ S. level P net m (slice_get S)) rows ≡ levels P net m (state_in rows)
  levels_made = rows_are_cycles (level P net m) rows (suc P.horizon) (size ∙ add-one P.horizon)

  pub levels_as_many : (ls : List ℕ) → ls ≡ map (λ S. level P net m (slice_get S)) rows → length ls ≡ P.horizon + 1
  levels_as_many ls made = ap length made ∙ length-map rows (λ S. level P net m (slice_get S)) ∙ size

  pub tree_made : (ls : List ℕ) (items : List (Option ℕ)) (n k : ℕ) → ls ≡ map (λ S. level P net m (slice_get S)) rows → n ≡ P.horizon + 1 → k ≡ P.k
      → items ≡ map (λ j. find (λ t. nat_le (j + 1) (slice_index ls t)) (below n)) (below k)
      → tree_of ls items ≡ tree P net m (state_in rows)
  tree_made ls items n k of_rows is_n is_k found =
      let of_cycles : ls ≡ levels P net m (state_in rows) = of_rows ∙ levels_made in
      let firsts : items ≡ first_cycles P net m (state_in rows) =
      found
      ∙ ap (λ c. map (λ j. find (λ t. nat_le (j + 1) (slice_index ls t)) (below c)) (below k)) (is_n ∙ add-one P.horizon)
      ∙ firsts_are ls (λ t. level P net m (state_in rows t)) (suc P.horizon) k of_cycles
      ∙ ap (λ c. map (λ j. find (λ t. nat_le (j + 1) (level P net m (state_in rows t))) (below (suc P.horizon))) (below c)) is_k in
      ap (λ l. tree_of l items) of_cycles ∙ ap (tree_of (levels P net m (state_in rows))) firsts
