-- The first cycles of a run, from the levels of all its cycles.
use Rattle.std.proofs.Common.{◌≡◌, ℕ, ◌+◌, List, Option, map, find, ap, ◌∙◌, add-one}
use Rattle.std.specs.Prelude.{nat_le, slice_index}
use Rattle.omega_net.specs.declared.component.Net.{Net}
use Rattle.omega_net.specs.Wires.{below}
use Rattle.project_book.specs.Project.{Project}
use Rattle.machine_cells.specs.declared.state.MachineState.{MachineState}
use Rattle.saturation.specs.Levels.{level, first_cycles}
use Rattle.saturation.proofs.Firsts.{firsts_are}

pub firsts_of : (P : Project) (net : Net) (m : ℕ) (at : ℕ → ℕ → Option MachineState) (levels : List ℕ) (firsts : List (Option ℕ)) (cycles k : ℕ)
    → levels ≡ map (λ t. level P net m (at t)) (below (P.horizon + 1)) → cycles ≡ P.horizon + 1 → k ≡ P.k
    → firsts ≡ map (λ j. find (λ t. nat_le (j + 1) (slice_index levels t)) (below cycles)) (below k) → firsts ≡ first_cycles P net m at
firsts_of P net m at levels firsts cycles k made last same are =
    let found = λ (n k : ℕ). map (λ j. find (λ t. nat_le (j + 1) (slice_index levels t)) (below n)) (below k) in
    are ∙ ap (λ n. found n k) last ∙ ap (found (P.horizon + 1)) same
    ∙ firsts_are levels (λ t. level P net m (at t)) (P.horizon + 1) P.k made
    ∙ ap (λ n. map (λ j. find (λ t. nat_le (j + 1) (level P net m (at t))) (below n)) (below P.k)) (add-one P.horizon)
