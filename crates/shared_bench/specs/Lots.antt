-- Lots: cells of one cycle that are claimed in one turn, and results that are given back in one.
use Rattle.std.specs.Prelude.{◌≡◌, ℕ, ◌+◌, ◌≤◌, zero, suc, false, List, [], ◌∷◌}
use Rattle.cell_states.specs.declared.cell.Cell.{Cell}
use Rattle.cell_table.specs.declared.given.Given.{Given}
use Rattle.cell_table.specs.Cells.{IsThere}
use Rattle.cell_table.specs.Claims.{Claimed, Computed, is_claimable, NoneDue, IsNextInRow, IsNextRound, IsClaim}
use Rattle.cell_table.specs.Gives.{GivesAs}
use Rattle.machine_cells.specs.declared.state.MachineState.{MachineState}
use Rattle.machine_cells.specs.GridRules.{rp3_rules}
use Rattle.project_book.specs.Project.{Project}
use Rattle.bench_core.specs.Shown.{Shown, project_of}
use Rattle.bench_core.specs.Stands.{HasHistory}

-- no cell of cycle t at or after component c can be claimed
abbrev pub NoneInRow : Shown → ℕ → ℕ → Type 0
NoneInRow d t c = (c1 : ℕ) → IsThere rp3_rules d.table t c1 → c ≤ c1 → is_claimable rp3_rules d.table t c1 ≡ false

-- a claim of the first cell of cycle t, at or after component c, that can be claimed
abbrev pub IsClaimInRow : Shown → ℕ → ℕ → Claimed MachineState Project → Type 0
IsClaimInRow d t c claim = (claim.cell.cycle ≡ t) × IsNextInRow rp3_rules d.table t c claim.cell.component × IsClaim rp3_rules d.table claim

-- at most n claims of cells of cycle t, each of the first that can be claimed from component c on and then behind the one before;
-- where they are fewer, no further cell of the cycle can be claimed
abbrev pub GoesOn : Shown → ℕ → ℕ → ℕ → List (Claimed MachineState Project) → Type 0
GoesOn d t c zero [] = Unit {0}
GoesOn d t c zero (claim ∷ claims) = ⊥
GoesOn d t c (suc n) [] = NoneInRow d t c
GoesOn d t c (suc n) (claim ∷ claims) = IsClaimInRow d t c claim × GoesOn d t (claim.cell.component + 1) n claims

-- a lot of at most n claims from a cell on: the first is what one claim from there is, and the others go on in its cycle; none
-- exactly where none was asked for or no cell is due
abbrev pub ClaimsLot : Shown → Cell → ℕ → List (Claimed MachineState Project) → Type 0
ClaimsLot d from zero [] = Unit {0}
ClaimsLot d from zero (claim ∷ claims) = ⊥
ClaimsLot d from (suc n) [] = NoneDue rp3_rules d.table
ClaimsLot d from (suc n) (claim ∷ claims) =
    IsNextRound rp3_rules d.table from.cycle from.component claim.cell
    × IsClaim rp3_rules d.table claim
    × GoesOn d claim.cell.cycle (claim.cell.component + 1) n claims

-- a result is given back to the bench d, and the bench next is left, of the same journal and project
pub record GivesOne (d : Shown) (done : Computed MachineState Project) (given : Given (Computed MachineState Project)) (next : Shown) : Type 0 where
  pub gives : GivesAs rp3_rules d.table done given next.table
  pub journal : next.journal ≡ d.journal
  pub project : project_of next ≡ project_of d
  pub history : HasHistory next

-- results are given back in this order, each to the bench that the one before left; the answers have the same order
abbrev pub GivesLot : Shown → List (Computed MachineState Project) → List (Given (Computed MachineState Project)) → Shown → Type 0
GivesLot d [] [] next = next ≡ d
GivesLot d [] (given ∷ givens) next = ⊥
GivesLot d (done ∷ lot) [] next = ⊥
GivesLot d (done ∷ lot) (given ∷ givens) next = (mid : Shown) × GivesOne d done given mid × GivesLot mid lot givens next
