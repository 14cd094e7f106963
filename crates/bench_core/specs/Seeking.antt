-- How a reply is sought: the run is settled slice by slice, and looked at after each.
use Rattle.std.specs.Prelude.{◌≡◌, ℕ, suc, ◌+◌, ◌*◌, ◌≤◌, nat_lt, min, if◌then◌else◌, Option, None, Some, Result, Ok, Err, List, [], ◌∷◌}
use Rattle.cell_table.specs.Settling.{IsClockSpent}
use Rattle.cell_table.specs.declared.given.SettleFault.{SettleFault}
use Rattle.machine_cells.specs.declared.state.MachineState.{MachineState}
use Rattle.machine_cells.specs.Run.{run}
use Rattle.machine_cells.specs.Runs.{state_in}
use Rattle.project_book.specs.Project.{Project}
use Rattle.run_queries.specs.Answers.{issued, first_reply}
use Rattle.run_queries.specs.declared.body.Received.{Received}
use Rattle.bench_core.specs.Shown.{Shown, project_of, held}
use Rattle.bench_core.specs.Settled.{IsSettledFrom, IsPartlySettledFrom, IsSpentTo}

-- what a processor's states before a cycle tell of its reference n: the reply, once it was issued and answered
abbrev pub replied_in : (ℕ → Option MachineState) → ℕ → ℕ → Option Received
replied_in at n t = if nat_lt n (issued at t) then first_reply at n t else None

-- what the run tells of it up to a cycle
abbrev pub replied_by : Project → ℕ → ℕ → ℕ → Option Received
replied_by P p n last = replied_in (λ t. state_in (run P) t p) n (suc last)

-- how far a reply is sought first that no state held tells
abbrev pub first_slice : ℕ
first_slice = 15

-- how far it is sought first: to where the states held tell it, which need not be those of the run, else to that cycle
abbrev pub slice_of : Option Received → ℕ → ℕ
slice_of (Some r) horizon = r.cycle
slice_of None horizon = min first_slice horizon

abbrev pub begins_at : Shown → ℕ → ℕ → ℕ
begins_at d p n = slice_of (replied_in (λ t. held d.table t p) n (suc (project_of d).horizon)) (project_of d).horizon

-- the slices in which it is sought, up to an end: behind each of them comes a further one only where that one doesn't tell
-- the reply, and it reaches at most about twice as far
abbrev pub AreSlices : Project → ℕ → ℕ → List ℕ → ℕ → Type 0
AreSlices P p n [] end = ⊥
AreSlices P p n (t ∷ []) end = t ≡ end
AreSlices P p n (t ∷ u ∷ ts) end = (replied_by P p n t ≡ None) × (u ≤ 2 * t + 1) × AreSlices P p n (u ∷ ts) end

-- a bench that comes of settling another up to the first of these cycles, then up to the second, and so on
abbrev pub IsSettledBySlices : List ℕ → Shown → Shown → Type 0
IsSettledBySlices [] d next = next ≡ d
IsSettledBySlices (t ∷ ts) d next = (mid : Shown) × IsSettledFrom (Some t) d mid × IsSettledBySlices ts mid next

-- the same, but the last slice is settled in part
abbrev pub IsPartlySettledBySlices : List ℕ → Shown → Shown → Type 0
IsPartlySettledBySlices [] d next = ⊥
IsPartlySettledBySlices (t ∷ []) d next = IsPartlySettledFrom (Some t) d next
IsPartlySettledBySlices (t ∷ u ∷ ts) d next = (mid : Shown) × IsSettledFrom (Some t) d mid × IsPartlySettledBySlices (u ∷ ts) mid next

-- a bench after a reply was sought, by slices from this one on, and what came of it: the reply, which the run tells up to the
-- last slice; none, after a slice that ends at the horizon; or a fault in the last slice
abbrev pub SeeksAs : ℕ → ℕ → ℕ → Shown → Shown → Result (Option Received) SettleFault → Type 0
SeeksAs p n last d next (Ok (Some r)) =
    (ts : List ℕ) × (end : ℕ) × AreSlices (project_of d) p n (last ∷ ts) end × (end ≤ (project_of d).horizon)
    × IsSettledBySlices (last ∷ ts) d next × (replied_by (project_of d) p n end ≡ Some r)
SeeksAs p n last d next (Ok None) =
    (ts : List ℕ) × AreSlices (project_of d) p n (last ∷ ts) (project_of d).horizon × IsSettledBySlices (last ∷ ts) d next
SeeksAs p n last d next (Err fault) =
    (ts : List ℕ) × (end : ℕ) × AreSlices (project_of d) p n (last ∷ ts) end × (end ≤ (project_of d).horizon)
    × IsPartlySettledBySlices (last ∷ ts) d next × (IsClockSpent fault → IsSpentTo (Some end) next)
