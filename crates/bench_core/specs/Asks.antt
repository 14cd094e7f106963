-- What a query of a bench is answered.
use Rattle.std.specs.Prelude.{◌≡◌, ℕ, zero, suc, ◌+◌, ◌<◌, ◌≤◌, Bool, Option, None, Some, Result, Ok, Err}
use Rattle.due_cells.specs.Seen.{due_at}
use Rattle.due_cells.specs.Cones.{count_to, count_cone}
use Rattle.grid_law.specs.Run.{run}
use Rattle.omega_net.specs.Numbers.{lines, components}
use Rattle.machine_cells.specs.GridRules.{rp3_rules}
use Rattle.machine_cells.specs.Run.{run as machine_run}
use Rattle.machine_cells.specs.Runs.{state_in}
use Rattle.project_book.specs.Project.{Project, place_in}
use Rattle.run_queries.specs.declared.query.Query.{Query}
use Rattle.run_queries.specs.declared.query.Query.TheVariants.{Order}
use Rattle.run_queries.specs.declared.query.Reach.{Reach}
use Rattle.run_queries.specs.declared.query.Reach.TheVariants.{Nothing, State, Word, To}
use Rattle.run_queries.specs.Queries.{last_of, reach, bad_query}
use Rattle.run_queries.specs.declared.body.Body.{Body}
use Rattle.run_queries.specs.Answers.{found_in, answer}
use Rattle.bench_core.specs.declared.asked.Asked.{Asked}
use Rattle.bench_core.specs.declared.asked.Asked.TheVariants.{Answer, Pending, BadQuery, Memory}
use Rattle.bench_core.specs.Shown.{Shown, project_of, version_of, held}

-- the number of the module in which an address stands
abbrev pub module_of : Project → ℕ → ℕ
module_of P a = lines P.k + (place_in P a).«module»

-- how many of these cells, and of those that they rest on, pass the test: those in the cone of the component's or the module's cell,
-- or all up to a cycle
abbrev pub waits_for : Project → (ℕ → ℕ → Bool) → Reach → ℕ
waits_for P test Nothing = 0
waits_for P test (State c t) = count_cone rp3_rules P P.horizon test t c
waits_for P test (Word a t) = count_cone rp3_rules P P.horizon test t (module_of P a)
waits_for P test (To t) = count_to rp3_rules P P.horizon test t

-- how many cells that pass the test the answer waits for
abbrev pub waits : Project → (ℕ → ℕ → Bool) → Query → ℕ
waits P test q = waits_for P test (reach P q)

-- the last cycle of the cells that the answer waits for; none where it waits for no cell
abbrev pub last_cycle : Project → Query → Option ℕ
last_cycle P q = last_of (reach P q)

-- there is no such cycle, or it is at most that one
abbrev pub IsUpTo : Option ℕ → ℕ → Type 0
IsUpTo None last = Unit {0}
IsUpTo (Some t) last = t ≤ last

-- how many due cells it waits for
abbrev pub pending : Shown → Query → ℕ
pending b q = waits (project_of b) (due_at b.table.rows) q

-- an answer at a version
abbrev pub told : ℕ → Result Body ℕ → Asked
told version (Ok body) = Answer version body
told version (Err n) = BadQuery n

abbrev pub told_unless : ℕ → Asked → Asked
told_unless zero says = says
told_unless (suc n) says = Pending (suc n)

abbrev pub asked_unless : Option ℕ → Asked → Asked
asked_unless (Some n) says = BadQuery n
asked_unless None says = says

-- the reason against the query that its numbers give; else how many due cells it waits for, where there are any; else
-- the answer, issue numbers that weren't reached included
abbrev pub asked_at : Project → ℕ → ℕ → Query → Asked
asked_at P version waiting q = asked_unless (bad_query P q) (told_unless waiting (told version (answer P q)))

abbrev pub asked : Shown → Query → Asked
asked b q = asked_at (project_of b) (version_of b) (pending b q) q

-- want of memory stands in the place of an answer or of a number of due cells, and of nothing else
abbrev pub MayWant : Asked → Type 0
MayWant (Answer version body) = Unit {0}
MayWant (Pending n) = Unit {0}
MayWant (BadQuery n) = ⊥
MayWant Memory = ⊥

abbrev pub IsOrWants : Asked → Asked → Type 0
IsOrWants says Memory = MayWant says
IsOrWants says result = result ≡ says

abbrev pub AsksAs : Shown → Query → Asked → Type 0
AsksAs b q result = IsOrWants (asked b q) result

-- an answer at a version, or want of memory in the place of a body
abbrev pub TellsAs : ℕ → Result Body ℕ → Asked → Type 0
TellsAs version says result = IsOrWants (told version says) result

-- what the run says to the query, at the present version
abbrev pub TellsRun : Shown → Query → Asked → Type 0
TellsRun b q result = TellsAs (version_of b) (found_in (state_in (machine_run (project_of b))) (project_of b) q) result

-- each cell up to a cycle holds the run
abbrev pub HoldsRunTo : Shown → ℕ → Type 0
HoldsRunTo b end = (t c : ℕ) → t ≤ end → c < components (project_of b).k → held b.table t c ≡ Some (run rp3_rules (project_of b) t c)

-- these cells hold the run
abbrev pub HoldsRunAt : Shown → Reach → Type 0
HoldsRunAt b Nothing = Unit {0}
HoldsRunAt b (State c t) = held b.table t c ≡ Some (run rp3_rules (project_of b) t c)
HoldsRunAt b (Word a t) =
    (module_of (project_of b) a < components (project_of b).k)
    × (held b.table t (module_of (project_of b) a) ≡ Some (run rp3_rules (project_of b) t (module_of (project_of b) a)))
HoldsRunAt b (To t) = HoldsRunTo b t

-- the cells that the answer looks at hold the run; an order is read from a run of its own where they don't
abbrev pub IsUpToDate : Shown → Query → Type 0
IsUpToDate b (Order a) = Unit {0}
IsUpToDate b q = HoldsRunAt b (reach (project_of b) q)

-- that is one cell
abbrev pub IsOneCell : Reach → Type 0
IsOneCell Nothing = ⊥
IsOneCell (State c t) = Unit {0}
IsOneCell (Word a t) = Unit {0}
IsOneCell (To t) = ⊥
