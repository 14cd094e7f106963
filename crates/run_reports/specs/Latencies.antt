-- How long the references of a run took that meet a condition.
use Rattle.std.specs.Prelude.{◌≡◌, ◌<◌, ◌≤◌, ℕ, ◌+◌, ◌-◌, ◌^◌, ◌==◌, ◌&&◌, is_none, Bool, false, if◌then◌else◌, List, Option, None, Some, length, slice_index, sum}
use Rattle.std.specs.List.{count_by}
use Rattle.project_book.specs.Project.{Project}
use Rattle.machine_cells.specs.Run.{run}
use Rattle.machine_cells.specs.Runs.{state_in}
use Rattle.run_reports.specs.declared.condition.Condition.{Condition}
use Rattle.run_reports.specs.declared.latency.Latencies.{Latencies}
use Rattle.run_reports.specs.declared.reference.Reference.{Reference}
use Rattle.run_reports.specs.Conditions.{meets}
use Rattle.run_reports.specs.References.{references}

-- the cycles from the state that shows a reference issued to the one that shows its reply, where one does
abbrev pub cycles_to : ℕ → Option ℕ → Option ℕ
cycles_to u None = None
cycles_to u (Some t) = Some (t - u)

abbrev pub latency : Reference → Option ℕ
latency r = cycles_to r.issued r.answered

-- whether that is d
abbrev pub is_latency : ℕ → Option ℕ → Bool
is_latency d None = false
is_latency d (Some n) = n == d

-- no latency is longer
abbrev pub IsWithin : ℕ → Reference → Type 0
IsWithin longest r = (d : ℕ) → latency r ≡ Some d → d ≤ longest

-- one more where it is so
abbrev pub one_if : Bool → ℕ
one_if b = if b then 1 else 0

-- whether a reference meets a condition and took d cycles; and whether it meets it and has no reply
abbrev pub took : Condition → ℕ → Reference → Bool
took c d r = meets c r && is_latency d (latency r)

abbrev pub has_no_reply : Condition → Reference → Bool
has_no_reply c r = meets c r && is_none r.answered

-- for each latency up to a longest one, how many of some references meet a condition and took that long, and how many meet it and
-- have no reply: together these are all that meet it
pub record AreCounted (c : Condition) (longest : ℕ) (refs : List Reference) (l : Latencies) : Type 0 where
  pub many : length l.histogram.items ≡ longest + 1
  pub each : (d : ℕ) → d ≤ longest → slice_index l.histogram.items d ≡ count_by (took c d) refs
  pub unanswered : l.unanswered ≡ count_by (has_no_reply c) refs
  pub all : sum l.histogram.items + l.unanswered ≡ count_by (meets c) refs

-- these are those of the run of a project
abbrev pub AreLatencies : Project → Condition → Latencies → Type 0
AreLatencies P c l = AreCounted c P.horizon (references P (state_in (run P))) l

-- there are so few that their figures fit
pub record AreFew (l : Latencies) : Type 0 where
  pub short : length l.histogram.items < 2 ^ 16
  pub few : sum l.histogram.items < 2 ^ 32
