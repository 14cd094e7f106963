-- What a project says to a question or a report, and how it stands in a table.
use Rattle.std.specs.Prelude.{◌≡◌, ℕ, ◌&&◌, nat_le, Bool, true, false, List, ◌++◌, length, map, MatchBool, Option, None, Some, option_to_list, Result, Ok, Err}
use Rattle.std.specs.List.{flat_map, AllZip}
use Rattle.project_book.specs.Project.{Project}
use Rattle.machine_cells.specs.Run.{run}
use Rattle.machine_cells.specs.Runs.{state_in}
use Rattle.run_queries.specs.declared.body.Body.{Body}
use Rattle.run_queries.specs.Answers.{answer}
use Rattle.run_reports.specs.declared.completion.Event.{Event}
use Rattle.run_reports.specs.declared.completion.Event.TheVariants.{LastReply, ScriptEnd}
use Rattle.run_reports.specs.declared.condition.Heat.{Heat}
use Rattle.run_reports.specs.declared.condition.Window.{Window}
use Rattle.run_reports.specs.declared.full_queues.FirstFull.{FirstFull}
use Rattle.run_reports.specs.declared.latency.Latencies.{Latencies}
use Rattle.run_reports.specs.declared.spread.Spread.{Spread}
use Rattle.run_reports.specs.Completions.{completions, cycles_of, spread_of}
use Rattle.run_reports.specs.FullQueues.{first_fulls}
use Rattle.run_reports.specs.Latencies.{AreLatencies}
use Rattle.run_reports.specs.Texts.{summary_of}
use Rattle.lab_tasks.specs.declared.answered.Form.{Form}
use Rattle.lab_tasks.specs.declared.answered.Says.{Says}
use Rattle.lab_tasks.specs.declared.answered.Says.TheVariants as says
use Rattle.lab_tasks.specs.declared.asking.Asking.{Asking}
use Rattle.lab_tasks.specs.declared.asking.Asking.TheVariants as asking
use Rattle.lab_tasks.specs.declared.asking.LatencyAsk.{LatencyAsk}
use Rattle.lab_tasks.specs.Answered.{cells_of}
use Rattle.lab_tasks.specs.Latencies.{IsHeat}

-- an answer, or the number of the reason why there is none
abbrev pub says_of : Result Body ℕ → Says
says_of (Ok body) = says.Body body
says_of (Err n) = says.Bad n

-- the cycles of issue: up to the project's horizon where no last one is told
abbrev pub window_in : Project → Bool → Option Window → Window
window_in P ends None = record { from = 0; to = P.horizon }
window_in P false (Some w) = record { from = w.from; to = P.horizon }
window_in P true (Some w) = w

-- a project has these cycles
abbrev pub reaches : Project → Window → Bool
reaches P w = nat_le w.from P.horizon && nat_le w.to P.horizon

-- what it says of how long references took: the figures of those issued in these cycles; bad 2 where it hasn't them
abbrev pub IsSummary : Project → LatencyAsk → Window → Says → Type 0
IsSummary P ask w said =
    (heat : Option Heat) × IsHeat P ask.hot ask.cold heat × (l : Latencies)
    × AreLatencies P (record ask.condition { hot = heat; window = Some w }) l × (said ≡ says.Latency (summary_of l))

abbrev pub IsLatencySaid : Project → LatencyAsk → Window → Says → Type 0
IsLatencySaid P ask w said = MatchBool (reaches P w) (IsSummary P ask w said) (said ≡ says.Bad 2)

-- when its processors had an event
abbrev pub event_spread : Project → Event → Spread
event_spread P event = spread_of (cycles_of event (completions P (state_in (run P))))

-- the cycles at which queues first were full, of those that were; and what is said of all of them
abbrev pub full_cycles : List FirstFull → List ℕ
full_cycles fulls = flat_map (λ f. option_to_list f.cycle) fulls

abbrev pub fulls_said : List FirstFull → Says
fulls_said fulls = says.Full (spread_of (full_cycles fulls)) (length fulls)

-- WHAT A PROJECT SAYS to what is asked
abbrev pub IsSaid : Project → Asking → Says → Type 0
IsSaid P (asking.Query q) said = said ≡ says_of (answer P q)
IsSaid P (asking.Latency ask) said = IsLatencySaid P ask (window_in P ask.ends ask.condition.window) said
IsSaid P asking.Done said = said ≡ says.Done (event_spread P LastReply) (event_spread P ScriptEnd)
IsSaid P asking.Full said = said ≡ fulls_said (first_fulls P (state_in (run P)))

-- and what stands of it in the columns
abbrev pub Tells : Form → Project → Asking → List (Option (List ℕ)) → Type 0
Tells form P what cells = (said : Says) × IsSaid P what said × (cells ≡ cells_of form what said)

-- behind some words stands what a project says to each of some questions and reports
abbrev pub AreTold : Form → Project → List Asking → List (List ℕ) → List (List ℕ) → Type 0
AreTold form P askings words cells =
    (told : List (List (Option (List ℕ)))) × AllZip (Tells form P) askings told × (map Some cells ≡ map Some words ++ flat_map (λ part. part) told)
