-- What is kept of a processor's part of a run, from which its waits are made.
use Rattle.std.specs.Prelude.{◌≡◌, ℕ, ◌-◌, ◌^◌, nat_le, if◌then◌else◌, List, [], ◌++◌, Option, None, Some, length, slice_get, option_to_list}
use Rattle.std.specs.List.{flat_map}
use Rattle.omega_net.specs.declared.message.Reply.{Reply}
use Rattle.omega_net.specs.Ports.{message_at}
use Rattle.omega_net.specs.Wires.{below}
use Rattle.ref_proc.specs.declared.state.ProcState.{ProcState}
use Rattle.project_book.specs.Project.{Project, entry_at}
use Rattle.machine_cells.specs.declared.state.MachineState.{MachineState}
use Rattle.machine_cells.specs.declared.state.MachineState.TheVariants.{Proc}
use Rattle.machine_cells.specs.Run.{run}
use Rattle.machine_cells.specs.Runs.{state_in}
use Rattle.experiments.specs.declared.delays.Came.{Came}
use Rattle.experiments.specs.declared.delays.Issue.{Issue}
use Rattle.experiments.specs.declared.delays.Log.{Log}
use Rattle.experiments.specs.Delays.{is_cold, issues, since}

-- where a processor's state shows at cycle t that it just issued a reference: that cycle, and whether the entry that it had come to
-- before, by its index, refers to another word than the hot one
abbrev pub issued_now : Project → ℕ → ℕ → ℕ → ProcState → Option Issue
issued_now P p i t s = if s.sent then Some (record { cycle = t; cold = is_cold (entry_at P p i) }) else None

-- a reply of cycle t, by the number of its reference
abbrev pub came_at : ℕ → Option Reply → Option Came
came_at t None = None
came_at t (Some y) = Some (record { cycle = t; issue = y.tag.issue })

-- those that a state shows to have come
abbrev pub came_in : ℕ → Option MachineState → List Came
came_in t (Some (Proc s)) = option_to_list (came_at t (message_at s.got 0)) ++ option_to_list (came_at t (message_at s.got 1))
came_in t _ = []

-- those of cycle t, where it isn't before another one; and those of the first n cycles
abbrev pub came_from : ℕ → (ℕ → Option MachineState) → ℕ → List Came
came_from from at t = if nat_le from t then came_in t (at t) else []

abbrev pub all_came : ℕ → (ℕ → Option MachineState) → ℕ → List Came
all_came from at n = flat_map (came_from from at) (below n)

-- the cycles that a reply took, where it is to a reference that isn't hot
abbrev pub wait_of : List Issue → Came → List ℕ
wait_of issued c = option_to_list (since c.cycle (slice_get issued c.issue))

-- a log has what processor p issued in the first n cycles of the run, and what it received in the first m of them, from a cycle on
pub record IsLog (P : Project) (from n m p : ℕ) (log : Log) : Type 0 where
  pub before : ProcState
  pub shows : state_in (run P) (n - 1) p ≡ Some (Proc before)
  pub index : log.index ≡ before.index
  pub issues : log.issues.items ≡ issues P (state_in (run P)) p n
  pub replies : log.replies.items ≡ all_came from (λ t. state_in (run P) t p) m

-- these are the logs of all processors
pub record AreLogs (P : Project) (from n m : ℕ) (logs : List Log) : Type 0 where
  pub many : length logs ≡ 2 ^ P.k
  pub each : (p : ℕ) (log : Log) → slice_get logs p ≡ Some log → IsLog P from n m p log
