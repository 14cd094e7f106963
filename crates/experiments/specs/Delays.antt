-- How long references wait for their replies.
use Rattle.std.specs.Prelude.{◌≡◌, ◌≤◌, ℕ, ◌+◌, ◌-◌, ◌^◌, ◌==◌, not, Bool, false, if◌then◌else◌, List, [], ◌++◌, Option, None, Some, slice_get, option_to_list, length, sum, Result, Ok, Err}
use Rattle.std.specs.List.{flat_map}
use Rattle.omega_net.specs.declared.message.Reply.{Reply}
use Rattle.omega_net.specs.declared.script.ScriptEntry.{ScriptEntry}
use Rattle.omega_net.specs.declared.script.ScriptEntry.TheVariants.{Reference, Until}
use Rattle.omega_net.specs.Ports.{message_at}
use Rattle.omega_net.specs.Wires.{below}
use Rattle.project_book.specs.Project.{Project, entry_at}
use Rattle.machine_cells.specs.declared.state.MachineState.{MachineState}
use Rattle.machine_cells.specs.declared.state.MachineState.TheVariants.{Proc}
use Rattle.machine_cells.specs.Run.{run}
use Rattle.machine_cells.specs.Runs.{state_in}
use Rattle.run_queries.specs.Answers.{has_sent}
use Rattle.experiments.specs.declared.load.Load.{Load}
use Rattle.experiments.specs.declared.delays.ColdWaits.{ColdWaits}
use Rattle.experiments.specs.declared.delays.Issue.{Issue}
use Rattle.experiments.specs.declared.fault.Fault.{Fault}
use Rattle.experiments.specs.declared.fault.Fault.TheVariants as fault
use Rattle.experiments.specs.Loads.{loaded, IsLoad}

-- whether an entry refers to another word than the hot one, which is word 0
abbrev pub is_cold : Option ScriptEntry → Bool
is_cold (Some (Reference sync op address times)) = not (address == 0)
is_cold (Some (Until sync op address value times)) = not (address == 0)
is_cold _ = false

-- the entry of its script that processor p in this state has come to
abbrev pub entry_of : Project → ℕ → Option MachineState → Option ScriptEntry
entry_of P p (Some (Proc s)) = entry_at P p s.index
entry_of P p _ = None

-- where the state of cycle u shows that processor p just issued a reference: that cycle, and whether the entry that it had
-- come to in the state before refers to another word than the hot one
abbrev pub issue_at : Project → (ℕ → ℕ → Option MachineState) → ℕ → ℕ → Option Issue
issue_at P at p u = if has_sent (at u p) then Some (record { cycle = u; cold = is_cold (entry_of P p (at (u - 1) p)) }) else None

-- its references of the cycles before t, upwards: at place n that of issue n
abbrev pub issues : Project → (ℕ → ℕ → Option MachineState) → ℕ → ℕ → List Issue
issues P at p t = flat_map (λ u. option_to_list (issue_at P at p u)) (below t)

-- the cycles up to t from the issue of a reference that isn't hot
abbrev pub since : ℕ → Option Issue → Option ℕ
since t None = None
since t (Some issue) = if issue.cold then Some (t - issue.cycle) else None

-- the cycles that a reply of cycle t took, where it is to a reference that isn't hot
abbrev pub waited : List Issue → ℕ → Option Reply → Option ℕ
waited issued t None = None
waited issued t (Some y) = since t (slice_get issued y.tag.issue)

-- those of the replies that a state shows to have come
abbrev pub waits_in : List Issue → ℕ → Option MachineState → List ℕ
waits_in issued t (Some (Proc s)) = option_to_list (waited issued t (message_at s.got 0)) ++ option_to_list (waited issued t (message_at s.got 1))
waits_in issued t _ = []

-- those of a processor's replies in a window of cycles, and of all processors' replies
abbrev pub waits_of : Project → (ℕ → ℕ → Option MachineState) → ℕ → ℕ → ℕ → List ℕ
waits_of P at from to p = flat_map (λ i. waits_in (issues P at p to) (i + from) (at (i + from) p)) (below (to + 1 - from))

abbrev pub waits : Project → (ℕ → ℕ → Option MachineState) → ℕ → ℕ → List ℕ
waits P at from to = flat_map (waits_of P at from to) (below (2 ^ P.k))

-- so many replies came to references that aren't hot, and took so many cycles in all, from a cycle to the last one in the
-- run of the load's project
abbrev pub IsWaited : Load → ℕ → ColdWaits → Type 0
IsWaited load from w =
    (w.count ≡ length (waits (loaded load) (state_in (run (loaded load))) from load.cycles))
    × (w.cycles ≡ sum (waits (loaded load) (state_in (run (loaded load))) from load.cycles))

-- there is a machine of the load, and it is run up to that cycle at least
abbrev pub IsRunTo : Load → ℕ → Type 0
IsRunTo load from = IsLoad load × (from ≤ load.cycles)

-- what is answered for a load: its waits; Load where there is no such run, and Memory only where there is
abbrev pub IsWaitedBy : Load → ℕ → Result ColdWaits Fault → Type 0
IsWaitedBy load from (Ok w) = IsWaited load from w
IsWaitedBy load from (Err fault.Load) = IsRunTo load from → ⊥
IsWaitedBy load from (Err fault.Memory) = IsRunTo load from
IsWaitedBy load from (Err _) = ⊥
