-- When each processor had its last reply, and when its script was at its end.
use Rattle.std.specs.Prelude.{ℕ, suc, ◌-◌, ◌^◌, ◌||◌, min, max, nat_le, Bool, false, List, [], ◌∷◌, Option, None, Some, is_some, length, map, option_to_list}
use Rattle.std.specs.List.{flat_map}
use Rattle.omega_net.specs.Ports.{message_at}
use Rattle.omega_net.specs.Wires.{below}
use Rattle.project_book.specs.Project.{Project, length_at}
use Rattle.machine_cells.specs.declared.state.MachineState.{MachineState}
use Rattle.machine_cells.specs.declared.state.MachineState.TheVariants.{Proc}
use Rattle.run_reports.specs.declared.completion.Completion.{Completion}
use Rattle.run_reports.specs.declared.completion.Event.{Event}
use Rattle.run_reports.specs.declared.completion.Event.TheVariants.{LastReply, ScriptEnd}
use Rattle.run_reports.specs.declared.spread.Spread.{Spread}
use Rattle.run_reports.specs.Figures.{first_that, last_that}

-- whether a state shows a reply to a processor, and whether it shows the processor behind all n entries of its script
abbrev pub has_reply : Option MachineState → Bool
has_reply (Some (Proc s)) = is_some (message_at s.got 0) || is_some (message_at s.got 1)
has_reply _ = false

abbrev pub has_ended : ℕ → Option MachineState → Bool
has_ended n (Some (Proc s)) = nat_le n s.index
has_ended n _ = false

-- of the cycles before t the last one whose state shows a reply to processor p, and the first one whose state shows its script at its end
abbrev pub completion_of : Project → (ℕ → ℕ → Option MachineState) → ℕ → ℕ → Completion
completion_of P at t p = record {
  proc = p;
  last_reply = last_that (λ u. has_reply (at u p)) t;
  script_end = first_that (λ u. has_ended (length_at P p) (at u p)) t;
}

-- those of all processors, in the cycles up to the horizon
abbrev pub completions : Project → (ℕ → ℕ → Option MachineState) → List Completion
completions P at = map (completion_of P at (suc P.horizon)) (below (2 ^ P.k))

-- the cycle of an event
abbrev pub cycle_of : Event → Completion → Option ℕ
cycle_of LastReply c = c.last_reply
cycle_of ScriptEnd c = c.script_end

-- the cycles of an event, of those processors that have one
abbrev pub cycles_of : Event → List Completion → List ℕ
cycles_of event cs = flat_map (λ c. option_to_list (cycle_of event c)) cs

-- the least and the greatest of some numbers
abbrev pub or_less : ℕ → Option ℕ → ℕ
or_less n None = n
or_less n (Some m) = min n m

abbrev pub or_more : ℕ → Option ℕ → ℕ
or_more n None = n
or_more n (Some m) = max n m

abbrev pub earliest : List ℕ → Option ℕ
earliest [] = None
earliest (t ∷ ts) = Some (or_less t (earliest ts))

abbrev pub latest : List ℕ → Option ℕ
latest [] = None
latest (t ∷ ts) = Some (or_more t (latest ts))

-- the cycles from one to another
abbrev pub cycles_between : Option ℕ → Option ℕ → Option ℕ
cycles_between (Some a) (Some b) = Some (b - a)
cycles_between a b = None

-- how many cycles these are, the earliest, the latest, and the cycles between them
abbrev pub spread_of : List ℕ → Spread
spread_of ts = record { number = length ts; earliest = earliest ts; latest = latest ts; between = cycles_between (earliest ts) (latest ts) }
