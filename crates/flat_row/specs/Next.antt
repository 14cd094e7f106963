-- One component a cycle later, where a module's memory may be handed over in place of the one that the row holds.
use Rattle.std.specs.Prelude.{◌≡◌, ◌≢◌, ℕ, ◌++◌, length, replicate, List, Option, None, Some, slice_index_or, slice_set, option_to_list}
use Rattle.omega_net.specs.declared.component.Component.{Component}
use Rattle.omega_net.specs.declared.message.Request.{Request}
use Rattle.omega_net.specs.declared.message.Reply.{Reply}
use Rattle.omega_net.specs.Numbers.{number_of}
use Rattle.omega_net.specs.Ports.{empty}
use Rattle.mem_module.specs.declared.words.Stored.{Stored}
use Rattle.mem_module.specs.declared.state.ModuleState.{ModuleState}
use Rattle.mem_module.specs.Memory.{word_at, with_word}
use Rattle.machine_cells.specs.declared.state.MachineState.{MachineState}
use Rattle.machine_cells.specs.Cycle.{blank_of, cycle, part_of}
use Rattle.machine_cells.specs.Moves.{moves}
use Rattle.project_book.specs.Project.{Project}
use Rattle.machine_cells.specs.Words.{memory_of, with_memory}
use Rattle.flat_row.specs.declared.next.after.After.{After}
use Rattle.flat_row.specs.declared.marks.Rule.{Rule}
use Rattle.flat_row.specs.Queues.{Queues}
use Rattle.flat_row.specs.Row.{Arrays, Buffers, module_of, no_bit, state_of, states_of}

-- a state where a module has the memory that is handed over, if any is
abbrev pub given : Option (List Stored) → MachineState → MachineState
given None s = s
given (Some memory) s = with_memory memory s

-- the whole state that a row is, where the component has the memory that is handed over
abbrev pub states_given : Arrays → Component → Option (List Stored) → List MachineState
states_given R c memory = slice_set (states_of R) (number_of R.k c) (given memory (state_of R (Some c)))

-- the component one cycle later
abbrev pub next_state : Project → Arrays → Component → Option (List Stored) → MachineState
next_state P R c memory = slice_index_or (cycle P (states_given R c memory)) (number_of R.k c) (blank_of (Some c))

-- the same, by what moves in the row's own states: a memory isn't seen on the wires
abbrev pub part_given : Project → Arrays → Component → Option (List Stored) → MachineState
part_given P R c memory = part_of P (moves P (states_of R)) (Some c) (given memory (state_of R (Some c)))

-- the memory that it has before
abbrev pub memory_given : Arrays → Component → Option (List Stored) → List Stored
memory_given R c memory = memory_of (given memory (state_of R (Some c)))

-- a memory in which this was left, or nothing
abbrev pub memory_left : List Stored → Option Stored → List Stored
memory_left ws None = ws
memory_left ws (Some w) = with_word ws w.row w.word

-- what is left is another word than the one that was there
abbrev pub IsAnother : List Stored → Option Stored → Type 0
IsAnother ws None = Unit {0}
IsAnother ws (Some w) = w.word ≢ word_at ws w.row

-- a module where it has the memory that is handed over, if any is
abbrev pub module_given : Arrays → ℕ → Option (List Stored) → ModuleState
module_given R m None = module_of R m
module_given R m (Some memory) = record (module_of R m) { words = memory }

-- the messages of a queue one cycle later: those that stay, and those that come
abbrev pub waiting : {T : Type 0} → After T → List T
waiting a = a.stay.now ++ option_to_list a.first ++ option_to_list a.second

-- what queues are asked where nobody asks them anything
abbrev pub plain_rule : Rule
plain_rule = record { depth = 16; two = 2; one = 1; by = no_bit }

-- queues and a wait buffer for each label, beside a row
pub record Aside : Type 0 where
  pub requests : Queues Request
  pub replies : Queues Reply
  pub waits : Buffers

-- all of them are there
pub record HasAll (a : Aside) : Type 0 where
  pub requests : length a.requests.queues ≡ 64
  pub replies : length a.replies.queues ≡ 64
  pub entries : length a.waits.entries ≡ 64

-- nothing waits in them
abbrev pub nothing_aside : Aside
nothing_aside = record {
  requests = record { queues = replicate 64 empty; rule = plain_rule };
  replies = record { queues = replicate 64 empty; rule = plain_rule };
  waits = record { entries = replicate 64 empty; once = 0; twice = 0 };
}
