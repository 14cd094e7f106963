-- What is answered to a query of a project: a look-up in its run, or the first reason against it.
use Rattle.std.specs.Prelude.{ℕ, zero, suc, ◌+◌, ◌==◌, nat_le, nat_lt, Bool, false, if◌then◌else◌, List, Option, None, Some, Result, Ok, Err}
use Rattle.std.specs.Option.{option_map, unwrap_or}
use Rattle.page_map.specs.Limits.{address_count}
use Rattle.omega_net.specs.declared.message.Reply.{Reply}
use Rattle.omega_net.specs.declared.message.Tag.{Tag}
use Rattle.omega_net.specs.Numbers.{lines, components}
use Rattle.omega_net.specs.Ports.{message_at}
use Rattle.mem_module.specs.Memory.{word_at}
use Rattle.project_book.specs.Project.{Project, place_in}
use Rattle.machine_cells.specs.declared.state.MachineState.{MachineState}
use Rattle.machine_cells.specs.declared.state.MachineState.TheVariants.{Proc, Module}
use Rattle.machine_cells.specs.Cycle.{blank_of}
use Rattle.machine_cells.specs.Run.{run}
use Rattle.machine_cells.specs.Runs.{state_in}
use Rattle.monitor_sums.specs.Sums.{sum_of, profile_of}
use Rattle.saturation.specs.Levels.{level}
use Rattle.saturation.specs.Trees.{tree}
use Rattle.saturation.specs.Bound.{bound}
use Rattle.serial_order.specs.Order.{order_of}
use Rattle.run_queries.specs.Queries.{bad_query}
use Rattle.run_queries.specs.declared.query.Query.{Query}
use Rattle.run_queries.specs.declared.query.Query.TheVariants.{Reply as ReplyTo, State as StateOf, Memory as MemoryAt, Counter as CountOf, Profile as ProfileOf, Tree as TreeOf, Level as LevelOf, Bound as BoundOf, Place as PlaceOf, Order as OrderOf}
use Rattle.run_queries.specs.declared.body.Body.{Body}
use Rattle.run_queries.specs.declared.body.Body.TheVariants.{Reply as Replied, State as Is, Word as Holds, Count as Counts, Profile as HasProfile, Tree as Grows, Level as IsAt, Fraction as IsFraction, Place as StandsAt, Order as IsOrder}
use Rattle.run_queries.specs.declared.body.Received.{Received}

-- whether a processor issued a reference in the last step
abbrev pub has_sent : Option MachineState → Bool
has_sent (Some (Proc s)) = s.sent
has_sent _ = false

-- how many references it issued in the cycles before t
abbrev pub issued : (ℕ → Option MachineState) → ℕ → ℕ
issued at zero = 0
issued at (suc t) = issued at t + (if has_sent (at t) then 1 else 0)

abbrev pub first_of : {T : Type 0} → Option T → Option T → Option T
first_of (Some x) other = Some x
first_of None other = other

-- the word with which a message answers issue n, if it does
abbrev pub word_for : ℕ → Option Reply → Option ℕ
word_for n None = None
word_for n (Some y) = if y.tag.issue == n then Some y.word else None

-- the word that a processor received for issue n in the last step, if it did
abbrev pub word_got : ℕ → Option MachineState → Option ℕ
word_got n (Some (Proc s)) = first_of (word_for n (message_at s.got 0)) (word_for n (message_at s.got 1))
word_got n _ = None

abbrev pub received : ℕ → ℕ → Option MachineState → Option Received
received n t s = option_map (λ w. record { cycle = t; word = w }) (word_got n s)

-- the first reply that it received for issue n, in the cycles before t
abbrev pub first_reply : (ℕ → Option MachineState) → ℕ → ℕ → Option Received
first_reply at n zero = None
first_reply at n (suc t) = first_of (first_reply at n t) (received n t (at t))

-- the word in a row of a module's state
abbrev pub word_in : Option MachineState → ℕ → ℕ
word_in (Some (Module s)) row = word_at s.words row
word_in _ row = 0

-- a bound; 6 where there is none
abbrev pub fraction : Option (ℕ × ℕ) → Result Body ℕ
fraction (Some x) = Ok (IsFraction x.0 x.1)
fraction None = Err 6

-- an order; 3 where there is no such address
abbrev pub listed : Option (List Tag) → Result Body ℕ
listed (Some tags) = Ok (IsOrder tags)
listed None = Err 3

-- what these states, by cycle and component, say to a query; 4 where the processor has issued no such reference; an order is
-- that of the run, whatever the states
abbrev pub found_in : (ℕ → ℕ → Option MachineState) → Project → Query → Result Body ℕ
found_in at P (ReplyTo p n) =
    if nat_lt n (issued (λ t. at t p) (suc P.horizon)) then Ok (Replied (first_reply (λ t. at t p) n (suc P.horizon))) else Err 4
found_in at P (StateOf c t) = Ok (Is (unwrap_or (at t c) (blank_of None)))
found_in at P (MemoryAt a t) = Ok (Holds (word_in (at t (lines P.k + (place_in P a).«module»)) (place_in P a).row))
found_in at P (CountOf counter who from to) = Ok (Counts (sum_of P.k counter at who from to))
found_in at P (ProfileOf net s) = Ok (HasProfile (profile_of P.k at net s P.horizon))
found_in at P (TreeOf net m) = Ok (Grows (tree P net m at))
found_in at P (LevelOf net m t) = Ok (IsAt (level P net m (at t)))
found_in at P (BoundOf a b p) = fraction (bound a b p)
found_in at P (PlaceOf a) = Ok (StandsAt (place_in P a))
found_in at P (OrderOf a) = listed (order_of P a)

abbrev pub unless : Option ℕ → Result Body ℕ → Result Body ℕ
unless None says = says
unless (Some n) says = Err n

-- `answer`: what the run says, or the first reason against the query
abbrev pub answer : Project → Query → Result Body ℕ
answer P q = unless (bad_query P q) (found_in (state_in (run P)) P q)
