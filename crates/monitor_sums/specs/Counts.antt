-- The counters: what each counts in a state, its name, and its part of what is kept.
use Rattle.std.specs.Prelude.{ℕ, ◌+◌, ◌<◌, Bool, if◌then◌else◌, List, [], ◌∷◌, length, slice_index, Option, None, Some, is_some, codes, bytes_eq}
use Rattle.std.specs.List.{find}
use Rattle.arrayvec.specs.ArrayVec.{ArrayVec}
use Rattle.omega_net.specs.Ports.{queue_at, message_at}
use Rattle.machine_cells.specs.declared.state.MachineState.{MachineState}
use Rattle.machine_cells.specs.declared.state.MachineState.TheVariants.{Proc, Module, Low, Comb}
use Rattle.monitor_sums.specs.declared.counter.Counter.{Counter}
use Rattle.monitor_sums.specs.declared.counter.Counter.TheVariants.{Issued, Answered, Served, Combined, Waiting}
use Rattle.monitor_sums.specs.declared.counted.Counted.{Counted}
use Rattle.monitor_sums.specs.declared.counted.Tally.{Tally}
use Rattle.monitor_sums.specs.Limits.{profile_lengths}

-- a counter's name
abbrev pub counter_name : Counter → List ℕ
counter_name Issued = codes "issued"
counter_name Answered = codes "answered"
counter_name Served = codes "served"
counter_name Combined = codes "combined"
counter_name Waiting = codes "waiting"

-- all counters
abbrev pub counters : List Counter
counters = Issued ∷ Answered ∷ Served ∷ Combined ∷ Waiting ∷ []

-- the counter of that name, if there is one
abbrev pub counter_named : List ℕ → Option Counter
counter_named text = find (λ counter. bytes_eq (counter_name counter) text) counters

-- 1 for what is so
abbrev pub one : Bool → ℕ
one b = if b then 1 else 0

-- the references that a processor issued in the last step
abbrev pub issued : MachineState → ℕ
issued (Proc s) = one s.sent
issued _ = 0

-- the replies that it received in it
abbrev pub answered : MachineState → ℕ
answered (Proc s) = one (is_some (message_at s.got 0)) + one (is_some (message_at s.got 1))
answered _ = 0

-- the requests that a module served in it
abbrev pub served : MachineState → ℕ
served (Module s) = one s.served
served _ = 0

-- the requests that a combining switch combined in it
abbrev pub combined : MachineState → ℕ
combined (Comb s) = s.combined
combined _ = 0

-- the messages in two queues
abbrev pub in_queues : {T : Type 0} → List (ArrayVec T) → ℕ
in_queues qs = length (queue_at qs 0).items + length (queue_at qs 1).items

-- the requests and replies that wait in a component's queues
abbrev pub waiting : MachineState → ℕ
waiting (Proc s) = one (is_some s.out)
waiting (Module s) = in_queues s.requests + in_queues s.replies
waiting (Low s) = in_queues s.fwd + in_queues s.rev
waiting (Comb s) = in_queues s.fwd + in_queues s.rev

-- what a state counts
abbrev pub count_in : Counter → MachineState → ℕ
count_in Issued s = issued s
count_in Answered s = answered s
count_in Served s = served s
count_in Combined s = combined s
count_in Waiting s = waiting s

-- what a cell counts; one without a state counts 0
abbrev pub count : Counter → Option MachineState → ℕ
count counter None = 0
count counter (Some s) = count_in counter s

-- the lengths of two queues
abbrev pub lengths : {T : Type 0} → List (ArrayVec T) → List ℕ
lengths qs = length (queue_at qs 0).items ∷ length (queue_at qs 1).items ∷ []

-- the lengths of the output queues of a switch
abbrev pub output_lengths : Option MachineState → Option (List ℕ)
output_lengths (Some (Low s)) = Some (lengths s.fwd)
output_lengths (Some (Comb s)) = Some (lengths s.fwd)
output_lengths _ = None

-- what is kept of a cell: what it counts, and the lengths of its output queues
abbrev pub counted : Option MachineState → Counted
counted s = record {
  issued = count Issued s;
  answered = count Answered s;
  served = count Served s;
  combined = count Combined s;
  waiting = count Waiting s;
  lengths = output_lengths s;
}

-- of a cell without a state
abbrev pub nothing : Counted
nothing = counted None

-- what a cell counted
abbrev pub part : Counter → Counted → ℕ
part Issued x = x.issued
part Answered x = x.answered
part Served x = x.served
part Combined x = x.combined
part Waiting x = x.waiting

-- queues have at most 16 places
abbrev pub AreShort : Option (List ℕ) → Type 0
AreShort None = Unit {0}
AreShort (Some ls) = (slice_index ls 0 < profile_lengths) × (slice_index ls 1 < profile_lengths)

-- counts fit a byte
pub record IsSmall (x : Counted) : Type 0 where
  pub issued : x.issued < 256
  pub answered : x.answered < 256
  pub served : x.served < 256
  pub combined : x.combined < 256
  pub waiting : x.waiting < 256
  pub lengths : AreShort x.lengths

-- what a tally has of it
abbrev pub tallied : Counter → Tally → ℕ
tallied Issued x = x.issued
tallied Answered x = x.answered
tallied Served x = x.served
tallied Combined x = x.combined
tallied Waiting x = x.waiting

-- a tally of nothing
abbrev pub none : Tally
none = record { issued = 0; answered = 0; served = 0; combined = 0; waiting = 0 }
