-- The counters: names are read back, and what is kept of a cell is what it counts, and small.
use Rattle.std.proofs.Common.{◌≡◌, ◌<◌, Option, Some, refl, arith}
use Rattle.machine_cells.specs.declared.state.MachineState.{MachineState}
use Rattle.monitor_sums.specs.declared.counter.Counter.{Counter}
use Rattle.monitor_sums.specs.declared.counter.Counter.TheVariants.{Issued, Answered, Served, Combined, Waiting}
use Rattle.monitor_sums.specs.declared.counted.Counted.{Counted}
use Rattle.monitor_sums.specs.Counts.{counter_name, counter_named, count, counted, nothing, part, tallied, none, IsSmall}

-- a counter's name is read as that counter
pub name_read : (counter : Counter) → counter_named (counter_name counter) ≡ Some counter
name_read Issued = refl
name_read Answered = refl
name_read Served = refl
name_read Combined = refl
name_read Waiting = refl

pub part_small : (counter : Counter) (x : Counted) → IsSmall x → part counter x < 256
part_small Issued x small = small.issued
part_small Answered x small = small.answered
part_small Served x small = small.served
part_small Combined x small = small.combined
part_small Waiting x small = small.waiting

-- a part of what a state counts is what it counts
pub part_counted : (counter : Counter) (s : Option MachineState) → part counter (counted s) ≡ count counter s
part_counted Issued s = refl
part_counted Answered s = refl
part_counted Served s = refl
part_counted Combined s = refl
part_counted Waiting s = refl

-- a cell without a state counts nothing
pub part_nothing : (counter : Counter) → part counter nothing ≡ 0
part_nothing Issued = refl
part_nothing Answered = refl
part_nothing Served = refl
part_nothing Combined = refl
part_nothing Waiting = refl

pub small_nothing : IsSmall nothing
small_nothing = record { issued = omega arith; answered = omega arith; served = omega arith; combined = omega arith; waiting = omega arith; lengths = tt }

-- nor does a tally of nothing
pub tallied_none : (counter : Counter) → tallied counter none ≡ 0
tallied_none Issued = refl
tallied_none Answered = refl
tallied_none Served = refl
tallied_none Combined = refl
tallied_none Waiting = refl
