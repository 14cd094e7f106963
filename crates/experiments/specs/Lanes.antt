-- Where the bars of references stand in a space-time diagram, so that those of a processor that wait at once stand in different lanes.
use Rattle.std.specs.Prelude.{ℕ, ◌+◌, ◌-◌, ◌%◌, ◌==◌, Bool, false, if◌then◌else◌, List, [], ◌∷◌, filter, map, max, min, sum, take, Option, None, Some, slice_get}
use Rattle.omega_net.specs.Wires.{below}
use Rattle.omega_net.specs.declared.message.Tag.{Tag}
use Rattle.run_queries.specs.declared.body.Received.{Received}
use Rattle.experiments.specs.declared.order.Issue.{Issue}
use Rattle.experiments.specs.declared.order.OrderRow.{OrderRow}
use Rattle.experiments.specs.Orders.{is_open_from}

-- the greatest of the numbers of some things; 0 of none
abbrev pub greatest : {T : Type 0} → (T → ℕ) → List T → ℕ
greatest f [] = 0
greatest f (x ∷ xs) = max (f x) (greatest f xs)

-- whether a reference with this reply was still waiting at an issue
abbrev pub was_open_at : Option Issue → Option Received → Bool
was_open_at None reply = false
was_open_at (Some i) reply = is_open_from i.cycle reply

-- how many references there are from one on to another, by their issue numbers, where the other was issued while the one waited
abbrev pub reach_to : OrderRow → OrderRow → ℕ
reach_to r s = if was_open_at s.issue r.reply then s.tag.issue + 1 - r.tag.issue else 0

-- the references of a processor
abbrev pub rows_of : ℕ → List OrderRow → List OrderRow
rows_of p rows = filter (λ r. r.tag.proc == p) rows

-- so many lanes are enough for some references of one processor, each in the lane of its issue number modulo that many
abbrev pub most_reach : List OrderRow → ℕ
most_reach rows = greatest (λ r. greatest (reach_to r) rows) rows

-- the lanes of a processor: 1 at least, and 512 at most
abbrev pub most_lanes : ℕ
most_lanes = 512

abbrev pub lane_count : List OrderRow → ℕ → ℕ
lane_count rows p = max (min (most_reach (rows_of p rows)) most_lanes) 1

-- those of each processor
abbrev pub lane_counts : ℕ → List OrderRow → List ℕ
lane_counts processors rows = map (lane_count rows) (below processors)

-- the lane of an issue number among those of its processor
abbrev pub own_lane : ℕ → Option ℕ → ℕ
own_lane issue None = 0
own_lane issue (Some count) = issue % max count 1

-- the lane of a reference among those of all processors, one processor's behind another's
abbrev pub lane_of : List ℕ → Tag → ℕ
lane_of counts t = sum (take t.proc counts) + own_lane t.issue (slice_get counts t.proc)
