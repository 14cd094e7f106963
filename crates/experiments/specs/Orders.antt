-- The one order of a run's references, with the cycles that each took.
use Rattle.std.specs.Prelude.{ℕ, zero, suc, ◌+◌, ◌-◌, ◌*◌, ◌/◌, ◌%◌, ◌^◌, ◌==◌, ◌&&◌, nat_le, Bool, true, false, if◌then◌else◌, List, [], ◌∷◌, map, filter, Option, None, Some, option_map}
use Rattle.std.specs.List.{flat_map}
use Rattle.page_map.specs.Limits.{page_words}
use Rattle.page_map.specs.Places.{Page}
use Rattle.page_map.specs.declared.place.Place.{Place}
use Rattle.omega_net.specs.Wires.{below}
use Rattle.omega_net.specs.declared.message.Tag.{Tag}
use Rattle.ref_proc.specs.declared.state.Outgoing.{Outgoing}
use Rattle.project_book.specs.Project.{Project, page_of}
use Rattle.machine_cells.specs.declared.state.MachineState.{MachineState}
use Rattle.machine_cells.specs.declared.state.MachineState.TheVariants.{Proc}
use Rattle.serial_order.specs.OneOrder.{all_now}
use Rattle.run_queries.specs.Answers.{first_of, first_reply}
use Rattle.run_queries.specs.declared.body.Received.{Received}
use Rattle.experiments.specs.declared.order.Issue.{Issue}
use Rattle.experiments.specs.declared.order.Service.{Service}
use Rattle.experiments.specs.declared.order.OrderRow.{OrderRow}

-- the address of a place, by how its page is spread
abbrev pub address_on : Page → Place → ℕ
address_on page x = page_words * (x.row / page_words) + x.row % page_words * 2 ^ page.amount + (x.«module» - page.base)

abbrev pub address_at : Project → Place → ℕ
address_at P x = address_on (page_of P (x.row / page_words)) x

-- the place that a processor's state shows a reference to have just been issued for, as the one with issue number n
abbrev pub place_out : ℕ → Option Outgoing → Option Place
place_out n None = None
place_out n (Some o) = if o.request.tag.issue == n then Some o.request.place else None

abbrev pub place_sent : ℕ → Option MachineState → Option Place
place_sent n (Some (Proc s)) = if s.sent then place_out n s.out else None
place_sent n _ = None

abbrev pub issued_in : Project → ℕ → ℕ → Option MachineState → Option Issue
issued_in P n t s = option_map (λ x. record { cycle = t; place = x; address = address_at P x }) (place_sent n s)

-- the first cycle before t in which a processor had just issued its reference n, with the reference's place and address
abbrev pub first_issue : Project → (ℕ → Option MachineState) → ℕ → ℕ → Option Issue
first_issue P at n zero = None
first_issue P at n (suc t) = first_of (first_issue P at n t) (issued_in P n t (at t))

-- what is served in each step, with the cycle after it: by cycle, and in a cycle by module
abbrev pub service_at : ℕ → Tag → Service
service_at cycle tag = record { cycle = cycle; tag = tag }

abbrev pub step_services : Project → (ℕ → ℕ → Option MachineState) → ℕ → List Service
step_services P at t = map (service_at (t + 1)) (all_now P (at t))

abbrev pub services : Project → (ℕ → ℕ → Option MachineState) → List Service
services P at = flat_map (step_services P at) (below P.horizon)

-- a reference by its number: where and when it was issued, when it was served, and the first reply to it
abbrev pub row_of : Project → (ℕ → ℕ → Option MachineState) → ℕ → Service → OrderRow
row_of P at n s = record {
  number = n;
  tag = s.tag;
  issue = first_issue P (λ t. at t s.tag.proc) s.tag.issue (suc P.horizon);
  served = s.cycle;
  reply = first_reply (λ t. at t s.tag.proc) s.tag.issue (suc P.horizon);
}

abbrev pub rows_from : Project → (ℕ → ℕ → Option MachineState) → ℕ → List Service → List OrderRow
rows_from P at n [] = []
rows_from P at n (s ∷ rest) = row_of P at n s ∷ rows_from P at (n + 1) rest

-- all references that were served, numbered from 1
abbrev pub order_rows : Project → (ℕ → ℕ → Option MachineState) → List OrderRow
order_rows P at = rows_from P at 1 (services P at)

-- those that were issued by the end of a window of cycles, and not answered before it begins
abbrev pub is_issued_by : ℕ → Option Issue → Bool
is_issued_by to None = false
is_issued_by to (Some i) = nat_le i.cycle to

abbrev pub is_open_from : ℕ → Option Received → Bool
is_open_from from None = true
is_open_from from (Some y) = nat_le from y.cycle

abbrev pub is_shown : ℕ → ℕ → OrderRow → Bool
is_shown from to r = is_issued_by to r.issue && is_open_from from r.reply

abbrev pub rows_shown : ℕ → ℕ → List OrderRow → List OrderRow
rows_shown from to rows = filter (is_shown from to) rows
