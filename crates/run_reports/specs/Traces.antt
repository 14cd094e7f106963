-- Where a reference was at each cycle of a run: it, or the one that it was combined into.
use Rattle.std.specs.Prelude.{ℕ, zero, suc, ◌+◌, ◌-◌, ◌==◌, ◌&&◌, ◌||◌, Bool, false, if◌then◌else◌, List, [], ◌∷◌, ◌++◌, Option, None, Some, find, length, option_map, slice_get, slice_index_or, slice_set, unwrap_or}
use Rattle.std.specs.List.{list_any}
use Rattle.arrayvec.specs.ArrayVec.{ArrayVec}
use Rattle.omega_net.specs.declared.message.Tag.{Tag}
use Rattle.omega_net.specs.declared.message.Request.{Request}
use Rattle.omega_net.specs.declared.message.Reply.{Reply}
use Rattle.omega_net.specs.Numbers.{components}
use Rattle.omega_net.specs.Ports.{message_at, queue_at, same_tag}
use Rattle.comb_switch.specs.declared.waiting.Waiting.{Waiting}
use Rattle.ref_proc.specs.declared.state.Outgoing.{Outgoing}
use Rattle.project_book.specs.Project.{Project}
use Rattle.machine_cells.specs.declared.state.MachineState.{MachineState}
use Rattle.machine_cells.specs.declared.state.MachineState.TheVariants.{Proc, Module, Low, Comb}
use Rattle.run_queries.specs.Answers.{first_of}
use Rattle.run_reports.specs.declared.spans.Spot.{Spot}
use Rattle.run_reports.specs.declared.spans.Span.{Span}
use Rattle.run_reports.specs.Figures.{first_that}

-- whether a message is there that has the tag of a reference: the request that a processor shows, or a reply that it received
abbrev pub is_request : Tag → Option Outgoing → Bool
is_request x None = false
is_request x (Some o) = same_tag o.request.tag x

abbrev pub is_reply : Tag → Option Reply → Bool
is_reply x None = false
is_reply x (Some y) = same_tag y.tag x

-- or one that waits in a queue
abbrev pub has_request : Tag → ArrayVec Request → Bool
has_request x q = list_any (λ r. same_tag r.tag x) q.items

abbrev pub has_reply_to : Tag → ArrayVec Reply → Bool
has_reply_to x q = list_any (λ y. same_tag y.tag x) q.items

abbrev pub is_queued : Tag → List (ArrayVec Request) → List (ArrayVec Reply) → Bool
is_queued x requests replies =
    (has_request x (queue_at requests 0) || has_request x (queue_at requests 1)) || (has_reply_to x (queue_at replies 0) || has_reply_to x (queue_at replies 1))

-- whether a component holds such a message
abbrev pub holds : Tag → Option MachineState → Bool
holds x (Some (Proc s)) = is_request x s.out || (is_reply x (message_at s.got 0) || is_reply x (message_at s.got 1))
holds x (Some (Module s)) = is_queued x s.requests s.replies
holds x (Some (Low s)) = is_queued x s.fwd s.rev
holds x (Some (Comb s)) = is_queued x s.fwd s.rev
holds x None = false

-- the reference into which a switch combined this one, as its wait buffer says
abbrev pub combined_in : Tag → ArrayVec Waiting → Option Tag
combined_in x wait = option_map (λ w. w.first) (find (λ w. same_tag w.second x) wait.items)

abbrev pub combined_at : Tag → Option MachineState → Option Tag
combined_at x (Some (Comb s)) = combined_in x s.wait
combined_at x _ = None

-- the first that is there of the values at the numbers below n
abbrev pub first_there : {T : Type 0} → (ℕ → Option T) → ℕ → Option T
first_there f zero = None
first_there f (suc n) = first_of (first_there f n) (f n)

-- the one into which some switch combined it, else it itself
abbrev pub carried_by : ℕ → (ℕ → Option MachineState) → Tag → Tag
carried_by k S x = unwrap_or (first_there (λ c. combined_at x (S c)) (components k)) x

-- the one whose messages go for it: it is combined once a stage at most
abbrev pub carrier_after : ℕ → (ℕ → Option MachineState) → Tag → ℕ → Tag
carrier_after k S x zero = x
carrier_after k S x (suc n) = carried_by k S (carrier_after k S x n)

abbrev pub carrier : ℕ → (ℕ → Option MachineState) → Tag → Tag
carrier k S x = carrier_after k S x k

-- the component that holds a message, by its number; none where none does
abbrev pub place_of : ℕ → (ℕ → Option MachineState) → Tag → Option ℕ
place_of k S x = first_that (λ c. holds x (S c)) (components k)

-- where a reference is, in these states of the components
abbrev pub spot_of : ℕ → (ℕ → Option MachineState) → Tag → Option Spot
spot_of k S x = option_map (λ c. record { place = c; carrier = carrier k S x }) (place_of k S (carrier k S x))

-- whether two spots are the same, and whether a span goes on at a spot
abbrev pub same_spot : Spot → Spot → Bool
same_spot a b = (a.place == b.place) && same_tag a.carrier b.carrier

abbrev pub goes_on : ℕ → Spot → Option Span → Bool
goes_on t s None = false
goes_on t s (Some last) = same_spot last.spot s && (last.to + 1 == t)

-- a span of one cycle, and one that goes on up to a cycle
abbrev pub span_at : ℕ → Spot → Span
span_at t s = record { spot = s; from = t; to = t }

abbrev pub up_to : ℕ → Span → Span
up_to t span = record span { to = t }

-- spans, with where a reference is at cycle t: the last span goes on, or one begins
abbrev pub with_spot : ℕ → Option Spot → List Span → List Span
with_spot t None spans = spans
with_spot t (Some s) spans =
    if goes_on t s (slice_get spans (length spans - 1)) then slice_set spans (length spans - 1) (up_to t (slice_index_or spans (length spans - 1) (span_at t s)))
    else spans ++ span_at t s ∷ []

-- the spans of a reference in the cycles before t, and up to the horizon
abbrev pub spans_before : Project → (ℕ → ℕ → Option MachineState) → Tag → ℕ → List Span
spans_before P at x zero = []
spans_before P at x (suc t) = with_spot t (spot_of P.k (at t) x) (spans_before P at x t)

abbrev pub trace : Project → (ℕ → ℕ → Option MachineState) → Tag → List Span
trace P at x = spans_before P at x (suc P.horizon)
