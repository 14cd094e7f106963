-- What is true of every pass, and what it knows by its seat. Nothing here has to be believed.
use Rattle.std.specs.Prelude.{◌≡◌, ℕ, ◌<◌, ◌≤◌, true, false, [], length, Option}
use Rattle.atomic_table.specs.Seated.{TableId}
use Rattle.page_map.specs.Limits.{max_k}
use Rattle.shared_bench.specs.Legal.{has}
use Rattle.shared_bench.specs.Known.{Known}
use Rattle.shared_bench.specs.Turn.{AtSeat, HasLegal, Fresh, TicketFits}

-- what a seat of this table, in this state, knows of its pass with this number
abbrev pub known_of : TableId → AtSeat → ℕ → Known
known_of z m number = record { opening = z; project = m.0.project; opened = m.0.opened; seats = m.0.seats; number = number; seen = m.0.seen; numbers = m.0.numbers; receipts = m.0.receipts; turns = m.0.turns; spent = m.0.spent }

-- the table's and the seat's number, what the seat knows, and the pass's own fields
pub record IsPass (table seat : TableId) (m : AtSeat) (number seats base k : ℕ) (ticket : Option ℕ) : Type 0 where
  pub same : seat ≡ table
  pub fresh : Fresh table
  pub empty : m.1 ≡ []
  pub here : m.0.gone ≡ false
  pub some_number : 0 < length m.0.numbers
  pub own_number : has number m.0.numbers ≡ true
  pub number_below : number < seats
  pub seats_are : m.0.seats ≡ seats
  pub few : seats ≤ 64
  pub base_is : base ≡ length m.0.opened
  pub k_is : k ≡ m.0.project.k
  pub k_small : k ≤ max_k
  pub legal : HasLegal m.0
  pub ticket_is : TicketFits ticket m.0.stage
