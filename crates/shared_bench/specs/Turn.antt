-- The steps of a turn: what each makes of a seat's view, what it tells, and what it asks for.
--
-- Nothing here has to be believed: the contracts of the public calls name none of it.
use Rattle.std.specs.Prelude.{◌≡◌, ℕ, ◌+◌, ◌-◌, ◌*◌, ◌%◌, ◌^◌, ◌<◌, ◌≤◌, ◌==◌, ◌||◌, true, false, List, [], ◌∷◌, ◌++◌, length, Option, Some, None, Ok, MatchBool, IfSome}
use Rattle.atomic_table.specs.Table.{Me, Step}
use Rattle.atomic_table.specs.Seated.{TableId}
use Rattle.bench_core.specs.declared.noted.Noted.{Noted}
use Rattle.bench_core.specs.Shown.{Shown, project_of}
use Rattle.project_book.specs.Project.{blank}
use Rattle.project_book.specs.Edits.{accepts}
use Rattle.project_book.specs.declared.edit.Edit.{Edit}
use Rattle.shared_bench.specs.Legal.{noted, StartsWith, has, merge, IsLegal}
use Rattle.shared_bench.specs.Answers.{project_at}
use Rattle.shared_bench.specs.declared.view.View.{View}
use Rattle.shared_bench.specs.declared.view.Stage.{Stage}
use Rattle.shared_bench.specs.declared.view.Stage.TheVariants.{Idle, Waiting, Serving, Filling}
use Rattle.shared_bench.specs.Rule.{spent_of, bit_of, live, Distinct}

-- a seat: its view, and the slots in its hands
abbrev pub AtSeat : Type 0
AtSeat = Me (Option Shown) View

-- what a step tells, of the seat before, the word that was read, and the seat after
abbrev Tells : Type 1
Tells = Step (Option Shown) → AtSeat → ℕ → AtSeat → Type 0

-- some journal is legal for the view
abbrev pub HasLegal : View → Type 0
HasLegal v = (journal : List Noted) × IsLegal v.project v.opened v.seats v.seen v.numbers v.receipts journal

-- the journal is legal for the view
abbrev pub IsLegalIn : View → List Noted → Type 0
IsLegalIn v journal = IsLegal v.project v.opened v.seats v.seen v.numbers v.receipts journal

-- the view at another stage
abbrev pub staged : Stage → View → View
staged stage v = record v { stage = stage }

-- the bench in hand, if there is one
abbrev pub bench_in : List (ℕ × Option Shown) → Option Shown
bench_in [] = None
bench_in (x ∷ xs) = x.1

-- a ticket was taken
abbrev pub took : Tells
took st m r m' = (t : ℕ) × (r ≡ t % 2 ^ 64) × (m' ≡ (staged (Waiting t) m.0, m.1))

-- the bench's project is that of the opening with its journal
abbrev pub IsProjectIn : View → Shown → Type 0
IsProjectIn v d = project_of d ≡ project_at v.project v.opened d.journal

-- the view of the seat that has taken the slot, and has met the bench d in it
abbrev pub entered : ℕ → Shown → View → View
entered t d v = record v { seen = d.journal; stage = Serving t d }

-- the seat with the ticket t has taken the slot, with the bench in it
abbrev pub HasTurn : ℕ → AtSeat → AtSeat → Type 0
HasTurn t m m' = (d : Shown) × (m' ≡ (entered t d m.0, (0, Some d) ∷ m.1)) × StartsWith d.journal m.0.seen × (m.0.spent ≡ true → spent_of d ≡ true) × IsLegalIn m'.0 d.journal × IsProjectIn m.0 d

-- serving was loaded: where it is the own ticket, the slot was taken
abbrev pub Comes : AtSeat → ℕ → AtSeat → Stage → Type 0
Comes m r m' (Waiting t) = MatchBool (r == t % 2 ^ 64) (HasTurn t m m') (m' ≡ m)
Comes m r m' _ = m' ≡ m

abbrev pub comes : Tells
comes st m r m' = Comes m r m' m.0.stage

-- the first seat took the slot, which is empty
abbrev pub Fills : AtSeat → AtSeat → Stage → Type 0
Fills m m' (Filling t met) = m' ≡ (staged (Serving t met) m.0, (0, None) ∷ m.1)
Fills m m' _ = m' ≡ m

abbrev pub fills : Tells
fills st m r m' = Fills m m' m.0.stage

-- a bench that nobody has met
abbrev pub no_bench : Shown
no_bench = record { table = record { slots = blank 0 0; horizon = 0; clock = 0; rows = [] }; journal = [] }

-- the bench that was met in this turn
abbrev pub met_in : Stage → Shown
met_in Idle = no_bench
met_in (Waiting t) = no_bench
met_in (Serving t met) = met
met_in (Filling t met) = met

-- the turn is passed, and the bench d left in the slot: one turn more was taken
abbrev pub left_with : Shown → View → View
left_with d v = record v { turns = v.turns ++ record { met = met_in v.stage; left = d } ∷ []; spent = spent_of d; stage = Idle }

-- the slot was given back
abbrev pub leaves : Tells
leaves st m r m' = IfSome (bench_in m.1) (λ d. (m' ≡ (left_with d m.0, [])) × HasLegal m'.0)

-- the view, once it has seen this journal
abbrev pub looked : List Noted → View → View
looked journal v = record v { seen = journal }

-- the length was loaded, and the journal is that long
abbrev pub LooksAt : AtSeat → ℕ → AtSeat → Type 0
LooksAt m r m' = (journal : List Noted) × (m' ≡ (looked journal m.0, m.1)) × (r ≡ length journal) × (r ≤ 65535) × StartsWith journal m.0.seen × StartsWith journal m.0.heard × Distinct m.0.numbers × HasLegal m'.0

abbrev pub lengths : Tells
lengths st m r m' = LooksAt m r m'

-- an edit was made in the turn: the bench d in hand has one entry more than was seen
abbrev pub counted_in : ℕ → Edit → View → View
counted_in a n v = record v { seen = v.seen ++ noted a n ∷ []; receipts = v.receipts ++ (length v.seen + 1, n) ∷ [] }

-- the edit of the bench in hand was counted
abbrev pub counts : Tells
counts st m r m' = IfSome (bench_in m.1) (λ d. (a : ℕ) (n : Edit) → d.journal ≡ m.0.seen ++ noted a n ∷ [] → m' ≡ (counted_in a n m.0, m.1))

-- the view with this number alone
abbrev pub numbered : ℕ → View → View
numbered n v = record v { numbers = n ∷ [] }

-- b has the bit n alone
abbrev pub IsBit : ℕ → ℕ → Type 0
IsBit b n = (n < 64) × (b ≡ 1 * 2 ^ n % 2 ^ 64)

-- the number was drawn, where its bit was not set, so that no other has it
abbrev pub draws : Tells
draws st m r m' = (n : ℕ) → IsBit st.first n → MatchBool (bit_of r n == 0) ((m' ≡ (numbered n m.0, m.1)) × HasLegal m'.0 × (has n m.0.others ≡ false)) (m' ≡ m)

-- a new seat, which has seen what this one has
abbrev pub newcomer : View → View
newcomer v = record v { numbers = []; receipts = []; others = v.numbers; turns = []; stage = Idle; lost = 0 }

-- of two stages, the first that has a ticket
abbrev pub stage_of : Stage → Stage → Stage
stage_of Idle stage = stage
stage_of (Waiting t) stage = Waiting t
stage_of (Serving t met) stage = Serving t met
stage_of (Filling t met) stage = Filling t met

-- one view of two
abbrev pub joined : View → View → View
joined v w = record v { heard = w.seen; numbers = v.numbers ++ w.numbers; receipts = merge v.receipts w.receipts; turns = v.turns ++ w.turns; spent = v.spent || w.spent; stage = stage_of v.stage w.stage; lost = v.lost + w.lost + (live v.stage + live w.stage - live (stage_of v.stage w.stage)) }

-- a view that was joined into another
abbrev pub nobody : View
nobody = record { gone = true; project = blank 0 0; opened = []; seats = 0; seen = []; heard = []; numbers = []; receipts = []; others = []; turns = []; spent = false; stage = Idle; lost = 0 }

-- ---- what the functions of `steps` say of a seat

-- four words and one slot
abbrev pub Fresh : TableId → Type 0
Fresh z = (z.words ≡ 4) × (z.slots ≡ 1)

-- a ticket that the pass has kept is the one that its seat waits for
abbrev pub TicketFits : Option ℕ → Stage → Type 0
TicketFits None stage = stage ≡ Idle
TicketFits (Some x) stage = (t : ℕ) × (x ≡ t % 2 ^ 64) × (stage ≡ Waiting t)

-- the seat has the turn, and the bench d is in its hands; v is its view before
pub record HasBench (v : View) (m : AtSeat) (d : Shown) : Type 0 where
  pub ticket : ℕ
  pub is : m ≡ (entered ticket d v, (0, None) ∷ [])
  pub goes_on : StartsWith d.journal v.seen
  pub spent : v.spent ≡ true → spent_of d ≡ true
  pub legal : IsLegalIn m.0 d.journal
  pub project : IsProjectIn v d

-- a seat with this view has the turn, and may pass it with the bench d, whose journal it has seen
pub record MayPass (v : View) (d : Shown) : Type 0 where
  pub ticket : ℕ
  pub met : Shown
  pub serves : v.stage ≡ Serving ticket met
  pub spent : spent_of met ≡ true → spent_of d ≡ true
  pub seen : d.journal ≡ v.seen
  pub here : v.gone ≡ false
  pub project : IsProjectIn v d

-- the seat has the turn and an empty slot, and may put this bench back
abbrev pub MayLeave : AtSeat → Shown → Type 0
MayLeave m d = (m.1 ≡ (0, None) ∷ []) × MayPass m.0 d

-- a seat with this view has the turn, and may pass it with the bench d, once it has counted the entry that d has more
pub record MayAdd (v : View) (d : Shown) : Type 0 where
  pub author : ℕ
  pub edit : Edit
  pub passes : MayPass (counted_in author edit v) d
  pub own : has author v.numbers ≡ true
  pub accepted : accepts (project_at v.project v.opened v.seen) (length v.seen) edit ≡ Ok tt
  pub short : length d.journal ≤ 65535

-- the seat has the turn and an empty slot, and may put back this bench, which has one entry more
abbrev pub MayCount : AtSeat → Shown → Type 0
MayCount m d = (m.1 ≡ (0, None) ∷ []) × MayAdd m.0 d
