-- What a pass knows, and what becomes of it.
use Rattle.std.specs.Prelude.{◌≡◌, ℕ, ◌<◌, ◌||◌, Bool, true, false, List, [], ◌∷◌, ◌++◌, length, drop}
use Rattle.atomic_table.specs.Seated.{TableId}
use Rattle.bench_core.specs.declared.noted.Noted.{Noted}
use Rattle.project_book.specs.Project.{Project}
use Rattle.bench_core.specs.Shown.{Shown}
use Rattle.shared_bench.specs.declared.view.Turn.{Turn}
use Rattle.shared_bench.specs.Legal.{StartsWith, has, merge, Receipt, receipts_of, IsLegal}

-- its opening, with the project, the journal and the seats there; its number; the journal that it has seen; the numbers
-- and the receipts that it has, its own and those of the passes joined into it; the turns that it and they took, each
-- with the bench that was met and the bench that was left; and whether it knows the clock spent
pub record Known : Type 0 where
  pub opening : TableId
  pub project : Project
  pub opened : List Noted
  pub seats : ℕ
  pub number : ℕ
  pub seen : List Noted
  pub numbers : List ℕ
  pub receipts : List Receipt
  pub turns : List Turn
  pub spent : Bool

-- the journal is legal for the pass
abbrev pub IsLegalFor : Known → List Noted → Type 0
IsLegalFor p journal = IsLegal p.project p.opened p.seats p.seen p.numbers p.receipts journal

abbrev pub SomeIsLegal : Known → Type 0
SomeIsLegal p = (journal : List Noted) × IsLegalFor p journal

-- after a call a pass is of the same opening, has seen no less, and knows the clock spent where it did
pub record IsLater (before after : Known) : Type 0 where
  pub opening : after.opening ≡ before.opening
  pub project : after.project ≡ before.project
  pub opened : after.opened ≡ before.opened
  pub seats : after.seats ≡ before.seats
  pub number : after.number ≡ before.number
  pub seen : StartsWith after.seen before.seen
  pub spent : before.spent ≡ true → after.spent ≡ true
  pub legal : SomeIsLegal after

-- between the two, the pass took one turn: it met this bench, and left that one
abbrev pub TookTurn : Known → Known → Shown → Shown → Type 0
TookTurn before after met left = after.turns ≡ before.turns ++ record { met = met; left = left } ∷ []

-- a new pass has seen what this one has, a number of its own, and no receipt; it took no turn
pub record IsSplit (from new : Known) : Type 0 where
  pub opening : new.opening ≡ from.opening
  pub project : new.project ≡ from.project
  pub opened : new.opened ≡ from.opened
  pub seats : new.seats ≡ from.seats
  pub seen : new.seen ≡ from.seen
  pub spent : new.spent ≡ from.spent
  pub below : new.number < new.seats
  pub numbers : new.numbers ≡ new.number ∷ []
  pub own : has new.number from.numbers ≡ false
  pub receipts : new.receipts ≡ []
  pub turns : new.turns ≡ []
  pub legal : SomeIsLegal new

-- one pass has seen what both had, and has the numbers, none in common, the receipts and the turns of both
pub record IsJoined (one other both : Known) : Type 0 where
  pub opening : both.opening ≡ one.opening
  pub project : both.project ≡ one.project
  pub opened : both.opened ≡ one.opened
  pub seats : both.seats ≡ one.seats
  pub number : both.number ≡ one.number
  pub seen : StartsWith both.seen one.seen
  pub heard : StartsWith both.seen other.seen
  pub numbers : both.numbers ≡ one.numbers ++ other.numbers
  pub apart : (n : ℕ) → has n one.numbers ≡ true → has n other.numbers ≡ true → ⊥
  pub receipts : both.receipts ≡ merge one.receipts other.receipts
  pub turns : both.turns ≡ one.turns ++ other.turns
  pub spent : both.spent ≡ (one.spent || other.spent)
  pub legal : SomeIsLegal both

-- the pass has all the opening's numbers: every seat was made and joined
abbrev pub HasAllNumbers : Known → Type 0
HasAllNumbers p = (n : ℕ) → n < p.seats → has n p.numbers ≡ true

-- the entries after the opening are the pass's receipts
abbrev pub IsAllItsOwn : Known → List Noted → Type 0
IsAllItsOwn p journal = p.receipts ≡ receipts_of (length p.opened) (drop (length p.opened) journal)
