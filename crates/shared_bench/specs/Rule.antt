-- The rule of the table that the passes share: what its words, its slot and its seats' views always are.
--
-- Word 0 is the length of the journal, word 1 how many tickets were handed out, word 2 the ticket that is served, word 3
-- has a bit for each number that was drawn. The slot holds the bench. Words 1 and 2 count modulo 2^64.
--
-- Nothing here has to be believed: the contracts of the public calls name none of it.
use Rattle.std.specs.Prelude.{◌≡◌, ◌⊎◌, ℕ, ◌+◌, ◌-◌, ◌%◌, ◌/◌, ◌^◌, ◌<◌, ◌≤◌, ◌==◌, Bool, true, false, List, [], ◌∷◌, ◌++◌, zero, suc, length, sum_by, Option, Some, None}
use mathlib.Core.Option.{some, none}
use mathlib.Core.Option as maybe
use lib.ListN.{get_elem?}
use Rattle.atomic_table.specs.Table.{State}
use Rattle.bench_core.specs.declared.noted.Noted.{Noted}
use Rattle.bench_core.specs.Shown.{Shown, project_of}
use Rattle.project_book.specs.Project.{Project}
use Rattle.shared_bench.specs.Legal.{StartsWith, has, Folds, entries_by, AuthorsBelow}
use Rattle.shared_bench.specs.Answers.{project_at}
use Rattle.shared_bench.specs.declared.view.View.{View}
use Rattle.shared_bench.specs.declared.view.Opening.{Opening}
use Rattle.shared_bench.specs.declared.view.Stage.{Stage}
use Rattle.shared_bench.specs.declared.view.Stage.TheVariants.{Idle, Waiting, Serving, Filling}

-- the journal and the project at the opening
abbrev pub opened_of : Opening → List Noted
opened_of k = k.bench.value.journal

abbrev pub first_project : Opening → Project
first_project k = project_of k.bench.value

-- whether the clock is at its last value
abbrev pub spent_of : Shown → Bool
spent_of d = d.table.clock == 2 ^ 64 - 1

-- bit i of n
abbrev pub bit_of : ℕ → ℕ → ℕ
bit_of n i = n / 2 ^ i % 2

-- how many of the lowest k bits are 1
unfoldable pub count_bits : ℕ → ℕ → ℕ
count_bits zero n = 0
count_bits (suc k) n = bit_of n k + count_bits k n

-- no number stands twice
abbrev pub Distinct : List ℕ → Type 0
Distinct [] = Unit {0}
Distinct (n ∷ ns) = (has n ns ≡ false) × Distinct ns

-- each author's bit is set
abbrev pub AuthorsDrawn : ℕ → List Noted → Type 0
AuthorsDrawn bits [] = Unit {0}
AuthorsDrawn bits (e ∷ es) = (bit_of bits e.author ≡ 1) × AuthorsDrawn bits es

-- the tickets served and handed out, not modulo 2^64, and the place of the seat that has one; what lies in the slot; and
-- the bench that was last left there
pub record Queue : Type 0 where
  pub served : ℕ
  pub issued : ℕ
  pub holder : ℕ → ℕ
  pub slot : maybe.Option (Option Shown)
  pub last : Shown

-- the entries after the opening; the tickets and the slot; a bit for each number drawn, and the place of the seat that
-- has the number
pub record World : Type 0 where
  pub since : List Noted
  pub queue : Queue
  pub open queue use *
  pub bits : ℕ
  pub owner : ℕ → ℕ

-- the journal now
abbrev pub journal_of : Opening → List Noted → List Noted
journal_of k since = opened_of k ++ since

-- the table of a world and the seats' views
abbrev pub state_of : Opening → World → List View → State (Option Shown) View
state_of k w views = record {
  words = length (journal_of k w.since) ∷ w.issued % 2 ^ 64 ∷ w.served % 2 ^ 64 ∷ w.bits ∷ [];
  homes = w.slot ∷ [];
  views = views;
}

-- how many tickets a seat waits for or is served with
abbrev pub live : Stage → ℕ
live Idle = 0
live (Waiting t) = 1
live (Serving t met) = 1
live (Filling t met) = 1

-- the tickets of a seat, those included that no pass waits for any more
abbrev pub tickets : View → ℕ
tickets v = live v.stage + v.lost

-- how many numbers a seat has
abbrev pub many : View → ℕ
many v = length v.numbers

-- the seat has the turn
abbrev pub IsServer : Stage → Type 0
IsServer Idle = ⊥
IsServer (Waiting t) = ⊥
IsServer (Serving t met) = Unit {0}
IsServer (Filling t met) = Unit {0}

module _ (k : Opening) (since : List Noted) (q : Queue) where
  -- the bench that was last left lies in the slot, with the journal and its project
  abbrev pub AtHome : Type 0
  AtHome = (q.slot ≡ some (Some q.last)) × (q.last.journal ≡ journal_of k since) × (project_of q.last ≡ project_at (first_project k) (opened_of k) q.last.journal)

  -- the seat at place j has the ticket t, which is served, has seen all of the journal, has left the slot so, and met the
  -- bench that was last left there
  abbrev pub Serves : ℕ → List Noted → ℕ → Shown → maybe.Option (Option Shown) → Type 0
  Serves j seen t met slot = (t ≡ q.served) × (t < q.issued) × (q.holder t ≡ j) × (q.slot ≡ slot) × (seen ≡ journal_of k since) × (met ≡ q.last)

  -- the ticket of a seat that waits is not served before, and once it is served the bench is there
  abbrev pub StageFits : ℕ → List Noted → Stage → Type 0
  StageFits j seen Idle = Unit {0}
  StageFits j seen (Waiting t) = (q.served ≤ t) × (t < q.issued) × (q.holder t ≡ j) × (t ≡ q.served → AtHome)
  StageFits j seen (Serving t met) = Serves j seen t met none
  StageFits j seen (Filling t met) = Serves j seen t met (some None)

-- what a seat knows of the opening, of its numbers and of its entries is so; one that was joined into another knows nothing
abbrev pub Knows : Opening → List Noted → View → Type 0
Knows k since v = record {
  opened : v.gone ≡ false → (v.opened ≡ opened_of k) × (v.seats ≡ k.seats) × (v.project ≡ first_project k);
  heard : StartsWith (journal_of k since) v.heard;
  distinct : Distinct v.numbers;
  own : v.receipts ≡ entries_by v.numbers (length (opened_of k)) since;
}

-- what the seat at place j knows is so
pub record Fits (k : Opening) (w : World) (j : ℕ) (v : View) : Type 0 where
  pub knows : Knows k w.since v
  pub goes_on : StartsWith (journal_of k w.since) v.seen
  pub spent : v.spent ≡ true → spent_of w.last ≡ true
  pub owns : (n : ℕ) → has n v.numbers ≡ true → (w.owner n ≡ j) × (n < k.seats) × (bit_of w.bits n ≡ 1)
  pub theirs : (n : ℕ) → has n v.others ≡ true → bit_of w.bits n ≡ 1
  pub room : (tickets v ≤ many v) × (0 < many v → v.lost < many v)
  pub stage : StageFits k w.since w.queue j v.seen v.stage

-- the journal is short, each entry was accepted in its turn, and its authors have drawn their numbers
pub record IsSound (k : Opening) (since : List Noted) (bits : ℕ) : Type 0 where
  pub short : length (journal_of k since) ≤ 65535
  pub accepted : Folds (first_project k) (length (opened_of k)) since
  pub authors : AuthorsBelow k.seats since
  pub drawn : AuthorsDrawn bits since

-- the rule of a world and the seats' views: what each seat knows is so; the tickets that are out are the seats', who have
-- no more numbers than were drawn; and where no ticket is out, the bench is at home
pub record Obeys (k : Opening) (w : World) (views : List View) : Type 0 where
  pub sound : IsSound k w.since w.bits
  pub in_all : w.issued ≡ w.served + sum_by tickets views
  pub drawn : sum_by many views ≤ count_bits 64 w.bits
  pub home : AtHome k w.since w.queue ⊎ (w.served < w.issued)
  pub each : (j : ℕ) (v : View) → get_elem? views j ≡ some v → Fits k w j v

-- the rule: the table is that of a world and of views that obey
abbrev pub Kept : Opening → State (Option Shown) View → Type 0
Kept k s = (w : World) × (views : List View) × (s ≡ state_of k w views) × Obeys k w views

-- the first seat has number 0 and the first ticket, and is about to fill the slot
abbrev pub first_view : Opening → View
first_view k = record { gone = false; project = first_project k; opened = opened_of k; seats = k.seats; seen = opened_of k; heard = []; numbers = 0 ∷ []; receipts = []; others = []; turns = []; spent = false; stage = Filling 0 k.bench.value; lost = 0 }
