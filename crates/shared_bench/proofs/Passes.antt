-- What the calls of a pass ensure, from what the steps told.
use Rattle.std.proofs.Common.{◌≡◌, ℕ, ◌+◌, ◌<◌, ◌||◌, true, false, List, [], ◌∷◌, ◌++◌, length, Option, Some, None, sym, refl, ap, ◌∙◌, subst, arith, length-append}
use Rattle.atomic_table.specs.Seated.{TableId}
use Rattle.bench_core.specs.declared.noted.Noted.{Noted}
use Rattle.std.proofs.lemmas.List.{drop_at}
use Rattle.std.specs.Prelude.{drop}
use Rattle.project_book.specs.Project.{Project}
use Rattle.project_book.specs.declared.edit.Edit.{Edit as AnyEdit, Edit}
use Rattle.project_book.specs.declared.fault.EditFault.{EditFault}
use Rattle.project_book.specs.declared.fault.EditFault.TheVariants.{ClockSpent, Memory}
use Rattle.bench_core.specs.Shown.{Shown, project_of}
use Rattle.bench_core.specs.Edits.{Refuses}
use Rattle.bench_core.specs.Told.{RefusesAt}
use Rattle.bench_core.proofs.Admitting.{refuses_at, refused_spent, refused_wants}
use Rattle.shared_bench.specs.Answers.{HasSeen, project_seen}
use Rattle.project_book.specs.Edits.{edited as edited_by}
use Rattle.shared_bench.specs.Legal.{noted, receipts_of, has}
use Rattle.shared_bench.specs.Rule.{spent_of}
use Rattle.shared_bench.specs.declared.view.View.{View}
use Rattle.shared_bench.specs.declared.view.Stage.{Stage}
use Rattle.shared_bench.specs.Turn.{HasBench, HasLegal, AtSeat, LooksAt, left_with, counted_in, looked, joined, stage_of, TicketFits}
use Rattle.shared_bench.specs.Known.{Known, IsLater, TookTurn, IsJoined, IsLegalFor, HasAllNumbers, IsAllItsOwn, SomeIsLegal}
use Rattle.shared_bench.specs.Inside.{known_of, IsPass}
use Rattle.shared_bench.proofs.Benches.{is_spent, spent_is}
use Rattle.shared_bench.proofs.Told.{edited_project}
use Rattle.shared_bench.proofs.Seats.{starts_refl, starts_trans}
use Rattle.shared_bench.proofs.Journals.{has_append, distinct_apart, entries_all}

-- ---- a turn

-- the bench in the turn, once the turn was passed
pub in_turn : (z : TableId) (number : ℕ) (v : View) (m1 m4 : AtSeat) (d d' : Shown) → HasBench v m1 d → m4 ≡ (left_with d' m1.0, [])
    → HasSeen (known_of z m4 number) d
in_turn z number v m1 m4 d d' h is = rw (is, h.is) (refl, h.project)

-- the turn that the pass took
pub turn_taken : (z z4 : TableId) (number : ℕ) (m m1 m4 : AtSeat) (d d' : Shown) → HasBench m.0 m1 d → m4 ≡ (left_with d' m1.0, [])
    → TookTurn (known_of z m number) (known_of z4 m4 number) d d'
turn_taken z z4 number m m1 m4 d d' h is = rw (is, h.is) refl

pub turn_taken_edited : (z z4 : TableId) (number : ℕ) (m m1 m4 : AtSeat) (d d' : Shown) (a : ℕ) (n : Edit) → HasBench m.0 m1 d
    → m4 ≡ (left_with d' (counted_in a n m1.0), []) → TookTurn (known_of z m number) (known_of z4 m4 number) d d'
turn_taken_edited z z4 number m m1 m4 d d' a n h is = rw (is, h.is) refl

-- what the pass knows after a turn in which the journal stayed
pub turn_later : (z z4 : TableId) (number : ℕ) (m m1 m4 : AtSeat) (d d' : Shown) → HasBench m.0 m1 d → m4 ≡ (left_with d' m1.0, []) → HasLegal m4.0
    → z4 ≡ z → (spent_of d ≡ true → spent_of d' ≡ true)
    → IsLater (known_of z m number) (known_of z4 m4 number)
turn_later z z4 number m m1 m4 d d' h is legal same spent =
    let later = λ (s : m.0.spent ≡ true). spent (h.spent s) in
    let now = rw (is, h.is) at legal in
    rw (is, h.is) (record { opening = same; project = refl; opened = refl; seats = refl; number = refl; seen = h.goes_on; spent = later; legal = now })

-- a bench with the same journal and project
pub in_turn_too : (p : Known) (d d' : Shown) → HasSeen p d → d'.journal ≡ d.journal → project_of d' ≡ project_of d → HasSeen p d'
in_turn_too p d d' t journal project = (journal ∙ t.0, project ∙ t.1)

-- what is said of the bench's project and version is said of those that the pass has then seen
pub said_seen : (Says : Project → ℕ → Type 0) (p : Known) (d : Shown) → HasSeen p d → Says (project_of d) (length d.journal)
    → Says (project_seen p) (length p.seen)
said_seen Says p d t h = subst (λ (n : ℕ). Says (project_seen p) n) (ap length t.0) (subst (λ (P : Project). Says P (length d.journal)) t.1 h)

-- ---- an edit

pub seen_in_turn : (v : View) (m1 : AtSeat) (d : Shown) (a : ℕ) (n : Edit) → HasBench v m1 d → d.journal ++ noted a n ∷ [] ≡ m1.0.seen ++ noted a n ∷ []
seen_in_turn v m1 d a n h = rw h.is refl

pub edit_later : (z z4 : TableId) (number : ℕ) (m m1 m4 : AtSeat) (d d' : Shown) (a : ℕ) (n : Edit) → HasBench m.0 m1 d
    → m4 ≡ (left_with d' (counted_in a n m1.0), []) → HasLegal m4.0 → z4 ≡ z → spent_of d ≡ false
    → IsLater (known_of z m number) (known_of z4 m4 number)
edit_later z z4 number m m1 m4 d d' a n h is legal same unspent =
    let more = starts_trans m.0.seen d.journal (d.journal ++ noted a n ∷ []) (noted a n ∷ [], refl) h.goes_on in
    let never : spent_of d ≡ true → ⊥ = (λ e. let no : true ≡ false = sym e ∙ unspent in cc) in
    let later = λ (s : m.0.spent ≡ true). absurd (never (h.spent s)) in
    let now = rw (is, h.is) at legal in
    rw (is, h.is) (record { opening = same; project = refl; opened = refl; seats = refl; number = refl; seen = more; spent = later; legal = now })

pub edit_receipt : (v : View) (m1 m4 : AtSeat) (d d' : Shown) (a : ℕ) (n : Edit) (version : ℕ) → HasBench v m1 d
    → m4 ≡ (left_with d' (counted_in a n m1.0), []) → d'.journal ≡ d.journal ++ noted a n ∷ [] → version ≡ length d'.journal
    → (version ≡ length m4.0.seen) × (m4.0.receipts ≡ v.receipts ++ (version, n) ∷ [])
edit_receipt v m1 m4 d d' a n version h is more long =
    let v_is : version ≡ length d.journal + 1 = long ∙ (ap length more ∙ length-append d.journal (noted a n ∷ [])) in
    rw (is, h.is) (long ∙ ap length more, ap (λ (q : ℕ). v.receipts ++ (q, n) ∷ []) (sym v_is))

-- the edited bench
pub in_turn_edited : (z : TableId) (number : ℕ) (v : View) (m1 m4 : AtSeat) (d d' : Shown) (a : ℕ) (n : AnyEdit) → HasBench v m1 d
    → m4 ≡ (left_with d' (counted_in a n m1.0), []) → d'.journal ≡ d.journal ++ noted a n ∷ [] → project_of d' ≡ edited_by (project_of d) n
    → HasSeen (known_of z m4 number) d'
in_turn_edited z number v m1 m4 d d' a n h is more next = rw (is, h.is) (more, edited_project v m1 d d' a n h next)

-- what a refused edit says of what the pass has then seen, and of the clock
module _ (z : TableId) (number : ℕ) (v : View) (m1 m4 : AtSeat) (d : Shown) (e : Edit) (h : HasBench v m1 d) (is : m4 ≡ (left_with d m1.0, [])) where
  pub edit_refused : (f : EditFault) → Refuses d e f → RefusesAt (project_seen (known_of z m4 number)) (length (known_of z m4 number).seen) e f
  edit_refused f refused = said_seen (λ P n. RefusesAt P n e f) (known_of z m4 number) d (in_turn z number v m1 m4 d d h is) (refuses_at d e f refused)

  pub edit_spent : Refuses d e ClockSpent → (known_of z m4 number).spent ≡ true
  edit_spent refused = rw is (is_spent d (refused_spent d e refused))

  pub edit_wants : Refuses d e Memory → (known_of z m4 number).spent ≡ true → ⊥
  edit_wants refused now = refused_wants d e refused (spent_is d (rw is at now))

-- ---- a join

pub first_ticket : (x : ℕ) (st st' : Stage) → TicketFits (Some x) st → TicketFits (Some x) (stage_of st st')
first_ticket x st st' h = (h.0, h.1, ap (λ (s : Stage). stage_of s st') h.2)

pub second_ticket : (ticket : Option ℕ) (st st' : Stage) → TicketFits None st → TicketFits ticket st' → TicketFits ticket (stage_of st st')
second_ticket ticket st st' h g = subst (λ (s : Stage). TicketFits ticket (stage_of s st')) (sym h) g

module _ (m u m2 m' : AtSeat) (r : ℕ) (first : m2 ≡ (joined m.0 u.0, m.1)) (look : LooksAt m2 r m') where
  after_join : m' ≡ (looked look.0 (joined m.0 u.0), m.1)
  after_join = look.1 ∙ ap (λ (p : AtSeat). (looked look.0 p.0, p.1)) first

  pub joined_pass : (board seat seat' : TableId) (number seats base k : ℕ) (ticket ticket' : Option ℕ)
      → IsPass board seat m number seats base k ticket → seat' ≡ seat → TicketFits ticket' (stage_of m.0.stage u.0.stage)
      → IsPass board seat' m' number seats base k ticket'
  joined_pass board seat seat' number seats base k ticket ticket' p same fits =
      let some = p.some_number in
      let both = length-append m.0.numbers u.0.numbers in
      let some_number : 0 < length (m.0.numbers ++ u.0.numbers) = omega arith in
      let own_number : has number (m.0.numbers ++ u.0.numbers) ≡ true = rw (has_append number m.0.numbers u.0.numbers, p.own_number) refl in
      let is_same : seat' ≡ board = same ∙ p.same in
      let legal : HasLegal (looked look.0 (joined m.0 u.0)) = rw after_join at look.7 in
      rw after_join (assumption (is_same, some_number, own_number, legal, fits, p))

  pub joined_knows : (z z2 z' : TableId) (number number2 : ℕ) → z' ≡ z → IsJoined (known_of z m number) (known_of z2 u number2) (known_of z' m' number)
  joined_knows z z2 z' number number2 same = rw after_join (record {
    opening = same;
    project = refl;
    opened = refl;
    seats = refl;
    number = refl;
    seen = rw first at look.4;
    heard = rw first at look.5;
    numbers = refl;
    apart = distinct_apart m.0.numbers u.0.numbers (rw first at look.6);
    receipts = refl;
    turns = refl;
    spent = refl;
    legal = rw after_join at look.7;
  })

-- ---- many passes

pub later_same : (p : Known) → SomeIsLegal p → IsLater p p
later_same p legal = record { opening = refl; project = refl; opened = refl; seats = refl; number = refl; seen = starts_refl p.seen; spent = λ e. e; legal = legal }

pub later_joined : (a b q c : Known) → IsLater a b → IsJoined b q c → IsLater a c
later_joined a b q c l j = record {
  opening = j.opening ∙ l.opening;
  project = j.project ∙ l.project;
  opened = j.opened ∙ l.opened;
  seats = j.seats ∙ l.seats;
  number = j.number ∙ l.number;
  seen = starts_trans a.seen b.seen c.seen j.seen l.seen;
  spent = λ e. j.spent ∙ ap (λ t. t || q.spent) (l.spent e);
  legal = j.legal;
}

-- ---- all numbers

pub all_own : (p : Known) (journal : List Noted) → IsLegalFor p journal → HasAllNumbers p → IsAllItsOwn p journal
all_own p journal l all =
    l.own
    ∙ (entries_all p.numbers p.seats (length p.opened) l.since all l.authors
    ∙ ap (receipts_of (length p.opened)) (sym (ap (drop (length p.opened)) l.begins ∙ drop_at p.opened l.since (length p.opened) refl)))
