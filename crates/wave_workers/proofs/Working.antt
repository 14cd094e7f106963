-- A pass that goes on, and passes that are joined.
use Rattle.std.proofs.Common.{◌≡◌, ℕ, ◌+◌, ◌^◌, ◌<◌, List, [], ◌∷◌, ◌++◌, length, Option, None, Some, Result, Ok, Err, refl, sym, ap, ◌∙◌, arith, subst, length-append, append-nil, append_assoc}
use Rattle.shared_bench.specs.Known.{Known, IsLater, IsSplit, IsJoined, SomeIsLegal}
use Rattle.shared_bench.specs.Legal.{merge}
use Rattle.shared_bench.specs.Slices.{SlicesAs}
use Rattle.shared_bench.proofs.Seats.{starts_trans}
use Rattle.shared_bench.proofs.Passes.{later_same, later_joined}
use Rattle.cell_table.specs.Claims.{Computed, NoneDue}
use Rattle.cell_table.specs.declared.given.Given.{Given}
use Rattle.cell_table.specs.declared.given.Given.TheVariants as given
use Rattle.cell_table.specs.declared.given.SettleFault.{SettleFault}
use Rattle.machine_cells.specs.declared.state.MachineState.{MachineState}
use Rattle.machine_cells.specs.GridRules.{rp3_rules}
use Rattle.project_book.specs.Project.{Project}
use Rattle.bench_core.specs.Shown.{Shown}
use Rattle.wave_workers.specs.Working.{IsKept, IsWorked, HasLeft, HasLooked, came_for, came_for_slice, given_by, counted}
use Rattle.wave_workers.specs.declared.tally.Came.{Came}
use Rattle.wave_workers.specs.declared.tally.Came.TheVariants.{Idle}
use Rattle.wave_workers.specs.declared.worked.WorkFault.{WorkFault}

pub later_trans : (a b c : Known) → IsLater a b → IsLater b c → IsLater a c
later_trans a b c l m = record {
  opening = m.opening ∙ l.opening;
  project = m.project ∙ l.project;
  opened = m.opened ∙ l.opened;
  seats = m.seats ∙ l.seats;
  number = m.number ∙ l.number;
  seen = starts_trans a.seen b.seen c.seen m.seen l.seen;
  spent = λ e. m.spent (l.spent e);
  legal = m.legal;
}

pub kept_trans : (a b c : Known) → IsKept a b → IsKept b c → IsKept a c
kept_trans a b c l m = (later_trans a b c l.0 m.0, m.1 ∙ l.1, m.2 ∙ l.2)

pub kept_same : (p : Known) → SomeIsLegal p → IsKept p p
kept_same p legal = (later_same p legal, refl, refl)

-- with no further worker
pub worked_none : (p q : Known) (gates : ℕ) (fault : Option WorkFault) → SomeIsLegal p → q ≡ p → (fault ≡ None → gates ≡ 0) → ((why : WorkFault) → fault ≡ Some why → 0 < gates) → IsWorked p q gates 0 fault
worked_none p q gates fault legal same none some = subst (λ (x : Known). IsWorked p x gates 0 fault) (sym same) (record {
  later = later_same p legal;
  receipts = refl;
  more = [];
  numbers = sym (append-nil p.numbers);
  each = refl;
  few = omega arith;
  all = λ e. sym (none e);
  not_all = some;
})

-- a worker's pass is joined into the one with those of the others
pub worked_one : (p own others done both : Known) (gates started : ℕ) (fault : Option WorkFault) → IsSplit p own → IsKept own done → IsWorked p others gates started fault → IsJoined others done both → IsWorked p both (gates + 1) (started + 1) fault
worked_one p own others done both gates started fault split kept worked join =
    let one : done.numbers ≡ own.number ∷ [] = kept.1 ∙ split.numbers in
    let none : done.receipts ≡ [] = kept.2 ∙ split.receipts in
    let long : length (worked.more ++ own.number ∷ []) ≡ length worked.more + 1 = length-append worked.more (own.number ∷ []) in
    record {
      later = later_joined p others done both worked.later join;
      receipts = join.receipts ∙ (ap (merge others.receipts) none ∙ worked.receipts);
      more = worked.more ++ own.number ∷ [];
      numbers = join.numbers ∙ (ap (λ (l : List ℕ). others.numbers ++ l) one ∙ (ap (λ (l : List ℕ). l ++ own.number ∷ []) worked.numbers ∙ append_assoc p.numbers worked.more (own.number ∷ [])));
      each = long ∙ ap (λ n. n + 1) worked.each;
      few = let few = worked.few in omega arith;
      all = λ e. ap (λ n. n + 1) (worked.all e);
      not_all = λ why e. let fewer = worked.not_all why e in omega arith;
    }

-- a look at the length, and then a turn of a bench that has all that the pass has then seen
pub looked : (first last : Known) (came : Came) (before : ℕ) (d : Shown) → before ≡ length first.seen → IsLater first last → HasLeft last d → (came ≡ Idle → NoneDue rp3_rules d.table) → HasLooked last came before
looked first last came before d is later left idle =
    let rest = later.seen.0 in
    let more : length last.seen ≡ length first.seen + length rest = ap length later.seen.1 ∙ length-append first.seen rest in
    let seen : length d.journal ≡ length last.seen = ap length left.3.0.0 in
    (d, left, idle, omega (arith, is, more, seen))

-- where a slice's turn was idle, no cell is due of the bench that was left
pub idle_slice : (d next : Shown) (cells : ℕ) (r : Result (Option ℕ) SettleFault) → SlicesAs d cells r next → came_for_slice r ≡ Idle → NoneDue rp3_rules next.table
idle_slice d next cells (Ok (Some last)) s e = absurd cc
idle_slice d next cells (Ok None) s e = subst (λ (b : Shown). NoneDue rp3_rules b.table) (sym s.1) s.0
idle_slice d next cells (Err fault) s e = absurd cc

-- what is counted now, and then, is counted together
pub counted_on : (a x s : ℕ) → counted (counted a x) s ≡ counted a (x + s)
counted_on a x s = omega arith

pub all_counted : (a : ℕ) → a < 2 ^ 64 → counted a 0 ≡ a
all_counted a few = omega arith

-- each result counts as one that was given
pub given_one : (g : Given (Computed MachineState Project)) → given_by (came_for g) ≡ 1
given_one (given.Stored changed) = refl
given_one (given.ClockSpent back) = refl
given_one given.Gone = refl
given_one given.NotDue = refl
given_one given.Overtaken = refl
given_one given.Foreign = refl
given_one (given.Memory back) = refl

pub none_left : (left : List (Given (Computed MachineState Project))) → length left ≡ 0 → left ≡ []
none_left [] h = refl
none_left (x ∷ xs) h = absurd (omega arith)
