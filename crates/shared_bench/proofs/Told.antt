-- What the steps told, put together.
use Rattle.std.proofs.Common.{◌≡◌, true, ℕ, ◌%◌, ◌^◌, false, [], ◌∷◌, ◌++◌, length, Option, Some, None, Ok, ◌≤◌, sym, refl, ap, ◌∙◌, eq-eqb}
use Rattle.atomic_table.specs.Table.{rest}
use Rattle.bench_core.specs.Shown.{Shown, project_of}
use Rattle.project_book.specs.declared.edit.Edit.{Edit}
use Rattle.project_book.specs.Edits.{accepts, edited}
use Rattle.shared_bench.specs.Legal.{noted, has}
use Rattle.shared_bench.specs.Answers.{project_at}
use Rattle.shared_bench.proofs.Journals.{project_push}
use Rattle.shared_bench.specs.declared.view.View.{View}
use Rattle.shared_bench.specs.declared.view.Stage.TheVariants.{Waiting}
use Rattle.shared_bench.specs.declared.view.Stage.{Stage}
use Rattle.shared_bench.specs.Rule.{IsServer, spent_of}
use Rattle.shared_bench.specs.Turn.{HasTurn, Comes, HasBench, IsLegalIn, AtSeat, MayPass, MayLeave, MayCount, counted_in, entered, TicketFits}

pub got : (m : AtSeat) (r x t : ℕ) (m' : AtSeat) → m.0.stage ≡ Waiting t → x ≡ t % 2 ^ 64 → r ≡ x → Comes m r m' m.0.stage → HasTurn t m m'
got m r x t m' is xt hit h = rw (is, eq-eqb r (t % 2 ^ 64) (hit ∙ xt)) at h

pub in_hand : (m m' : AtSeat) (t : ℕ) (h : HasTurn t m m') → m'.1 ≡ (0, Some h.0) ∷ rest m'.1
in_hand m m' t h = rw h.1 refl

-- the seat once the bench lies in its slot
pub put_in : (m m2 : AtSeat) (d : Shown) → m.1 ≡ (0, None) ∷ [] → m2 ≡ (m.0, (0, Some d) ∷ rest m.1) → m2 ≡ (m.0, (0, Some d) ∷ [])
put_in m m2 d was now = rw was at now

-- who has the bench may put it back as it is, and after a core call that has not changed its journal
pub may_leave_changed : (v : View) (m : AtSeat) (d d' : Shown) → HasBench v m d → v.gone ≡ false → d'.journal ≡ d.journal
    → project_of d' ≡ project_of d → (spent_of d ≡ true → spent_of d' ≡ true) → MayLeave m d'
may_leave_changed v m d d' h here same project spent =
    let now = project ∙ (h.project ∙ ap (project_at v.project v.opened) (sym same)) in
    rw h.is (refl, record { ticket = h.ticket; met = d; serves = refl; spent = spent; seen = same; here = here; project = now })

pub may_leave : (v : View) (m : AtSeat) (d : Shown) → HasBench v m d → v.gone ≡ false → MayLeave m d
may_leave v m d h here = may_leave_changed v m d d h here refl refl (λ e. e)

-- ---- an edit

-- the project of the edited bench
pub edited_project : (v : View) (m : AtSeat) (d d' : Shown) (a : ℕ) (n : Edit) → HasBench v m d → project_of d' ≡ edited (project_of d) n
    → project_of d' ≡ project_at v.project v.opened (d.journal ++ noted a n ∷ [])
edited_project v m d d' a n h next =
    let legal : IsLegalIn (entered h.ticket d v) d.journal = rw h.is at h.legal in
    next ∙ rw h.project (sym (project_push v.project v.opened legal.since d.journal (noted a n) legal.begins))

-- who has the bench and has edited it may put it back with its entry counted
pub may_edit : (v : View) (m : AtSeat) (d d' : Shown) (a : ℕ) (n : Edit) → HasBench v m d → v.gone ≡ false → d'.journal ≡ d.journal ++ noted a n ∷ []
    → project_of d' ≡ edited (project_of d) n
    → accepts (project_of d) (length d.journal) n ≡ Ok tt → spent_of d ≡ false → has a v.numbers ≡ true → length d'.journal ≤ 65535 → MayCount m d'
may_edit v m d d' a n h here more next accepted unspent own short =
    let passes : MayPass (counted_in a n (entered h.ticket d v)) d' = record {
      ticket = h.ticket;
      met = d;
      serves = refl;
      spent = λ e. absurd (let no : true ≡ false = sym e ∙ unspent in cc);
      seen = more;
      here = here;
      project = rw more (edited_project v m d d' a n h next);
    } in
    rw h.is (refl, record { author = a; edit = n; passes = passes; own = own; accepted = rw (← h.project) accepted; short = short })

-- ---- tickets

pub not_server : (ticket : Option ℕ) (st : Stage) → TicketFits ticket st → IsServer st → ⊥
not_server None st is server = rw is at server
not_server (Some x) st h server = rw h.2 at server

-- the bench's journal is legal for the seat as it was before its turn
pub legal_before : (v : View) (m : AtSeat) (d : Shown) → HasBench v m d → IsLegalIn v d.journal
legal_before v m d h =
    let l : IsLegalIn (entered h.ticket d v) d.journal = rw h.is at h.legal in
    record { since = l.since; begins = l.begins; accepted = l.accepted; goes_on = h.goes_on; own = l.own; authors = l.authors }
