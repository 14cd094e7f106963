-- What a pass does is what a desk is to do.
use Rattle.std.proofs.Common.{◌≡◌, ℕ, ◌+◌, ◌≤◌, List, [], ◌∷◌, ◌++◌, length, refl, sym, ap, ◌∙◌, subst, arith, append_assoc, append-nil}
use Rattle.std.proofs.lemmas.List.{length-append, map-append, nil_from_length}
use Rattle.std.specs.Prelude.{drop, Result, Ok, Err, IfOk, OnOk}
use Rattle.project_book.specs.Project.{Project}
use Rattle.project_book.specs.Edits.{accepts, edited}
use Rattle.project_book.specs.declared.edit.Edit.{Edit}
use Rattle.project_book.specs.declared.edit.Edit.TheVariants.{Entry, Cut, Word, Page, Depth, WaitDepth, Combine, Window, Horizon}
use Rattle.project_book.specs.declared.fault.EditFault.{EditFault}
use Rattle.run_queries.specs.declared.query.Query.{Query}
use Rattle.bench_core.specs.declared.noted.Noted.{Noted}
use Rattle.bench_core.specs.declared.told.Told.{Told}
use Rattle.bench_core.specs.declared.told.Told.TheVariants as told
use Rattle.bench_core.specs.Shown.{Shown, project_of}
use Rattle.bench_core.specs.Told.{TellsAt, RefusesAt}
use Rattle.bench_core.proofs.Admitting.{admitted}
use Rattle.shared_bench.specs.Legal.{Receipt, noted, StartsWith}
use Rattle.shared_bench.specs.Known.{Known, IsLater, TookTurn}
use Rattle.shared_bench.specs.Answers.{project_at, project_seen, after_entries, IsMet, IsInTurn, EditsAs}
use Rattle.shared_bench.proofs.Journals.{project_push}
use Rattle.bench_shell.specs.Store.{Store, version_in, edited_store, EditGives, IsToldAt}
use Rattle.worker_sessions.specs.Seated.{entries_of, own_journal, seated_store, IsSeated}

-- a list that goes on from another, and is no longer, is that one
same_length : (xs ys : List Noted) → StartsWith ys xs → length ys ≤ length xs → ys ≡ xs
same_length xs ys more short =
    let rest = more.0 in
    let sum = ap length more.1 in
    let both = length-append xs rest in
    let none : rest ≡ [] = nil_from_length rest (omega arith) in
    more.1 ∙ ap (λ l. xs ++ l) none ∙ append-nil xs

longer : (xs ys : List Noted) → StartsWith ys xs → length xs ≤ length ys
longer xs ys more = let sum = ap length more.1 in let both = length-append xs more.0 in omega arith

-- a pass that hasn't edited
pub seated_new : (p : Known) → p.receipts ≡ [] → StartsWith p.seen p.opened → IsSeated p
seated_new p none seen =
    let own : own_journal p ≡ p.opened = ap (λ (l : List Receipt). p.opened ++ entries_of p.number l) none ∙ append-nil p.opened in
    let long : length (own_journal p) ≡ length p.opened = ap length own in
    record {
      whole = let l = longer p.opened p.seen seen in omega arith;
      exact = λ e. same_length p.opened p.seen seen (omega arith) ∙ sym own;
    }

pub fresh : (p : Known) → p.receipts ≡ [] → length p.opened ≡ version_in (seated_store p)
fresh p none = sym (ap (λ (l : List Receipt). length (p.opened ++ entries_of p.number l)) none ∙ ap length (append-nil p.opened))

-- ---- a call that makes no edit

pub own_same : (p q : Known) → IsLater p q → q.receipts ≡ p.receipts → own_journal q ≡ own_journal p
own_same p q later same = λ i. later.opened i ++ entries_of (later.number i) (same i)

pub seated_same : (p q : Known) → IsSeated p → IsLater p q → q.receipts ≡ p.receipts → IsSeated q
seated_same p q is later same =
    let own = own_same p q later same in
    let long : length (own_journal q) ≡ length (own_journal p) = ap length own in
    let l = longer p.seen q.seen later.seen in
    let whole = is.whole in
    record {
      whole = omega arith;
      exact = λ e. same_length p.seen q.seen later.seen (omega arith) ∙ is.exact (omega arith) ∙ sym own;
    }

-- whoever is alone afterwards was so before
pub alone_before : (p q : Known) → IsSeated p → IsLater p q → q.receipts ≡ p.receipts → q.seen ≡ own_journal q → p.seen ≡ own_journal p
alone_before p q is later same alone =
    let own : length (own_journal q) ≡ length (own_journal p) = ap length (own_same p q later same) in
    let seen : length q.seen ≡ length (own_journal q) = ap length alone in
    let l = longer p.seen q.seen later.seen in
    let whole = is.whole in
    is.exact (omega arith)

pub store_same : (p q : Known) → IsLater p q → q.receipts ≡ p.receipts → seated_store q ≡ seated_store p
store_same p q later same = λ i. record {
  project = project_at (later.project i) (later.opened i) (own_same p q later same i);
  author = later.number i;
  journal = own_same p q later same i;
}

-- the project that a pass which is alone has seen
project_alone : (p q : Known) → IsLater p q → q.receipts ≡ p.receipts → q.seen ≡ own_journal q → project_seen q ≡ (seated_store p).project
project_alone p q later same alone = ap (project_at q.project q.opened) alone ∙ ap (λ (s : Store). s.project) (store_same p q later same)

version_alone : (p q : Known) → IsLater p q → q.receipts ≡ p.receipts → q.seen ≡ own_journal q → length q.seen ≡ version_in (seated_store p)
version_alone p q later same alone = ap length (alone ∙ own_same p q later same)

-- ---- a query

pub told_alone : (p q : Known) (query : Query) (r : Told) → IsLater p q → q.receipts ≡ p.receipts → TellsAt (project_seen q) (length q.seen) query r → q.seen ≡ own_journal q
    → TellsAt (seated_store p).project (version_in (seated_store p)) query r
told_alone p q query r later same told alone =
    subst (λ (n : ℕ). TellsAt (seated_store p).project n query r) (version_alone p q later same alone)
    (subst (λ (P : Project). TellsAt P (length q.seen) query r) (project_alone p q later same alone) told)

-- a version that is that of the own edits alone
pub exact_at : (p q : Known) (v : ℕ) → IsSeated p → IsLater p q → q.receipts ≡ p.receipts → v ≡ length q.seen → v ≡ version_in (seated_store p) → q.seen ≡ own_journal q
exact_at p q v is later same seen own =
    let s = seated_same p q is later same in
    let long : length (own_journal q) ≡ length (own_journal p) = ap length (own_same p q later same) in
    s.exact (omega arith)

pub told_at : (p q : Known) (query : Query) (r : Told) → IsSeated p → IsLater p q → q.receipts ≡ p.receipts → TellsAt (project_seen q) (length q.seen) query r → IsToldAt (version_in (seated_store p)) r → q.seen ≡ own_journal q
told_at p q query (told.Answer v body) is later same told at = exact_at p q v is later same told.0 at
told_at p q query (told.BadQuery n) is later same told at = absurd at
told_at p q query told.ClockSpent is later same told at = absurd at
told_at p q query told.Memory is later same told at = absurd at

-- ---- an edit

-- an entry more of one's own
pub own_more : (p q : Known) (e : Edit) (v : ℕ) → IsLater p q → q.receipts ≡ p.receipts ++ (v, e) ∷ [] → own_journal q ≡ own_journal p ++ noted p.number e ∷ []
own_more p q e v later more =
    (λ i. later.opened i ++ entries_of (later.number i) (more i))
    ∙ (ap (λ l. p.opened ++ l) (map-append (λ (r : Receipt). noted p.number r.1) p.receipts ((v, e) ∷ []))
    ∙ sym (append_assoc p.opened (entries_of p.number p.receipts) (noted p.number e ∷ [])))

module _ (p q : Known) (e : Edit) (v : ℕ) (d next : Shown) (is : IsSeated p) (later : IsLater p q) (more : q.receipts ≡ p.receipts ++ (v, e) ∷ []) (met : IsMet p d) (seen : next.journal ≡ q.seen)
    (ed : EditsAs d p.number e (Ok v) next) where
  own : own_journal q ≡ own_journal p ++ noted p.number e ∷ []
  own = own_more p q e v later more

  own_long : length (own_journal q) ≡ length (own_journal p) + 1
  own_long = ap length own ∙ length-append (own_journal p) (noted p.number e ∷ [])

  seen_is : q.seen ≡ d.journal ++ noted p.number e ∷ []
  seen_is = sym seen ∙ ed.1.journal

  seen_long : length q.seen ≡ length d.journal + 1
  seen_long = ap length seen_is ∙ length-append d.journal (noted p.number e ∷ [])

  back : length q.seen ≡ length (own_journal q) → (p.seen ≡ own_journal p) × (d.journal ≡ own_journal p)
  back same =
      let l = longer p.seen d.journal met.0 in
      let whole = is.whole in
      let a = own_long in
      let b = seen_long in
      let first : p.seen ≡ own_journal p = is.exact (omega arith) in
      (first, same_length p.seen d.journal met.0 (omega arith) ∙ first)

  exact : length q.seen ≡ length (own_journal q) → q.seen ≡ own_journal q
  exact same = seen_is ∙ ap (λ l. l ++ noted p.number e ∷ []) (back same).1 ∙ sym own

  pub seated_edited : IsSeated q
  seated_edited = record {
    whole = let l = longer p.seen d.journal met.0 in let whole = is.whole in let a = own_long in let b = seen_long in omega arith;
    exact = exact;
  }

  pub edited_before : q.seen ≡ own_journal q → p.seen ≡ own_journal p
  edited_before alone = (back (ap length alone)).0

  pub edited_at : v ≡ length q.seen → v ≡ version_in (seated_store p) + 1 → q.seen ≡ own_journal q
  edited_at at own_at = let a = own_long in exact (omega arith)

  pub edited_counts : version_in (seated_store q) ≡ version_in (seated_store p) + 1
  edited_counts = own_long

  pub edited_store_is : seated_store q ≡ edited_store (seated_store p) e
  edited_store_is =
      let pushed : project_at q.project q.opened (own_journal q) ≡ edited (seated_store p).project e =
      (λ i. project_at (later.project i) (later.opened i) (own i)) ∙ project_push p.project p.opened (entries_of p.number p.receipts) (own_journal p) (noted p.number e) refl in
      λ i. record { project = pushed i; author = later.number i; journal = own i }

  pub edited_gives : q.seen ≡ own_journal q → EditGives (seated_store p) e (Ok v) (seated_store q)
  edited_gives alone =
      let journal : d.journal ≡ own_journal p = (back (ap length alone)).1 in
      let project : project_of d ≡ (seated_store p).project = met.1 ∙ ap (project_at p.project p.opened) journal in
      let accepted : accepts (seated_store p).project (version_in (seated_store p)) e ≡ Ok tt =
      subst (λ (n : ℕ). accepts (seated_store p).project n e ≡ Ok tt) (ap length journal) (subst (λ (P : Project). accepts P (length d.journal) e ≡ Ok tt) project (admitted d e ed.0)) in
      (accepted, edited_store_is, ed.2 ∙ ap (λ n. n + 1) (ap length journal))

-- the own edits go on with one that is taken, whoever else edits
pub made : (p q : Known) (e : Edit) (r : Result ℕ EditFault) → IsSeated p → IsLater p q → IfOk r (λ v. (v ≡ length q.seen) × (q.receipts ≡ p.receipts ++ (v, e) ∷ []))
    → ((d : Shown) × (next : Shown) × IsMet p d × IsInTurn q next × EditsAs d p.number e r next × TookTurn p q d next) → OnOk r (seated_store q ≡ edited_store (seated_store p) e)
made p q e (Ok v) is later ok turn = edited_store_is p q e v turn.0 turn.1 is later ok.1 turn.2 turn.3.0.0 turn.4
made p q e (Err f) is later ok turn = tt

pub refused_gives : (p q : Known) (e : Edit) (f : EditFault) → IsLater p q → q.receipts ≡ p.receipts → RefusesAt (project_seen q) (length q.seen) e f → q.seen ≡ own_journal q
    → EditGives (seated_store p) e (Err f) (seated_store q)
refused_gives p q e f later same refused alone = (
  subst (λ (n : ℕ). RefusesAt (seated_store p).project n e f) (version_alone p q later same alone)
      (subst (λ (P : Project). RefusesAt P (length q.seen) e f) (project_alone p q later same alone) refused),
  store_same p q later same,
)

-- ---- k

k_edited : (P : Project) (e : Edit) → (edited P e).k ≡ P.k
k_edited P (Entry proc index entry) = refl
k_edited P (Cut proc length) = refl
k_edited P (Word address word) = refl
k_edited P (Page page amount base) = refl
k_edited P (Depth queue depth) = refl
k_edited P (WaitDepth depth) = refl
k_edited P (Combine stage on) = refl
k_edited P (Window window) = refl
k_edited P (Horizon horizon) = refl

k_after : (P : Project) (es : List Noted) → (after_entries P es).k ≡ P.k
k_after P [] = refl
k_after P (e ∷ es) = k_after (edited P e.edit) es ∙ k_edited P e.edit

pub k_seated : (p : Known) → (seated_store p).project.k ≡ p.project.k
k_seated p = k_after p.project (drop (length p.opened) (own_journal p))
