-- Counting an edit keeps the rule.
use Rattle.std.proofs.Common.{◌≡◌, ⊎_elim, inr, ℕ, ◌+◌, ◌%◌, ◌^◌, true, false, List, [], ◌∷◌, ◌++◌, length, get_or, set, append_assoc, length-append, sym, refl, ap, ◌∙◌, arith, Some}
use Rattle.std.proofs.lemmas.List.{append_cancel_left}
use mathlib.Core.Option.{none}
use Rattle.atomic_table.specs.Table.{step, Allows, keeps}
use Rattle.bench_core.specs.declared.noted.Noted.{Noted}
use Rattle.bench_core.specs.Shown.{Shown}
use Rattle.project_book.specs.declared.edit.Edit.{Edit}
use Rattle.shared_bench.specs.Legal.{noted, StartsWith, has}
use Rattle.shared_bench.specs.Answers.{after_entries, project_at}
use Rattle.shared_bench.specs.declared.view.View.{View}
use Rattle.shared_bench.specs.declared.view.Opening.{Opening}
use Rattle.shared_bench.specs.declared.view.Stage.TheVariants.{Serving}
use Rattle.shared_bench.specs.Rule.{World, Kept, IsSound, Fits, StageFits, first_project, journal_of, opened_of}
use Rattle.shared_bench.specs.Turn.{MayAdd, counted_in, counts}
use Rattle.shared_bench.proofs.Seats.{Mine, allows, one_step, starts_refl, starts_trans}
use Rattle.shared_bench.proofs.Turns.{stage_aside}
use Rattle.shared_bench.proofs.Journals.{bool_cases, project_since, folds_push, authors_push, drawn_push, entries_push_own, entries_push_other}

pub counts_now : (k : Opening) (slots id : ℕ) (m : Mine) (v : View) (d : Shown) → MayAdd v d → m ≡ (v, (0, Some d) ∷ [])
    → Allows (Kept k) slots id m 0 (λ x. (x + 1) % 2 ^ 64) (counts (step slots 0 1 0 none) m)
counts_now k slots id m v d may is = rw is (allows k slots id (v, (0, Some d) ∷ []) 0 (λ x. (x + 1) % 2 ^ 64) (counts (step slots 0 1 0 none) (v, (0, Some d) ∷ []))
    (λ w vs r sits.
    let a : ℕ = may.author in
    let n : Edit = may.edit in
    let may_pass = may.passes in
    let v' : View = counted_in a n v in
    let e : Noted = noted a n in
    let w' : World = record w { since = w.since ++ e ∷ [] } in
    let before : List Noted = journal_of k w.since in
    let after : List Noted = journal_of k w'.since in
    let base : ℕ = length (opened_of k) in
    let f : Fits k w id v = r.each id v sits in
    let serves : StageFits k w.since w.queue id v.seen (Serving may_pass.ticket may_pass.met) = rw may_pass.serves at f.stage in
    let seen : v.seen ≡ before = serves.4 in
    let turn : w.holder w.served ≡ id = ap w.holder (sym serves.0) ∙ serves.2 in
    let longer : after ≡ before ++ e ∷ [] = sym (append_assoc (opened_of k) w.since (e ∷ [])) in
    let on : StartsWith after before = (e ∷ [], longer) in
    let same_long : length v.seen ≡ length before = ap length seen in
    let more : length d.journal ≡ length v.seen + 1 = ap length may_pass.seen ∙ length-append v.seen (e ∷ []) in
    let short = may.short in
    let long : length before ≡ base + length w.since = length-append (opened_of k) w.since in
    let long' : length after ≡ length before + 1 = ap length longer ∙ length-append before (e ∷ []) in
    let counted : (length before + 1) % 2 ^ 64 ≡ length after = omega arith in
    let now_seen : v.seen ++ e ∷ [] ≡ after = ap (λ (l : List Noted). l ++ e ∷ []) seen ∙ sym longer in
    let version : base + length w.since + 1 ≡ length v.seen + 1 = omega arith in
    let o = f.knows.opened may_pass.here in
    let project : project_at v.project v.opened v.seen ≡ after_entries (first_project k) w.since = rw (o.0, o.2, seen) (project_since (first_project k) (opened_of k) w.since) in
    let owned = f.owns a may.own in
    let sound : IsSound k w'.since w.bits = record {
      short = omega arith;
      accepted = folds_push (first_project k) base w.since e r.sound.accepted (rw (← project, ← long, ← seen) may.accepted);
      authors = authors_push k.seats w.since e r.sound.authors owned.1;
      drawn = drawn_push w.bits w.since e r.sound.drawn owned.2;
    } in
    let mine : Fits k w' id v' = record {
      knows = record {
        opened = f.knows.opened;
        heard = starts_trans v.heard before after on f.knows.heard;
        distinct = f.knows.distinct;
        own = rw (f.knows.own, ← version) (sym (entries_push_own v.numbers base w.since e may.own));
      };
      goes_on = rw now_seen (starts_refl after);
      spent = f.spent;
      owns = f.owns;
      theirs = f.theirs;
      room = f.room;
      stage = rw may_pass.serves (serves.0, serves.1, serves.2, serves.3, now_seen, serves.5);
    } in (
      v',
      keeps,
      tt,
      (
        w',
        set vs id v',
        (λ i. record { words = counted i ∷ w.issued % 2 ^ 64 ∷ w.served % 2 ^ 64 ∷ w.bits ∷ []; homes = w.slot ∷ []; views = set vs id v' }),
        one_step k w w' vs id v v' r sits sound (inr (omega (arith, serves.0, serves.1))) refl (omega arith) mine
            (λ j u other g.
            let not_theirs : has a u.numbers ≡ false =
            ⊎_elim (λ (h : has a u.numbers ≡ true). absurd (other (sym (g.owns a h).0 ∙ owned.0))) (λ h. h) (bool_cases (has a u.numbers)) in
            record {
              knows = record {
                opened = g.knows.opened;
                heard = starts_trans u.heard before after on g.knows.heard;
                distinct = g.knows.distinct;
                own = g.knows.own ∙ sym (entries_push_other u.numbers base w.since e not_theirs);
              };
              goes_on = starts_trans u.seen before after on g.goes_on;
              spent = g.spent;
              owns = g.owns;
              theirs = g.theirs;
              room = g.room;
              stage = stage_aside k w.since w'.since u.seen w.queue w.served w.slot w.last id j turn other (omega arith) (λ h. absurd (omega arith)) u.stage g.stage;
            }),
      ),
      (λ a' n' more'.
          let same = ap (λ (l : List Noted). get_or l 0 e) (append_cancel_left v.seen (e ∷ []) (noted a' n' ∷ []) (sym may_pass.seen ∙ more')) in
          λ i. (counted_in (same i).author (same i).edit v, (0, Some d) ∷ [])),
    )))
