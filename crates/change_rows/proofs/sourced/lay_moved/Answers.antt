use Rattle.std.proofs.Common.{◌≡◌, ◌∙◌, sym, ap, arith, refl, Bool, not, true, false}
use Rattle.std.proofs.lemmas.Bool.{false≢true}
use Rattle.std.specs.Option.{option_copied}
use Rattle.change_rows.specs.Standing.{standing}
use Rattle.change_rows.specs.Changes.{begins_at}
use Rattle.change_rows.proofs.Standing.{at_once}
use Rattle.change_rows.proofs.Editing.{present, pushed_same, pushed_other}
use Rattle.change_rows.proofs.Merging.{pushed_end}
use Rattle.change_rows.proofs.Sourcing.{unless_kept, unless_others, unless_end}
use Rattle.change_rows.proofs.sourced.lay_moved.Goals as goal

pub returns-in_ok-same-in-Some-clause-pushed : goal.returns-in_ok-same-in-Some-clause-pushed
returns-in_ok-same-in-Some-clause-pushed g c =
    let e = c.in_ok-same-in-Some.ensures.cells in
    record {
      kept = present c.push_from.new.self c.args.c _ _ _ (pushed_same c.args.row.now c.push_from.new.self c.args.c _ e c.requires.next.ascending) refl;
      others = pushed_other c.args.row.now c.push_from.new.self c.args.c _ e;
      end = omega (arith, pushed_end c.args.row.now c.push_from.new.self c.args.c _ e, c.requires.next.ascending);
    }

pub returns-after-same-clause-pushed : goal.returns-after-same-clause-pushed
returns-after-same-clause-pushed g c =
    let e = c.in_ok-same-in-None.ensures in
    let before = c.words_before-before.result.now in
    record {
      kept = unless_kept c.args.row.now c.push_unless.new.self c.args.c (g.S.Source.words c.args.source.now c.args.c) _ c.in_ok-same-in-None.same e.cells c.requires.next.ascending (λ f. sym c.words_before-before.ensures ∙ e.same.0 f);
      others = unless_others c.args.row.now c.push_unless.new.self c.args.c (g.S.Source.words c.args.source.now c.args.c) before c.in_ok-same-in-None.same e.cells c.requires.next.ascending;
      end = unless_end c.args.row.now c.push_unless.new.self c.args.c (g.S.Source.words c.args.source.now c.args.c) before c.in_ok-same-in-None.same e.cells c.requires.next.ascending;
    }

is_not : (b : Bool) → not b ≡ false → b ≡ true
is_not true e = refl
is_not false e = sym e

pub returns-in_ok-same-in-Some-clause-told : goal.returns-in_ok-same-in-Some-clause-told
returns-in_ok-same-in-Some-clause-told g c =
    let s = c.args.s.now in
    let begins = begins_at s.rows.items s.seam s.at c.args.c in
    let stood : standing begins s.at ≡ c.in-Some.stood.now = at_once begins s.at c.in-Some.stood.now (sym c.begun_at.ensures ∙ ap option_copied c.in-Some.is) in
    record {
      other = λ o e. false≢true (sym (ap not (c.in_ok-same-in-Some.ensures.same.1 (sym stood ∙ e))) ∙ o);
      same = λ o. stood ∙ c.in_ok-same-in-Some.ensures.same.0 (is_not c.in_ok-same-in-Some.same o);
    }
