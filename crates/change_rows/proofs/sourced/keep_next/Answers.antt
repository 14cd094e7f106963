use Rattle.std.proofs.Common.{◌≡◌, ℕ, ◌<◌, ◌≤◌, ◌∙◌, sym, ap, arith, Some, List, true, false}
use Rattle.change_rows.specs.Marks.{is_in}
use Rattle.change_rows.proofs.Editing.{pushed_same, pushed_other}
use Rattle.change_rows.proofs.Merging.{pushed_end}
use Rattle.change_rows.proofs.Noting.{seam_more, seam_run}
use Rattle.change_rows.proofs.sourced.keep_next.Goals as goal

pub returns-then-c-end-clause-laid : goal.returns-then-c-end-clause-laid
returns-then-c-end-clause-laid c =
    let s = c.args.s.now in
    let n = c.same_to-end.ensures in
    let e = c.in_ok-append_under.ensures in
    let same : (d : ℕ) → c.args.c ≤ d → d < c.same_to-end.result → is_in c.args.kept.now d ≡ is_in c.args.k.now.under.items d = λ d l h. n.same d l h ∙ ap (λ (v : List ℕ). is_in v d) c.deref.ensures.value in
    let none : (d : ℕ) → c.args.c ≤ d → d < c.same_to-end.result → is_in c.args.kept.now d ≡ true → is_in c.args.k.now.own.items d ≡ false = λ d l h m. sym (ap (λ (v : List ℕ). is_in v d) c.deref-2.ensures.value) ∙ n.none d l h m in
    seam_run s.rows.items s.seam s.at c.args.kept.now c.args.c c.same_to-end.result s.width c.args.k.now c.args.seam.now c.append_under.new.out c.requires.laid n.from n.to c.requires.sorted.begun same none e.between e.others e.end

pub returns-clause-laid : goal.returns-clause-laid
returns-clause-laid c =
    let s = c.args.s.now in
    let was = c.args.seam.now in
    let laid = c.requires.laid in
    let pushed = c.in_ok-push.ensures in
    seam_more s.rows.items s.seam s.at c.args.kept.now c.args.c was c.push.new.self laid c.requires.member.member (pushed_same was c.push.new.self c.args.c _ pushed laid.end ∙ ap Some c.stood_at.ensures) (pushed_other was c.push.new.self c.args.c _ pushed) (omega (arith, pushed_end was c.push.new.self c.args.c _ pushed, laid.end))
