use Rattle.std.proofs.Common.{◌<◌, ◌≤◌, ◌∙◌, ap, sym, arith, List, length}
use Rattle.change_rows.specs.Cells.{Held, found, end_of}
use Rattle.change_rows.proofs.Merging.{taken_end, pushed_end}
use Rattle.change_rows.proofs.Running.{left_out, left_more}
use Rattle.change_rows.proofs.run.without.Goals as goal
use Rattle.change_rows.proofs.run.without.Goals.{then-not-is_member+in_ok-push, else-not-is_member}

pub loop-i-preserved : goal.loop-i-preserved
loop-i-preserved c =
    let l = c.loop-i in
    let cells = c.args.cells.now in
    let set = c.args.set.now in
    let h : l.i < length cells = omega (arith, c.loop-i-test.true, c.len-i-end.ensures.count) in
    let low : end_of l.out ≤ c.component-c.result = omega (arith, l.invariant.end, c.len-i-end.ensures.ascending l.i h, c.component-c.ensures) in
    elim c.if-not-is_member.branch [
      | then-not-is_member+in_ok-push w ↦ record {
        found = λ d. ap (λ (v : List Held). found v d) w.out-is ∙ left_more cells l.out w.push.new.self set l.i c.component-c.result w.words.result.now c.len-i-end.ensures.ascending h c.component-c.ensures w.words.ensures (sym c.is_member.ensures ∙ w.if-not-is_member.true) low w.in_ok-push.ensures l.invariant.found d;
        end = omega (arith, ap end_of w.out-is, pushed_end l.out w.push.new.self c.component-c.result w.words.result.now w.in_ok-push.ensures, taken_end cells l.i h, l.invariant.end, c.component-c.ensures);
      }
      | else-not-is_member w ↦ record {
        found = λ d. ap (λ (v : List Held). found v d) w.out-is ∙ left_out cells l.out set l.i c.component-c.result h c.component-c.ensures (sym c.is_member.ensures ∙ w.if-not-is_member.false) l.invariant.found d;
        end = omega (arith, ap end_of w.out-is, taken_end cells l.i h, l.invariant.end);
      }
    ]
