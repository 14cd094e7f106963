use Rattle.std.proofs.Common.{◌≡◌, [], length, drop, sym, ◌∙◌, arith}
use Rattle.std.proofs.Math.ListN.{drop_of_length-le}
use Rattle.std.proofs.lemmas.Grind.{common_steps}
use Rattle.svg_plots.proofs.Runs.{runs_none, runs_begin, run_kept, run_added, run_last}
use Rattle.svg_plots.proofs.map.runs_of.Goals as goal
use Rattle.svg_plots.proofs.map.runs_of.Goals.{then-next-number+in_ok-push, else-next-number}

pub loop-at-preserved : goal.loop-at-preserved
loop-at-preserved c =
    elim c.if-next-number.branch [
      | then-next-number+in_ok-push w ↦ rw (w.runs-is, w.from-is, w.number-is, w.in_ok-push.ensures.items)
          (run_added c.loop-at.from c.loop-at.number c.loop-at.at c.args.row.now c.loop-at.runs.items c.loop-at-test.true w.if-next-number.true c.loop-at.invariant)
      | else-next-number w ↦ rw (w.runs-is, w.from-is, w.number-is)
          (run_kept c.loop-at.from c.loop-at.number c.loop-at.at c.args.row.now c.loop-at.runs.items c.loop-at-test.true w.if-next-number.false c.loop-at.invariant)
    ]

pub returns-then-is_empty : goal.returns-then-is_empty
returns-then-is_empty c = c.new-runs.ensures.items ∙ sym (runs_none c.args.row.now (grind (arith, common_steps, c.if-is_empty.ensures)))

pub loop-at-init : goal.loop-at-init
loop-at-init c = rw c.new-runs.ensures.items (runs_begin c.args.row.now (grind (arith, common_steps, c.if-is_empty.ensures)))

pub returns : goal.returns
returns c =
    let ends : c.loop-at.at ≡ length c.args.row.now = omega arith in
    let none : drop (length c.args.row.now) c.args.row.now ≡ [] = drop_of_length-le c.args.row.now (omega arith) in
    rw c.in_ok-push-2.ensures.items
    (sym (run_last c.loop-at.from c.loop-at.number (length c.args.row.now) c.args.row.now c.loop-at.runs.items none (rw ends at c.loop-at.invariant)))
