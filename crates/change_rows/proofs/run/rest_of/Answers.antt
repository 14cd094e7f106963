use Rattle.std.proofs.Common.{◌≡◌, ◌≤◌, ◌+◌, ◌∙◌, ap, arith, cond, None, ℕ}
use Rattle.std.proofs.lemmas.List.Elements.{All-push, All-same}
use Rattle.change_rows.specs.declared.run.Left.{Left}
use Rattle.change_rows.specs.Cells.{found, end_of}
use Rattle.change_rows.specs.Marks.{is_in}
use Rattle.change_rows.specs.Changes.{row_at}
use Rattle.change_rows.proofs.Leaving.{left_before, left_behind, left_found}
use Rattle.change_rows.proofs.run.rest_of.Goals as goal

pub loop-row-preserved : goal.loop-row-preserved
loop-row-preserved c =
    let s = c.args.s.now in
    let l = c.loop-row in
    let i = l.invariant in
    let set = c.args.set.now in
    let x = c.in_ok-left_of.field-0 in
    let n = c.next_begin-row-in-loop-row in
    let rest1 = c.push.new.self.items in
    let pushed = c.in-Ok.ensures.items in
    let is : x.row ≡ l.row = omega (arith, c.in_ok-left_of.ensures.row) in
    let next : l.row + 1 ≤ n.result = omega (arith, n.ensures.from) in
    let high : n.result ≤ c.args.last + 1 = omega (arith, n.ensures.to (omega (arith, c.loop-row-test.true)), c.requires.row, c.requires.changes.short) in
    record {
      low = omega (arith, i.low, next);
      high = high;
      rows = All-same (λ (v : Left). v.row ≤ c.args.last) rest1 _ pushed (All-push (λ (v : Left). v.row ≤ c.args.last) l.rest.items x i.rows (omega (arith, is, next, high)));
      end = All-same (λ (v : Left). end_of v.cells ≤ s.width) rest1 _ pushed (All-push (λ (v : Left). end_of v.cells ≤ s.width) l.rest.items x i.end c.in_ok-left_of.ensures.end);
      before = left_before s.rows.items s.seam s.at set l.rest.items rest1 x c.args.before l.row n.result s.width pushed is i.low i.behind i.before;
      behind = left_behind s.rows.items s.seam s.at set l.rest.items rest1 x c.args.before l.row n.result s.width pushed is i.low i.behind next;
      found = λ u d low below small.
          left_found s.rows.items s.seam s.at set l.rest.items rest1 x c.args.before l.row n.result s.width pushed is i.low i.behind d
          (c.in_ok-left_of.ensures.found d ∙ ap (λ (k : ℕ). cond (is_in set d) None (found (row_at s.rows.items k) d)) (omega arith))
          (λ k a b. n.ensures.steady k d a b small)
          (λ k a b. i.found k d a b small)
          u low below;
    }
