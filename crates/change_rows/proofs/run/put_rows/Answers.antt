use Rattle.std.proofs.Common.{◌<◌, ◌≤◌, ◌∙◌, ap, arith, length}
use Rattle.std.proofs.Math.ListN.{length-set}
use Rattle.change_rows.specs.declared.run.Left.{Left}
use Rattle.change_rows.specs.Cells.{end_of}
use Rattle.change_rows.proofs.Leaving.{all_front, all_last, put_last}
use Rattle.change_rows.proofs.run.put_rows.Goals as goal

pub put_left-requires-clause-row : goal.put_left-requires-clause-row
put_left-requires-clause-row c =
    let l = c.loop-left in
    let i = l.invariant in
    omega (arith, i.len, all_last (λ (v : Left). v.row < length c.args.s.now.rows.items) l.rest.items c.pop.new.self.items c.in-Some.left c.in-Some.ensures.items i.rows)

pub put_left-requires-clause-wide : goal.put_left-requires-clause-wide
put_left-requires-clause-wide c =
    let l = c.loop-left in
    let i = l.invariant in
    omega (arith, i.width, all_last (λ (v : Left). end_of v.cells ≤ c.args.s.now.width) l.rest.items c.pop.new.self.items c.in-Some.left c.in-Some.ensures.items i.wide)

pub loop-left-preserved : goal.loop-left-preserved
loop-left-preserved c =
    let l = c.loop-left in
    let i = l.invariant in
    let s = l.s in
    let x = c.in-Some.left in
    let rest1 = c.pop.new.self.items in
    let popped = c.in-Some.ensures.items in
    let e = c.put_left.ensures in
    let here : x.row < length s.rows.items = omega (arith, i.len, all_last (λ (v : Left). v.row < length c.args.s.now.rows.items) l.rest.items rest1 x popped i.rows) in
    record {
      changes = e.changes;
      width = e.width ∙ i.width;
      seam = e.seam ∙ i.seam;
      len = ap length e.rows ∙ length-set s.rows.items x.row x.cells ∙ i.len;
      rows = all_front (λ (v : Left). v.row < length c.args.s.now.rows.items) l.rest.items rest1 x popped i.rows;
      wide = all_front (λ (v : Left). end_of v.cells ≤ c.args.s.now.width) l.rest.items rest1 x popped i.wide;
      same = λ u. put_last l.rest.items rest1 x s.rows.items c.put_left.new.s.rows.items popped here e.rows u ∙ i.same u;
    }
