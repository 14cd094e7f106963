use Rattle.std.proofs.Common.{◌≡◌, ◌-◌, ◌<◌, ◌∙◌, ap, sym, arith, Bool, cond, None, Option, List, unwrap_or, is_some}
use Rattle.change_rows.specs.Cells.{Held, found}
use Rattle.change_rows.specs.Marks.{is_in}
use Rattle.change_rows.specs.Changes.{row_at}
use Rattle.change_rows.proofs.Running.{ran_all}
use Rattle.change_rows.proofs.run.repeat.Goals as goal

pub returns-clause-run : goal.returns-clause-run
returns-clause-run c = λ d u small here.
    let s = c.args.s.now in
    let m = c.settle.new.s in
    let e = c.in_ok-settle.ensures in
    let p = c.put_rows in
    let r = c.in_ok-rest.ensures in
    let low : d < m.width = omega (arith, small, e.edited.width) in
    let chosen : is_some (found c.chosen_of.new.out d) ≡ is_in c.args.set.now d = c.in_ok-chosen_of.ensures.chosen d low in
    ran_all s.rows.items m.rows.items p.new.s.rows.items s.seam m.seam c.seam_of.new.out c.swap.new.x c.chosen_of.new.out s.at m.at c.args.before c.args.last (c.args.last - c.args.before) d (is_in c.args.set.now d)
    c.requires.order (omega (arith, c.requires.row, e.edited.len)) e.settled (omega (arith, c.requires.order))
    (λ k l h. ap (λ (v : List Held). found v d) (p.ensures.rows k) ∙ r.found k d l h low ∙ ap (λ (b : Bool). cond b None (found (row_at m.rows.items k) d)) (sym chosen))
    (λ k h. p.ensures.rows k ∙ ap (λ (o : Option (List Held)). unwrap_or o (row_at m.rows.items k)) (r.before k h))
    (λ k h. p.ensures.rows k ∙ ap (λ (o : Option (List Held)). unwrap_or o (row_at m.rows.items k)) (r.behind k (omega (arith, h, c.requires.order))))
    (λ l w. c.in_ok-seam_of.ensures.kept l d w) (c.in_ok-seam_of.ensures.only d) e.same e.edited.len c.swap.ensures.x_after chosen u here
