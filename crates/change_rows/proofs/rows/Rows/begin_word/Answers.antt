use Rattle.std.proofs.Common.{◌<◌, ◌%◌, ◌∙◌, sym, ap, arith, length}
use Rattle.std.proofs.lemmas.Bool.{false≢true}
use Rattle.change_rows.specs.Rows.{Table}
use Rattle.change_rows.proofs.Members.{all_ones}
use Rattle.change_rows.proofs.Viewing.{view_steady}
use Rattle.change_rows.proofs.rows.Rows.begin_word.Goals as goal

pub returns-then-t-eq0 : goal.returns-then-t-eq0
returns-then-t-eq0 c = λ d _ _ none. absurd (false≢true (sym none ∙ all_ones (d % 64) (omega arith)))

pub returns : goal.returns
returns c = λ d place small none.
    let i = c.self.inside.changes in
    let some : 0 < c.args.t = omega (arith, c.if-t-eq0.false) in
    let here : c.args.t < length i.rows.items = omega (arith, c.if-t-len.false, c.len.ensures, i.rows.ok.0) in
    let low : d < i.width = omega (arith, small, ap (λ (v : Table). v.width) c.self.view_is) in
    (some, view_steady i.rows.items i.seam i.at i.width c.args.t d c.args.self.now c.self.view_is some here low (c.begin_word.ensures d place low none))
