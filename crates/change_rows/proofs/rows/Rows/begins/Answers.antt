use Rattle.std.proofs.Common.{◌<◌, arith, length}
use Rattle.change_rows.proofs.Viewing.{view_steady}
use Rattle.change_rows.proofs.rows.Rows.begins.Goals as goal

pub returns : goal.returns
returns c = λ none.
    let i = c.self.inside.changes in
    let some : 0 < c.args.t = omega (arith, c.if-t-eq0.false) in
    let here : c.args.t < length i.rows.items = omega (arith, c.if-t-len.false, c.len.ensures, i.rows.ok.0) in
    (some, view_steady i.rows.items i.seam i.at i.width c.args.t c.args.c c.args.self.now c.self.view_is some here (omega (arith, c.if-c-self.false)) (c.begins_in.ensures none))
