use Rattle.std.proofs.Common.{◌∙◌, ◌<◌, sym, ap, arith, length}
use Rattle.std.proofs.lemmas.Bool.{false≢true}
use Rattle.change_rows.specs.Marks.{is_in}
use Rattle.change_rows.proofs.Members.{none_more}
use Rattle.change_rows.proofs.changes.is_any.Goals as goal

pub loop-i-preserved : goal.loop-i-preserved
loop-i-preserved c = λ d e.
    let here : c.loop-i.i < length c.args.cells.now = omega (arith, c.loop-i-test.true, c.len-i-end.ensures.count) in
    none_more c.args.cells.now c.loop-i.i c.component.result d here c.component.ensures (λ q. false≢true (sym c.if-is_member.false ∙ c.is_member.ensures ∙ ap (is_in c.args.set.now) (sym q) ∙ e)) (c.loop-i.invariant d e)
