use Rattle.std.proofs.Common.{arith, ◌∙◌, sym, ap}
use Rattle.change_lists.specs.declared.begun.Begun.{Begun}
use Rattle.change_lists.proofs.Places.{last_stands}
use Rattle.change_lists.proofs.begun.last_of.Goals as goal

pub returns : goal.returns
returns g c =
    let x = c.index-begun-n.result in
    let stands = last_stands c.args.t c.args.n c.args.begun.now x c.requires.begun (omega (arith, c.if-n-eq0.false)) c.requires.within c.index-begun-n.is in
    c.as_ref.ensures.value ∙ sym (ap (λ (b : Begun g.row.V.Denot). b.value) c.index-begun-n.is) ∙ sym stands
