use Rattle.std.proofs.Common.{◌∙◌, sym, ap, not, eqb, length, is_some}
use Rattle.cell_states.proofs.Codes.{has_state}
use Rattle.cell_states.proofs.Coded.{seen_at}
use Rattle.cell_states.proofs.states.States.has.Goals as goal

pub returns : goal.returns
returns g c =
    let i = c.self.inside in
    let C = g.G.Grid.codec in
    let s = c.args.self.now in
    let t = c.args.cell.cycle in
    let d = c.args.cell.component in
    ap not (c.is_empty.ensures ∙ ap (λ ws. eqb (length ws) 0) c.words.ensures) ∙ has_state C _ _ ∙ ap is_some (sym (seen_at C i.words i.memories s c.self.view_is c.self.invariant.0.whole t d))
