use Rattle.std.proofs.Common.{◌∙◌, sym}
use Rattle.cell_states.proofs.Codes.{holds_only}
use Rattle.cell_states.proofs.Coded.{seen_at}
use Rattle.cell_states.proofs.states.States.memory.Goals as goal

pub returns : goal.returns
returns g c = λ x e.
    let i = c.self.inside in
    let C = g.G.Grid.codec in
    let t = c.args.cell.cycle in
    let d = c.args.cell.component in
    let seen = seen_at C i.words i.memories c.args.self.now c.self.view_is c.self.invariant.0.whole t d in
    (holds_only C g.G.Grid.codec_laws _ _ x (c.self.invariant.0.codes t d) (sym seen ∙ e)).memory_is ∙ sym c.at.ensures
