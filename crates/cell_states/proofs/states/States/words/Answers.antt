use Rattle.std.proofs.Common.{◌∙◌, sym}
use Rattle.cell_states.proofs.Codes.{no_state, no_words}
use Rattle.cell_states.proofs.Coded.{seen_at}
use Rattle.cell_states.proofs.Whole.{is_told_by}
use Rattle.cell_states.proofs.states.States.words.Goals as goal

pub returns-clause-none : goal.returns-clause-none
returns-clause-none g c =
    let i = c.self.inside in
    let C = g.G.Grid.codec in
    let t = c.args.cell.cycle in
    let d = c.args.cell.component in
    let seen = seen_at C i.words i.memories c.args.self.now c.self.view_is c.self.invariant.0.whole t d in
    (λ e. seen ∙ no_state C _ _ (sym c.words.ensures ∙ e), λ e. c.words.ensures ∙ no_words C _ _ (sym seen ∙ e))

pub returns-clause-told : goal.returns-clause-told
returns-clause-told g c = λ x e.
    let i = c.self.inside in
    let C = g.G.Grid.codec in
    let t = c.args.cell.cycle in
    let d = c.args.cell.component in
    let seen = seen_at C i.words i.memories c.args.self.now c.self.view_is c.self.invariant.0.whole t d in
    let q = is_told_by C g.G.Grid.codec_laws _ _ (c.self.invariant.0.codes t d) x (sym seen ∙ e) in
    (q.0, q.1 ∙ sym c.words.ensures)
