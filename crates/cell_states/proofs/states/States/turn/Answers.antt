use Rattle.std.proofs.Common.{◌∙◌, sym}
use Rattle.cell_states.proofs.Coded.{seen_at}
use Rattle.cell_states.proofs.Whole.{is_told_by}
use Rattle.cell_states.proofs.states.States.turn.Goals as goal

pub returns-clause-ahead : goal.returns-clause-ahead
returns-clause-ahead g c = λ a t u e le.
    let i = c.self.inside in
    let C = g.G.Grid.codec in
    let k = c.args.cell.cycle in
    let d = c.args.cell.component in
    let seen = seen_at C i.words i.memories c.args.self.now c.self.view_is c.self.invariant.0.whole k d in
    let q = is_told_by C g.G.Grid.codec_laws _ _ (c.self.invariant.0.codes k d) _ (sym seen ∙ e) in
    c.turn.ensures.ahead a t u (q.1 ∙ sym c.words-words.ensures) le

pub returns-clause-passed : goal.returns-clause-passed
returns-clause-passed g c = λ a t u e le.
    let i = c.self.inside in
    let C = g.G.Grid.codec in
    let k = c.args.cell.cycle in
    let d = c.args.cell.component in
    let seen = seen_at C i.words i.memories c.args.self.now c.self.view_is c.self.invariant.0.whole k d in
    let q = is_told_by C g.G.Grid.codec_laws _ _ (c.self.invariant.0.codes k d) _ (sym seen ∙ e) in
    c.turn.ensures.passed a t u (q.1 ∙ sym c.words-words.ensures) le
