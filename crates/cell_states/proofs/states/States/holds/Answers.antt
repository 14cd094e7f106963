use Rattle.std.proofs.Common.{◌∙◌, sym}
use Rattle.cell_states.proofs.Codes.{put_is, holds_only}
use Rattle.cell_states.proofs.Coded.{seen_at}
use Rattle.cell_states.proofs.states.States.holds.Goals as goal

pub returns : goal.returns
returns g c =
    let i = c.self.inside in
    let C = g.G.Grid.codec in
    let s = c.args.self.now in
    let t = c.args.cell.cycle in
    let d = c.args.cell.component in
    let seen = seen_at C i.words i.memories s c.self.view_is c.self.invariant.0.whole t d in
    let e = c.is_code.ensures in (
      λ h. let p = e.same.0 h in seen ∙ (put_is C g.G.Grid.codec_laws _ _ c.args.state.now e.told (record { words_are = p.0 ∙ c.words-words.ensures; memory_is = p.1 ∙ c.at-memory.ensures })).0,
      λ h. let q = holds_only C g.G.Grid.codec_laws _ _ c.args.state.now (c.self.invariant.0.codes t d) (sym seen ∙ h) in e.same.1 (q.words_are ∙ sym c.words-words.ensures, q.memory_is ∙ sym c.at-memory.ensures),
    )
