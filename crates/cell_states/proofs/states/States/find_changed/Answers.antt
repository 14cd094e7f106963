use Rattle.std.proofs.Common.{◌∙◌, ◌<◌, sym, arith, length}
use Rattle.cell_states.proofs.Codes.{same_code}
use Rattle.cell_states.proofs.Coded.{seen_width, seen_cycles, seen_at}
use Rattle.cell_states.proofs.states.States.find_changed.Goals as goal

pub find_changed-requires-clause-within : goal.find_changed-requires-clause-within
find_changed-requires-clause-within g c =
    let i = c.self.inside in
    omega (arith, c.requires.within, seen_cycles g.G.Grid.codec i.words i.memories c.args.self.now c.self.view_is)

pub find_changed-requires-clause-width : goal.find_changed-requires-clause-width
find_changed-requires-clause-width g c =
    let i = c.self.inside in
    c.requires.width ∙ seen_width g.G.Grid.codec i.words i.memories c.args.self.now c.self.view_is

pub returns-clause-same : goal.returns-clause-same
returns-clause-same g c = λ d h a.
    let i = c.self.inside in
    let C = g.G.Grid.codec in
    let inside : d < length c.args.marks.now = omega (arith, h, c.requires.width) in
    seen_at C i.words i.memories c.args.self.now c.self.view_is c.self.invariant.0.whole c.args.to d
    ∙ same_code C _ _ _ _ (c.find_changed.ensures.words d inside a) (c.find_changed.ensures.memory d inside a)
    ∙ sym (seen_at C i.words i.memories c.args.self.now c.self.view_is c.self.invariant.0.whole c.args.from d)
