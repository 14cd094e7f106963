use Rattle.change_rows.proofs.Lined.{covered_put}
use Rattle.change_rows.proofs.marks.Marks.put.Goals as goal

pub invariant_of-self : goal.invariant_of-self
invariant_of-self c =
    let i = c.self.inside in
    covered_put i.words.items i.blocks.items c.args.t c.args.word c.index.result.now c.self.invariant (rw (← c.self.view_is) at c.requires) c.index.ensures
