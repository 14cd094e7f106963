use Rattle.change_rows.proofs.Viewing.{view_cut}
use Rattle.change_rows.proofs.Noting.{kept_anew}
use Rattle.change_rows.proofs.rows.Rows.truncate.Goals as goal

pub returns : goal.returns
returns c =
    let i = c.self.inside.changes in
    let s = c.cut.new.s in
    view_cut i.rows.items s.rows.items i.seam s.seam i.at s.at i.width s.width c.args.n c.args.self.now c.self.view_is c.cut.ensures.width c.cut.ensures.len c.cut.ensures.same

pub invariant_of-self : goal.invariant_of-self
invariant_of-self c = kept_anew c.self.inside.changes.width c.cut.new.s.width c.cut.new.s.rows.items c.cut.new.s.marks.items c.cut.new.s.seam c.cut.new.s.at c.self.inside.kinds c.self.inside.notes c.forget.new.n c.cut.ensures.changes c.cut.ensures.width (c.self.invariant.room) c.self.invariant.notes c.forget.ensures.room c.forget.ensures.apart c.forget.ensures.known
