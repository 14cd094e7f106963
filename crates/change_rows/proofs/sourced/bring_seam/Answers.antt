use Rattle.change_rows.proofs.Noting.{forgotten}
use Rattle.change_rows.proofs.sourced.bring_seam.Goals as goal

pub returns-in_err-settle-clause-notes : goal.returns-in_err-settle-clause-notes
returns-in_err-settle-clause-notes c =
    let s = c.settle.new.s in
    let n = c.forget.ensures in
    record {
      room = rw c.settle.ensures.edited.width (n.room c.args.s.now.width c.requires.notes.room);
      noted = forgotten s.rows.items s.seam s.at s.width c.forget.new.n n.apart n.known;
    }

pub returns-clause-notes : goal.returns-clause-notes
returns-clause-notes c =
    let s = c.settle.new.s in
    let n = c.forget.ensures in
    record {
      room = rw c.settle.ensures.edited.width (n.room c.args.s.now.width c.requires.notes.room);
      noted = forgotten s.rows.items s.seam c.args.t s.width c.forget.new.n n.apart n.known;
    }
