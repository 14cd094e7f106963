use Rattle.change_rows.proofs.Noting.{head_more}
use Rattle.change_rows.proofs.sourced.ask_one.Goals as goal

pub returns-then-head_of-word_at-clause-notes : goal.returns-then-head_of-word_at-clause-notes
returns-then-head_of-word_at-clause-notes g c =
    let s = c.args.s.now in
    let h = c.head_of.ensures.kept in
    record {
      room = h.room s.width c.requires.notes.room;
      noted = head_more s.rows.items s.seam s.at s.width c.args.c (g.S.Source.words c.args.source.now c.args.c) c.args.n.now c.head_of.new.n c.requires.notes.noted c.requires.still.still h.apart h.kept h.others;
    }

pub returns-in_err-tells-in-Some-clause-notes : goal.returns-in_err-tells-in-Some-clause-notes
returns-in_err-tells-in-Some-clause-notes g c =
    let s = c.args.s.now in
    let h = c.head_of.ensures.kept in
    record {
      room = h.room s.width c.requires.notes.room;
      noted = head_more s.rows.items s.seam s.at s.width c.args.c (g.S.Source.words c.args.source.now c.args.c) c.args.n.now c.head_of.new.n c.requires.notes.noted c.requires.still.still h.apart h.kept h.others;
    }

pub returns-in_ok-tells-in-Some-clause-notes : goal.returns-in_ok-tells-in-Some-clause-notes
returns-in_ok-tells-in-Some-clause-notes g c =
    let s = c.args.s.now in
    let h = c.head_of.ensures.kept in
    record {
      room = h.room s.width c.requires.notes.room;
      noted = head_more s.rows.items s.seam s.at s.width c.args.c (g.S.Source.words c.args.source.now c.args.c) c.args.n.now c.head_of.new.n c.requires.notes.noted c.requires.still.still h.apart h.kept h.others;
    }
