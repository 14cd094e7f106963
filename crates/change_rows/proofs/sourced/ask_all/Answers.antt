use Rattle.std.proofs.Common.{◌+◌, ◌∙◌, sym, subst, arith, ℕ, List}
use Rattle.change_rows.specs.Laid.{IsTold}
use Rattle.change_rows.proofs.Sourcing.{told_on, told_more}
use Rattle.change_rows.proofs.sourced.ask_all.Goals as goal

pub ask_one-requires-clause-still : goal.ask_one-requires-clause-still
ask_one-requires-clause-still g c =
    let l = c.loop-c in
    let small = c.loop-c-test.true in
    let member = l.invariant.member small in
    record { component = small; has = c.requires.has l.c small member; still = c.requires.still l.c small member }

pub loop-c-preserved : goal.loop-c-preserved
loop-c-preserved g c =
    let s = c.args.s.now in
    let l = c.loop-c in
    let i = l.invariant in
    let words = g.S.Source.words c.args.source.now in
    let asked = c.args.asked.now in
    let n = c.next_in-c-in-loop-c.ensures in
    let e = c.in_ok-other.ensures.told in
    let t = c.tell.ensures in
    let a = c.ask_one.ensures in
    let was : IsTold s.rows.items s.seam s.at s.at asked words l.c c.ask_one.new.n.other.items = subst (λ (v : List ℕ). IsTold s.rows.items s.seam s.at s.at asked words l.c v) (sym a.others) i.told in
    record {
      told = told_on s.rows.items s.seam s.at s.at asked words (l.c + 1) c.next_in-c-in-loop-c.result c.tell.new.changed.items (told_more s.rows.items s.seam s.at s.at asked words l.c c.ask_one.new.n.other.items c.tell.new.changed.items c.in_ok-other.other was (i.member c.loop-c-test.true) e.other e.same t.here t.none t.others) n.from n.passed;
      room = record { apart = a.notes.room.apart; known = a.notes.room.known; heads = a.notes.room.heads; other = omega (arith, a.notes.room.other, t.len); kept = a.notes.room.kept };
      noted = record { apart = a.notes.noted.apart; known = a.notes.noted.known };
      row = a.row ∙ i.row;
      within = n.to;
      member = n.there;
    }
