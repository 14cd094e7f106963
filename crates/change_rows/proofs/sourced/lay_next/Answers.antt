use Rattle.std.proofs.Common.{◌∙◌, ap, refl, arith}
use Rattle.change_rows.specs.Marks.{is_in}
use Rattle.change_rows.proofs.Sourcing.{not_in, told_one}
use Rattle.change_rows.proofs.Noting.{row_more, heads_more}
use Rattle.change_rows.proofs.sourced.lay_next.Goals as goal

pub returns-clause-laid : goal.returns-clause-laid
returns-clause-laid g c =
    let s = c.args.s.now in
    let words = g.S.Source.words c.args.source.now in
    let moved = c.args.k.now.moved.items in
    let laid = c.in_ok-other.ensures.laid in
    let told = c.in_ok-other.ensures.told in
    let t = c.tell.ensures in
    record {
      row = row_more s.rows.items s.seam s.at moved c.args.laid.now words c.args.c c.args.row.now c.lay_one.new.row c.requires.laid.row c.requires.member.member laid.kept laid.begun laid.others laid.end;
      told = told_one s.rows.items s.seam s.at s.at moved words c.args.c c.args.n.now.other.items c.tell.new.changed.items c.in_ok-other.other c.requires.laid.told told.other told.same t.here t.none t.others;
    }

pub returns-clause-heads : goal.returns-clause-heads
returns-clause-heads g c = λ heads was. heads_more c.args.k.now.moved.items (g.S.Source.words c.args.source.now) heads c.args.c c.args.n.now.heads.items c.lay_one.new.heads.items was c.in_ok-other.ensures.head c.lay_one.ensures.heads

pub returns-clause-stays : goal.returns-clause-stays
returns-clause-stays g c =
    let r = c.requires.room in
    record {
      room = record { apart = r.apart; known = r.known; heads = omega (arith, r.heads, c.lay_one.ensures.len); other = omega (arith, r.other, c.tell.ensures.len); kept = r.kept };
      apart = refl;
      known = refl;
      others = λ d m. c.lay_one.ensures.heads d (λ e i. not_in c.args.k.now.moved.items d m (ap (is_in c.args.k.now.moved.items) e ∙ i));
    }
