use Rattle.std.proofs.Common.{arith}
use Rattle.change_rows.proofs.Merging.{pushed_end}
use Rattle.change_rows.proofs.Filling.{filled_more, filled_still}
use Rattle.change_rows.proofs.fill.write_all.Goals as goal

pub loop-c-preserved : goal.loop-c-preserved
loop-c-preserved g c =
    let l = c.loop-c in
    let i = l.invariant in
    let n = c.next_in-c-in-loop-c.ensures in
    let words = g.S.Source.words c.args.source.now in
    let pushed = c.in_ok-push_from.ensures.cells in
    let member = i.member c.loop-c-test.true in
    record {
      written = filled_more c.args.moved.now words l.c c.next_in-c-in-loop-c.result l.row c.push_from.new.self pushed i.end member n.passed i.written;
      still = filled_still c.args.moved.now words l.c c.next_in-c-in-loop-c.result l.row c.push_from.new.self pushed i.end member i.still;
      end = omega (arith, pushed_end l.row c.push_from.new.self l.c (words l.c) pushed, i.end, n.from);
      within = n.to;
      member = n.there;
    }
