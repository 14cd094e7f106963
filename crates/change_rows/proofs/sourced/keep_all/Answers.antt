use Rattle.change_rows.proofs.Noting.{seam_on}
use Rattle.change_rows.proofs.sourced.keep_all.Goals as goal

pub loop-c-preserved : goal.loop-c-preserved
loop-c-preserved c =
    let s = c.args.s.now in
    let n = c.next_in-c-in-loop-c.ensures in
    record {
      laid = seam_on s.rows.items s.seam s.at c.args.kept.now c.in_ok-next.next c.next_in-c-in-loop-c.result c.keep_next.new.seam c.in_ok-next.ensures.laid n.from n.passed;
      within = n.to;
      member = n.there;
    }
