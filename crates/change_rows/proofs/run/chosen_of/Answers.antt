use Rattle.change_rows.proofs.Leaving.{chosen_more, chosen_end}
use Rattle.change_rows.proofs.run.chosen_of.Goals as goal

pub loop-c-preserved : goal.loop-c-preserved
loop-c-preserved c =
    let l = c.loop-c in
    let i = l.invariant in
    let n = c.next_in-c-in-loop-c.ensures in
    record {
      chosen = chosen_more c.args.set.now l.out c.push.new.self l.c c.next_in-c-in-loop-c.result _ c.in_ok-push.ensures i.end (i.member c.loop-c-test.true) n.passed i.chosen;
      end = chosen_end c.args.set.now l.out c.push.new.self l.c c.next_in-c-in-loop-c.result _ c.in_ok-push.ensures i.end (i.member c.loop-c-test.true) n.passed n.from;
      within = n.to;
      member = n.there;
    }
