use Rattle.change_rows.proofs.Growing.{blank_more, blank_end}
use Rattle.change_rows.proofs.grow.blank.Goals as goal

pub loop-c-preserved : goal.loop-c-preserved
loop-c-preserved c =
    let l = c.loop-c in
    record {
      found = blank_more l.out c.push.new.self l.c c.in_ok-push.ensures l.invariant.end l.invariant.found;
      end = blank_end l.out c.push.new.self l.c c.in_ok-push.ensures l.invariant.end;
    }
