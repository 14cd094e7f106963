use Rattle.flat_row.proofs.Touching.{crossed_so}
use Rattle.flat_row.proofs.changed.crossed_at.Goals as goal

pub returns : goal.returns
returns c = crossed_so c.args.shape c.args.plan.now c.args.stage c.deciding_bit-by.result c.passed_at-ports.result c.at_first.result c.to_first.result c.deciding_bit-by.ensures c.passed_at-ports.ensures c.at_first.ensures c.to_first.ensures
