use Rattle.bench_core.proofs.Answering.{order_as}
use Rattle.bench_core.proofs.bench.Bench.answer_order.Goals as goal

pub returns-clause-settles : goal.returns-clause-settles
returns-clause-settles g c =
    order_as c.args.self.now c.settle_few.new.self c.tell_order.new.self c.tell_order.result c.tell_order.ensures.unchanged c.tell_order.ensures.in_time c.settle_few.ensures.settles
