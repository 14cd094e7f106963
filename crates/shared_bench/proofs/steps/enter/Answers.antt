use Rattle.std.proofs.Common.{rules, ◌∙◌, Some}
use Rattle.shared_bench.proofs.Turns.{comes_in}
use Rattle.shared_bench.proofs.Told.{got, in_hand}
use Rattle.shared_bench.proofs.steps.enter.Goals as goal

pub load-requires : goal.load-requires
load-requires c = let w = c.requires.waits in (search rules, search rules, comes_in _ _ _ _ w.2.0 w.2.2 w.1)

pub exchange-requires : goal.exchange-requires
exchange-requires c =
    let w = c.requires.waits in
    let h = got c.args.seat.now.me _ _ _ c.load.new.seat.me w.2.2 w.2.1 c.if-load-ticket.true c.load.ensures.2 in
    (c.load.ensures.0 ∙ c.requires.own.0, (Some h.0, in_hand c.args.seat.now.me c.load.new.seat.me _ h))
