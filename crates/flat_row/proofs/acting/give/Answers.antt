use Rattle.std.proofs.Common.{refl, Some}
use Rattle.omega_net.specs.Ports.{queue_at}
use Rattle.omega_net.specs.Queues.{joined}
use Rattle.flat_row.proofs.Ending.{same_level, changed_same, changed_here, changed_other}
use Rattle.flat_row.proofs.Processing.{shows_low, shows_comb, one_low, one_comb}
use Rattle.flat_row.proofs.acting.give.Goals as goal

pub returns-in-Low-clause-only : goal.returns-in-Low-clause-only
returns-in-Low-clause-only c =
    record {
      low_same = changed_same c.args.low.now c.give.new.self c.args.p (joined (queue_at c.args.low.now.queues c.args.p) (Some c.args.outgoing.request)) c.give.ensures;
      comb_same = same_level c.args.comb.now;
      low_others = λ q ne. changed_other c.args.low.now c.give.new.self c.args.p (joined (queue_at c.args.low.now.queues c.args.p) (Some c.args.outgoing.request)) c.give.ensures q ne;
      comb_others = λ q ne. refl;
    }

pub returns-in-Low-clause-one : goal.returns-in-Low-clause-one
returns-in-Low-clause-one c = one_low (queue_at c.args.low.now.queues c.args.p) (queue_at c.args.comb.now.queues c.args.p) (queue_at c.give.new.self.queues c.args.p) (queue_at c.args.comb.now.queues c.args.p) c.args.next.now c.args.outgoing c.requires.issued c.requires.outgoing (changed_here c.args.low.now c.give.new.self c.args.p (joined (queue_at c.args.low.now.queues c.args.p) (Some c.args.outgoing.request)) c.give.ensures c.requires.low) refl

pub returns-in-Low-clause-shown : goal.returns-in-Low-clause-shown
returns-in-Low-clause-shown c = shows_low (queue_at c.args.low.now.queues c.args.p) (queue_at c.args.comb.now.queues c.args.p) (queue_at c.give.new.self.queues c.args.p) (queue_at c.args.comb.now.queues c.args.p) c.args.next.now c.args.outgoing c.requires.issued c.requires.outgoing c.in-Low.is (changed_here c.args.low.now c.give.new.self c.args.p (joined (queue_at c.args.low.now.queues c.args.p) (Some c.args.outgoing.request)) c.give.ensures c.requires.low) refl

pub returns-in-Comb-clause-only : goal.returns-in-Comb-clause-only
returns-in-Comb-clause-only c =
    record {
      low_same = same_level c.args.low.now;
      comb_same = changed_same c.args.comb.now c.give-in-Comb.new.self c.args.p (joined (queue_at c.args.comb.now.queues c.args.p) (Some c.args.outgoing.request)) c.give-in-Comb.ensures;
      low_others = λ q ne. refl;
      comb_others = λ q ne. changed_other c.args.comb.now c.give-in-Comb.new.self c.args.p (joined (queue_at c.args.comb.now.queues c.args.p) (Some c.args.outgoing.request)) c.give-in-Comb.ensures q ne;
    }

pub returns-in-Comb-clause-one : goal.returns-in-Comb-clause-one
returns-in-Comb-clause-one c = one_comb (queue_at c.args.low.now.queues c.args.p) (queue_at c.args.comb.now.queues c.args.p) (queue_at c.args.low.now.queues c.args.p) (queue_at c.give-in-Comb.new.self.queues c.args.p) c.args.next.now c.args.outgoing c.requires.issued c.requires.outgoing refl (changed_here c.args.comb.now c.give-in-Comb.new.self c.args.p (joined (queue_at c.args.comb.now.queues c.args.p) (Some c.args.outgoing.request)) c.give-in-Comb.ensures c.requires.comb)

pub returns-in-Comb-clause-shown : goal.returns-in-Comb-clause-shown
returns-in-Comb-clause-shown c = shows_comb (queue_at c.args.low.now.queues c.args.p) (queue_at c.args.comb.now.queues c.args.p) (queue_at c.args.low.now.queues c.args.p) (queue_at c.give-in-Comb.new.self.queues c.args.p) c.args.next.now c.args.outgoing c.requires.issued c.requires.outgoing c.in-Comb.is refl (changed_here c.args.comb.now c.give-in-Comb.new.self c.args.p (joined (queue_at c.args.comb.now.queues c.args.p) (Some c.args.outgoing.request)) c.give-in-Comb.ensures c.requires.comb)
