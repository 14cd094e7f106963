use Rattle.std.proofs.Common.{arith, refl}
use Rattle.flat_row.proofs.Ending.{none_received, some_received, one_received, all_received, some_within}
use Rattle.flat_row.proofs.acting.receive.Goals as goal

pub loop-p-init : goal.loop-p-init
loop-p-init c = record { within = omega arith; partly = none_received c.args.set c.args.level.now (record { set = c.args.set; at = c.args.at.now }) refl c.told-at }

pub take-requires-clause-there : goal.take-requires-clause-there
take-requires-clause-there c = some_within c.loop-p.level.queues c.in-Some.p (some_received c.args.set c.args.level.now c.loop-p.next c.loop-p.level (record { set = c.args.set; at = c.loop-p.at }) c.loop-p.invariant.partly c.in-Some.p c.in-Some.ensures.there.1 c.in-Some.ensures.there.0 c.in-Some.ensures.passed c.in-Some.ensures.there.2 c.requires)

pub take-requires-clause-some : goal.take-requires-clause-some
take-requires-clause-some c = some_received c.args.set c.args.level.now c.loop-p.next c.loop-p.level (record { set = c.args.set; at = c.loop-p.at }) c.loop-p.invariant.partly c.in-Some.p c.in-Some.ensures.there.1 c.in-Some.ensures.there.0 c.in-Some.ensures.passed c.in-Some.ensures.there.2 c.requires

pub loop-p-smaller : goal.loop-p-smaller
loop-p-smaller c = omega (arith, c.in-Some.ensures.there.0, c.in-Some.ensures.there.1)

pub loop-p-preserved : goal.loop-p-preserved
loop-p-preserved c = record {
  within = omega (arith, c.in-Some.ensures.there.1);
  partly = one_received c.args.set c.args.level.now c.loop-p.next c.loop-p.level (record { set = c.args.set; at = c.loop-p.at }) c.loop-p.invariant.partly c.in-Some.p c.in-Some.ensures.there.1 c.in-Some.ensures.there.0 c.in-Some.ensures.passed c.in-Some.ensures.there.2 c.take.new.self _ c.take.result (some_within c.loop-p.level.queues c.in-Some.p (some_received c.args.set c.args.level.now c.loop-p.next c.loop-p.level (record { set = c.args.set; at = c.loop-p.at }) c.loop-p.invariant.partly c.in-Some.p c.in-Some.ensures.there.1 c.in-Some.ensures.there.0 c.in-Some.ensures.passed c.in-Some.ensures.there.2 c.requires)) c.take.ensures.value c.take.ensures.after refl refl;
}

pub returns-clause-shape : goal.returns-clause-shape
returns-clause-shape c = c.loop-p.invariant.partly.same

pub returns-clause-received : goal.returns-clause-received
returns-clause-received c = all_received c.args.set c.args.level.now c.loop-p.next c.loop-p.level (record { set = c.args.set; at = c.loop-p.at }) c.loop-p.invariant.partly c.in_default.ensures.passed
