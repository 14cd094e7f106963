use Rattle.std.proofs.Common.{◌<◌, sym, subst, arith, refl}
use Rattle.flat_row.proofs.Ending.{none_answered, one_answered, all_answered}
use Rattle.flat_row.proofs.serving.answer.Goals as goal

pub loop-m-init : goal.loop-m-init
loop-m-init c = record { within = omega arith; partly = none_answered c.args.modules c.args.answers.now c.args.level.now }

pub give-requires-clause-there : goal.give-requires-clause-there
give-requires-clause-there c = subst (λ n. c.in-Some.m < n) (sym c.loop-m.invariant.partly.same.many) (c.requires c.in-Some.m c.in-Some.ensures.there.1 c.in-Some.ensures.there.2)

pub loop-m-smaller : goal.loop-m-smaller
loop-m-smaller c = omega (arith, c.in-Some.ensures.there.0, c.in-Some.ensures.there.1)

pub loop-m-preserved : goal.loop-m-preserved
loop-m-preserved c = record {
  within = omega (arith, c.in-Some.ensures.there.1);
  partly = one_answered c.args.modules c.args.answers.now c.args.level.now c.loop-m.next c.loop-m.level c.loop-m.invariant.partly
      c.in-Some.m c.in-Some.ensures.there.1 c.in-Some.ensures.there.0 c.in-Some.ensures.passed c.in-Some.ensures.there.2 c.give.new.self _ refl
      (subst (λ n. c.in-Some.m < n) (sym c.loop-m.invariant.partly.same.many) (c.requires c.in-Some.m c.in-Some.ensures.there.1 c.in-Some.ensures.there.2)) c.give.ensures;
}

pub returns-clause-shape : goal.returns-clause-shape
returns-clause-shape c = c.loop-m.invariant.partly.same

pub returns-clause-answered : goal.returns-clause-answered
returns-clause-answered c = all_answered c.args.modules c.args.answers.now c.args.level.now c.loop-m.next c.loop-m.level c.loop-m.invariant.partly c.in_default.ensures.passed
