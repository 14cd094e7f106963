use Rattle.std.proofs.Common.{◌<◌, sym, subst, arith, refl}
use Rattle.comb_switch.specs.CombSwitch.{arrives}
use Rattle.flat_row.specs.Combining.{meeting}
use Rattle.flat_row.proofs.Crossed.{meeting_local, still_can, none_yet, some_there, one_met, all_met, few_yet}
use Rattle.flat_row.proofs.crossing.cross_forth.Goals as goal

pub loop-y-init : goal.loop-y-init
loop-y-init c = record { within = omega arith; partly = none_yet (meeting c.args.crossing.now.settings.bit) (arrives c.args.crossing.now.settings) (λ a. refl) c.args.crossing.now.settings.bit c.args.crossing.now.from c.args.crossing.now.to c.args.crossing.now.leave c.requires.can.by (meeting_local c.args.crossing.now.settings.bit) c.args.levels.now.items c.args.waits.now }

pub meet-requires-clause-can : goal.meet-requires-clause-can
meet-requires-clause-can c = still_can c.args.crossing.now.settings.bit c.args.crossing.now.from c.args.crossing.now.to c.args.levels.now.items c.args.waits.now c.requires.can c.loop-y.levels.items c.loop-y.waits c.loop-y.invariant.partly.shape c.loop-y.invariant.partly.entries

pub meet-requires-clause-from : goal.meet-requires-clause-from
meet-requires-clause-from c = subst (λ n. c.args.crossing.now.from < n) (sym c.loop-y.invariant.partly.shape.many) c.requires.from

pub meet-requires-clause-to : goal.meet-requires-clause-to
meet-requires-clause-to c = subst (λ n. c.args.crossing.now.to < n) (sym c.loop-y.invariant.partly.shape.many) c.requires.to

pub meet-requires-clause-there : goal.meet-requires-clause-there
meet-requires-clause-there c = c.in-Some.ensures.there.1

pub meet-requires-clause-some : goal.meet-requires-clause-some
meet-requires-clause-some c = some_there (meeting c.args.crossing.now.settings.bit) (arrives c.args.crossing.now.settings) (λ a. refl) c.args.crossing.now.settings.bit c.args.crossing.now.from c.args.crossing.now.to c.args.crossing.now.leave c.requires.can.by (meeting_local c.args.crossing.now.settings.bit) c.args.levels.now.items c.args.waits.now c.loop-y.levels.items c.loop-y.waits c.loop-y.next c.loop-y.invariant.partly c.in-Some.y c.in-Some.ensures.there.1 c.in-Some.ensures.there.0 c.in-Some.ensures.there.2 c.in-Some.ensures.passed c.requires.some

pub meet-requires-clause-few : goal.meet-requires-clause-few
meet-requires-clause-few c = few_yet c.args.crossing.now.settings c.args.crossing.now.settings.bit c.args.crossing.now.from c.args.crossing.now.to c.args.crossing.now.leave c.requires.can.by c.args.levels.now.items c.args.waits.now c.loop-y.levels.items c.loop-y.waits c.loop-y.next c.loop-y.invariant.partly c.requires.none c.in-Some.y c.in-Some.ensures.there.1 c.in-Some.ensures.there.0 c.in-Some.ensures.there.2 c.in-Some.ensures.passed

pub loop-y-smaller : goal.loop-y-smaller
loop-y-smaller c = omega (arith, c.in-Some.ensures.there.0, c.in-Some.ensures.there.1)

pub loop-y-preserved : goal.loop-y-preserved
loop-y-preserved c = record { within = omega (arith, c.in-Some.ensures.there.1); partly = one_met (meeting c.args.crossing.now.settings.bit) (arrives c.args.crossing.now.settings) (λ a. refl) c.args.crossing.now.settings.bit c.args.crossing.now.from c.args.crossing.now.to c.args.crossing.now.leave c.requires.can.by (meeting_local c.args.crossing.now.settings.bit) c.args.levels.now.items c.args.waits.now c.loop-y.levels.items c.loop-y.waits c.loop-y.next c.loop-y.invariant.partly c.in-Some.y c.in-Some.ensures.there.1 c.in-Some.ensures.there.0 c.in-Some.ensures.there.2 c.in-Some.ensures.passed c.meet.new.levels.items c.meet.new.waits c.meet.ensures }

pub returns : goal.returns
returns c = all_met (meeting c.args.crossing.now.settings.bit) (arrives c.args.crossing.now.settings) (λ a. refl) c.args.crossing.now.settings.bit c.args.crossing.now.from c.args.crossing.now.to c.args.crossing.now.leave c.requires.can.by (meeting_local c.args.crossing.now.settings.bit) c.args.levels.now.items c.args.waits.now c.loop-y.levels.items c.loop-y.waits c.loop-y.next c.loop-y.invariant.partly c.in_default.ensures.passed
