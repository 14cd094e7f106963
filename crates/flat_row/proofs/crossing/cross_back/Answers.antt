use Rattle.std.proofs.Common.{◌<◌, sym, subst, arith, refl}
use Rattle.comb_switch.specs.CombSwitch.{returns_to}
use Rattle.flat_row.specs.Combining.{splitting}
use Rattle.flat_row.proofs.Crossed.{splitting_local, still_can, none_yet, some_there, one_met, all_met}
use Rattle.flat_row.proofs.crossing.cross_back.Goals as goal

pub loop-y-init : goal.loop-y-init
loop-y-init c = record { within = omega arith; partly = none_yet (splitting c.args.crossing.now.settings.bit) (returns_to c.args.crossing.now.settings) (λ a. refl) c.args.crossing.now.settings.bit c.args.crossing.now.from c.args.crossing.now.to c.args.crossing.now.leave c.requires.can.by (splitting_local c.args.crossing.now.settings.bit) c.args.levels.now.items c.args.waits.now }

pub return_one-requires-clause-can : goal.return_one-requires-clause-can
return_one-requires-clause-can c = still_can c.args.crossing.now.settings.bit c.args.crossing.now.from c.args.crossing.now.to c.args.levels.now.items c.args.waits.now c.requires.can c.loop-y.levels.items c.loop-y.waits c.loop-y.invariant.partly.shape c.loop-y.invariant.partly.entries

pub return_one-requires-clause-from : goal.return_one-requires-clause-from
return_one-requires-clause-from c = subst (λ n. c.args.crossing.now.from < n) (sym c.loop-y.invariant.partly.shape.many) c.requires.from

pub return_one-requires-clause-to : goal.return_one-requires-clause-to
return_one-requires-clause-to c = subst (λ n. c.args.crossing.now.to < n) (sym c.loop-y.invariant.partly.shape.many) c.requires.to

pub return_one-requires-clause-there : goal.return_one-requires-clause-there
return_one-requires-clause-there c = c.in-Some.ensures.there.1

pub return_one-requires-clause-some : goal.return_one-requires-clause-some
return_one-requires-clause-some c = some_there (splitting c.args.crossing.now.settings.bit) (returns_to c.args.crossing.now.settings) (λ a. refl) c.args.crossing.now.settings.bit c.args.crossing.now.from c.args.crossing.now.to c.args.crossing.now.leave c.requires.can.by (splitting_local c.args.crossing.now.settings.bit) c.args.levels.now.items c.args.waits.now c.loop-y.levels.items c.loop-y.waits c.loop-y.next c.loop-y.invariant.partly c.in-Some.y c.in-Some.ensures.there.1 c.in-Some.ensures.there.0 c.in-Some.ensures.there.2 c.in-Some.ensures.passed c.requires.some

pub loop-y-smaller : goal.loop-y-smaller
loop-y-smaller c = omega (arith, c.in-Some.ensures.there.0, c.in-Some.ensures.there.1)

pub loop-y-preserved : goal.loop-y-preserved
loop-y-preserved c = record { within = omega (arith, c.in-Some.ensures.there.1); partly = one_met (splitting c.args.crossing.now.settings.bit) (returns_to c.args.crossing.now.settings) (λ a. refl) c.args.crossing.now.settings.bit c.args.crossing.now.from c.args.crossing.now.to c.args.crossing.now.leave c.requires.can.by (splitting_local c.args.crossing.now.settings.bit) c.args.levels.now.items c.args.waits.now c.loop-y.levels.items c.loop-y.waits c.loop-y.next c.loop-y.invariant.partly c.in-Some.y c.in-Some.ensures.there.1 c.in-Some.ensures.there.0 c.in-Some.ensures.there.2 c.in-Some.ensures.passed c.return_one.new.levels.items c.return_one.new.waits c.return_one.ensures }

pub returns : goal.returns
returns c = all_met (splitting c.args.crossing.now.settings.bit) (returns_to c.args.crossing.now.settings) (λ a. refl) c.args.crossing.now.settings.bit c.args.crossing.now.from c.args.crossing.now.to c.args.crossing.now.leave c.requires.can.by (splitting_local c.args.crossing.now.settings.bit) c.args.levels.now.items c.args.waits.now c.loop-y.levels.items c.loop-y.waits c.loop-y.next c.loop-y.invariant.partly c.in_default.ensures.passed
