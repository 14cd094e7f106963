use Rattle.std.proofs.Common.{sym, ◌∙◌, arith}
use Rattle.std.specs.Prelude.{nat_le, slice_index}
use Rattle.saturation.proofs.Below.{none_and_next}
use Rattle.saturation.proofs.Firsts.{first_found, none_found}
use Rattle.experiments.proofs.map.first_cycle.Goals as goal

pub loop-cycle-init : goal.loop-cycle-init
loop-cycle-init c t h = absurd (omega arith)

pub returns-then-reaches : goal.returns-then-reaches
returns-then-reaches c =
    sym (first_found (λ t. nat_le c.args.least (slice_index c.args.levels.now t)) c.args.cycles c.loop-cycle.cycle c.loop-cycle-test.true c.loop-cycle.invariant
    (sym c.reaches.ensures ∙ c.if-reaches.true))

pub loop-cycle-preserved : goal.loop-cycle-preserved
loop-cycle-preserved c =
    none_and_next (λ t. nat_le c.args.least (slice_index c.args.levels.now t)) c.loop-cycle.cycle c.loop-cycle.invariant (sym c.reaches.ensures ∙ c.if-reaches.false)

pub returns : goal.returns
returns c =
    sym (none_found (λ t. nat_le c.args.least (slice_index c.args.levels.now t)) c.args.cycles (λ t lt. c.loop-cycle.invariant t (omega arith)))
