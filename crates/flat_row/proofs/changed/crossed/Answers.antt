use Rattle.std.proofs.Common.{[], ◌∷◌, sym, refl, ◌∙◌, arith}
use Rattle.std.proofs.Math.ListN.{length-set}
use Rattle.flat_row.specs.Masks.{IsSetOf}
use Rattle.flat_row.specs.Changed.{crosses}
use Rattle.flat_row.proofs.Touching.{stages_so, still_sets}
use Rattle.flat_row.proofs.changed.crossed.Goals as goal

pub loop-stage-preserved : goal.loop-stage-preserved
loop-stage-preserved c = record {
  long = length-set c.loop-stage.sets c.loop-stage.stage c.crossed_at.result ∙ c.loop-stage.invariant.long;
  all = stages_so (λ s set. IsSetOf (crosses c.args.shape c.args.plan.now s) set) c.loop-stage.stage c.loop-stage.sets c.crossed_at.result
      (omega (arith, c.loop-stage.invariant.long, c.loop-stage-test.true, c.k-stage-end.ensures.within)) c.loop-stage.invariant.all c.crossed_at.ensures;
}

pub returns-then-is_still-clause-sets : goal.returns-then-is_still-clause-sets
returns-then-is_still-clause-sets c = still_sets c.args.shape c.args.plan.now (sym c.is_still.ensures ∙ c.if-is_still.true) (0 ∷ 0 ∷ 0 ∷ 0 ∷ 0 ∷ 0 ∷ []) refl
