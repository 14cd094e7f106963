use Rattle.std.proofs.Common.{◌≡◌, ◌∙◌, subst, arith, refl}
use Rattle.std.proofs.Math.ListN.{length-set}
use Rattle.flat_row.specs.Leaving.{AllForth}
use Rattle.flat_row.proofs.Sending.{forth_stages}
use Rattle.flat_row.proofs.row.Row.forth.Goals as goal

pub loop-stage-init : goal.loop-stage-init
loop-stage-init c = record { leave = refl; turns = refl; all = λ s h. absurd (omega arith) }

pub requests_at-decided-requires-clause-stage : goal.requests_at-decided-requires-clause-stage
requests_at-decided-requires-clause-stage c = omega (arith, c.loop-stage-test.true, c.k-stage-end.ensures.k)

pub loop-stage-preserved : goal.loop-stage-preserved
loop-stage-preserved c = record {
  leave = length-set c.loop-stage.leave c.loop-stage.stage c.requests_at-decided.result.leave ∙ c.loop-stage.invariant.leave;
  turns = length-set c.loop-stage.turns c.loop-stage.stage c.requests_at-decided.result.turn ∙ c.loop-stage.invariant.turns;
  all = forth_stages c.args.project.now c.args.self.now c.args.net c.loop-stage.stage c.loop-stage.leave c.loop-stage.turns c.requests_at-decided.result.leave c.requests_at-decided.result.turn
      (omega (arith, c.loop-stage.invariant.leave, c.loop-stage-test.true, c.k-stage-end.ensures.k, c.k-stage-end.ensures.small)) (omega (arith, c.loop-stage.invariant.turns, c.loop-stage-test.true, c.k-stage-end.ensures.k, c.k-stage-end.ensures.small))
      c.loop-stage.invariant.all c.requests_at-decided.ensures;
}

pub returns-clause-long : goal.returns-clause-long
returns-clause-long c = c.loop-stage.invariant.turns

pub returns-clause-stages : goal.returns-clause-stages
returns-clause-stages c =
    let end : c.loop-stage.stage ≡ c.args.project.now.k = omega (arith, c.loop-stage-test.false, c.k-stage-end.ensures.k, c.loop-stage.auto.stage-end) in
    subst (λ n. AllForth c.args.project.now c.args.self.now c.args.net n c.loop-stage.leave c.loop-stage.turns) end c.loop-stage.invariant.all
