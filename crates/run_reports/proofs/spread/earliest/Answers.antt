use Rattle.std.proofs.Common.{◌∙◌, ap, Option, Some, get_or, ℕ}
use Rattle.run_reports.specs.Completions.{or_less}
use Rattle.run_reports.proofs.Spreading.{earliest_more}
use Rattle.run_reports.proofs.spread.earliest.Goals as goal

pub loop-cycle-preserved : goal.loop-cycle-preserved
loop-cycle-preserved c =
    let ts = c.args.cycles.now in
    let i = c.loop-cycle.cycle-index in
    ap Some (c.or_less.ensures ∙ ap (λ (o : Option ℕ). or_less (get_or ts i 0) o) c.loop-cycle.invariant) ∙ earliest_more ts i 0 c.loop-cycle-test.true
