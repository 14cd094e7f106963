use Rattle.std.proofs.Common.{◌∙◌, ◌<◌, length, arith}
use Rattle.run_queries.specs.Answers.{answer}
use Rattle.bench_core.specs.Shown.{project_of}
use Rattle.experiments.proofs.Rows.{row_next}
use Rattle.experiments.proofs.sweep.told_each.Goals as goal

pub loop-query-preserved : goal.loop-query-preserved
loop-query-preserved g c =
    let same = c.loop-query.invariant.0 in
    let within : c.loop-query.query-index < length c.args.queries.now = omega arith in (
      c.told_or_bad.ensures.project ∙ same,
      c.in_ok-push.ensures.items
          ∙ row_next answer c.args.queries.now c.loop-query.row.items c.loop-query.query-index _ c.in-Ok.says (project_of c.args.bench.now)
          (project_of c.loop-query.bench) within same c.loop-query.invariant.1 c.in-Ok.ensures.answer,
    )
