use Rattle.std.proofs.Common.{◌≡◌, ◌∙◌, sym, ap, map}
use Rattle.std.specs.Prelude.{slice_get, option_and_then}
use Rattle.std.specs.Arc.{arc_value}
use Rattle.run_queries.specs.declared.body.Body.TheVariants.{Level as IsAt}
use Rattle.bench_core.specs.declared.asked.Asked.TheVariants.{Answer}
use Rattle.saturation.specs.Levels.{level}
use Rattle.bench_core.specs.Shown.{project_of, version_of}
use Rattle.bench_core.proofs.bench.Bench.level.Goals as goal

pub returns-in-Ok-lend : goal.returns-in-Ok-lend
returns-in-Ok-lend c =
    let P = project_of c.args.self.now in
    let lent : map (λ r. r.now) c.as_slice-in-Ok-lend.result.now ≡ map arc_value c.in-Ok.row.items =
    ap (map (λ r. r.now)) c.as_slice-in-Ok-lend.ensures.value ∙ (c.in-Ok-lend.ensures ∙ ap (map arc_value) c.as_slice.ensures.value) in
    let is : c.level-level.result ≡ level P c.args.net c.args.«module» (slice_get (map arc_value c.in-Ok.row.items)) = rw (lent, c.project.ensures) at c.level-level.ensures in
    rw (c.answered.ensures, is) (ap (λ o. Answer (version_of c.args.self.now) (IsAt (level P c.args.net c.args.«module» (λ k. option_and_then (λ S. slice_get S k) o)))) (sym c.in-Ok.ensures))
