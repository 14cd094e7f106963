use Rattle.std.proofs.Common.{ap, ◌∙◌, Result}
use Rattle.std.specs.Prelude.{IfOk}
use Rattle.rayon.specs.Lists.{min_len_base}
use Rattle.rayon.specs.declared.slice.Iter.{Iter}
use Rattle.rayon.proofs.ListFacts.{IfOk-then}
use Rattle.rayon.proofs.ToStd.{slice-AllZip}
use Rattle.edit_templates.specs.declared.step.Step.{Step}
use Rattle.experiments.specs.declared.fault.Fault.{Fault}
use Rattle.lab_tasks.specs.declared.grid.Row.{Row}
use Rattle.lab_tasks.specs.EditSweeps.{IsEditRow}
use Rattle.lab_tasks.proofs.Threads.{all-told}
use Rattle.lab_tasks.proofs.edit_sweep.each_row.Goals as goal

pub returns : goal.returns
returns g c =
    let slice = ap (λ it. (min_len_base {P = Iter Step} it).slice.now) c.map.ensures.base ∙ ap (λ it. it.slice.now) c.with_min_len.ensures.base ∙ c.par_iter.ensures in
    IfOk-then c.collect.result _ _ c.collect.ensures (λ v h.
    let chain = rw c.map.ensures.f at h.1 in
    all-told Fault (IsEditRow c.args.form c.args.project.now c.args.askings.now) _ c.args.steps.now h.0 v h.2
    (slice-AllZip chain.0 c.args.steps.now (chain.1 ∙ slice) (λ (step : Step) (r : Result Row Fault). IfOk r (IsEditRow c.args.form c.args.project.now c.args.askings.now step)) h.0 chain.2))
