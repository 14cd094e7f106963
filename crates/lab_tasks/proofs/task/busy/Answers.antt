use Rattle.std.proofs.Common.{◌∙◌, ap}
use Rattle.lab_tasks.proofs.task.busy.Goals as goal

pub returns-clause-done : goal.returns-clause-done
returns-clause-done c = (
  _,
  c.into_bytes.result.items,
  c.in_ok-project.ensures.filed,
  (record { from = c.in_ok-cycles.cycles.0; to = c.in_ok-cycles.cycles.1 }, c.in_ok-cycles.ensures.told, ap (λ v. v.items) c.into_bytes.ensures.value ∙ c.in_ok-text.ensures.text),
  c.in_ok-to_file_or_output.ensures,
)
