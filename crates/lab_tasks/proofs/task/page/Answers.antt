use Rattle.std.proofs.Common.{◌∙◌, ap}
use Rattle.lab_tasks.proofs.task.page.Goals as goal

pub returns-clause-done : goal.returns-clause-done
returns-clause-done c = (
  _,
  c.into_bytes.result.items,
  c.in_ok-project.ensures.filed,
  (c.in_ok-window.window, c.in_ok-window.ensures.told, ap (λ v. v.items) c.into_bytes.ensures.value ∙ c.in_ok-text.ensures.text),
  c.in_ok-to_file_or_output.ensures,
)
