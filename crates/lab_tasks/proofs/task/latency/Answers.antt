use Rattle.std.proofs.Common.{◌∙◌, ap}
use Rattle.lab_tasks.proofs.task.latency.Goals as goal

pub returns-clause-done : goal.returns-clause-done
returns-clause-done c =
    let made = c.in_ok-text.ensures.text in (
      _,
      c.into_bytes.result.items,
      c.in_ok-project.ensures.filed,
      (c.in_ok-condition.condition, c.in_ok-condition.ensures.told, (made.0, made.1, made.2, made.3, ap (λ v. v.items) c.into_bytes.ensures.value ∙ made.4)),
      c.in_ok-to_file_or_output.ensures,
    )
