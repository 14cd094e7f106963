use Rattle.std.proofs.Common.{string_bytes}
use Rattle.lab_tasks.proofs.comparison.compare.Goals as goal

pub returns-clause-done : goal.returns-clause-done
returns-clause-done c = (
  c.in_ok-project.project,
  string_bytes c.in_ok-text.text,
  c.in_ok-project.ensures.filed,
  c.in_ok-text.ensures.drawn,
  rw (c.into_bytes.ensures.value) at c.in_ok-outcome.ensures,
)
