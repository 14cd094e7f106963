use Rattle.lab_tasks.proofs.task.convert.Goals as goal

pub returns-clause-done : goal.returns-clause-done
returns-clause-done c = (
  c.in_ok-refuse_source.ensures.other,
  (c.in_ok-project.project, c.in_ok-text.text.items, c.in_ok-project.ensures.filed, c.in_ok-text.ensures.file, c.in_ok-to_file_or_output.ensures),
)
