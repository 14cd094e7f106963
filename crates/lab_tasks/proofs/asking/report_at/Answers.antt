use Rattle.lab_tasks.specs.Askings.{RefusesReport}
use Rattle.lab_tasks.proofs.WordByWord.{or-memory}
use Rattle.lab_tasks.proofs.asking.report_at.Goals as goal

pub returns-in-Err-clause-refused : goal.returns-in-Err-clause-refused
returns-in-Err-clause-refused c =
    let none = rw (c.in-Err.is, c.as_bytes.ensures.value) at c.in_ok-report.ensures.refused in
    or-memory (RefusesReport c.args.project.now c.args.word.now) c.refused_as.result (c.in-Err.answer, none, c.refused_as.ensures)
