use Rattle.lab_shell.proofs.Reading.{drained}
use Rattle.lab_shell.proofs.session.next_line.Goals as goal

pub returns-in-Ok-clause-end : goal.returns-in-Ok-clause-end
returns-in-Ok-clause-end g c = drained _ _ _ _ c.new-line.ensures.items c.in-Ok.ensures.bytes c.in-Ok.ensures.rest
