use Rattle.command_line.proofs.Starting.{has_served}
use Rattle.command_line.proofs.start.serve_words.Goals as goal

pub returns : goal.returns
returns g c = has_served _ _ _ c.in-Ok.ensures.opens _ _ _ _ _ c.in-Ok.ensures.workers c.in-Ok-ungated.ensures _ _ c.serve-served.ensures.serves c.stopped.ensures
