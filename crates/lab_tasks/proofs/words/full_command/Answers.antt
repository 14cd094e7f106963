use Rattle.std.proofs.Common.{codes}
use Rattle.clap.specs.Words.{new_app}
use Rattle.lab_tasks.proofs.words.full_command.Goals as goal

pub returns : goal.returns
returns c =
    c.in_ok-task.ensures (new_app (codes "full")) c.named.ensures
