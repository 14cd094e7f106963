use Rattle.std.proofs.Common.{string_bytes}
use Rattle.lab_tasks.proofs.Printing.{printed-ok}
use Rattle.lab_tasks.proofs.answered.printed.Goals as goal

pub returns : goal.returns
returns c = printed-ok string_bytes c.args.body.now c.format.result c.format.ensures.ok
