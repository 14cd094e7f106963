use Rattle.std.proofs.Common.{◌++◌, ap, ◌∙◌}
use Rattle.std.proofs.lemmas.Result.{on_ok_weaker}
use Rattle.lab_shell.proofs.Reasoning.{no_command}
use Rattle.lab_shell.proofs.json.add_answer.Goals as goal

pub returns-in-BadCommand : goal.returns-in-BadCommand
returns-in-BadCommand c =
    let why = c.reason_of-in-BadCommand.result.now in
    on_ok_weaker c.add_bad-in-BadCommand.result
    (λ q. q ∙ ap (λ l. c.args.out.now.items ++ l) (no_command c.args.answer.now why c.in-BadCommand.is c.reason_of-in-BadCommand.ensures))
    c.add_bad-in-BadCommand.ensures
