use Rattle.bench_shell.specs.declared.answer.Answer.TheVariants.{Refused}
use Rattle.lab_shell.proofs.Undoing.{between_one}
use Rattle.lab_shell.proofs.undo.put_full.Goals as goal

pub returns-clause-ok : goal.returns-clause-ok
returns-clause-ok g c =
    between_one c.args.voice c.put_closing.result (g.W.Sink.contents c.args.writer.now) (g.W.Sink.contents c.put_opening.new.writer)
    (g.W.Sink.contents c.put_answer.new.writer) (g.W.Sink.contents c.put_closing.new.writer) (Refused 1)
    c.in-Ok.ensures.ok c.in-Ok-put_answer.ensures.ok c.put_closing.ensures.ok
