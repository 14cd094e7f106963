use Rattle.std.proofs.Common.{List, ℕ, codes}
use Rattle.lab_tasks.specs.PlotPictures.{AreNoColumns, IsColumn, IsNoColumn}
use Rattle.lab_tasks.proofs.WordByWord.{texts, zip-more, first-refused, or-memory}
use Rattle.lab_tasks.proofs.plot.columns_in.Goals as goal

pub returns-in-Err-clause-refused : goal.returns-in-Err-clause-refused
returns-in-Err-clause-refused c =
    or-memory (AreNoColumns c.args.names.now (texts c.args.words.now)) c.in-Err.end
    (first-refused (IsColumn c.args.names.now) (λ (word : List ℕ). IsNoColumn (codes "--y") c.args.names.now word c.in-Err.end) c.args.words.now c.loop-word.word-index
    c.loop-word.all.items c.loop-word-test.true c.loop-word.invariant c.in-Err.ensures.refused)

pub loop-word-preserved : goal.loop-word-preserved
loop-word-preserved c =
    zip-more (IsColumn c.args.names.now) c.args.words.now c.loop-word.word-index c.loop-word.all.items c.push.new.self.items c.in-Ok.column
    c.loop-word-test.true c.loop-word.invariant c.in-Ok.ensures.column c.in_ok-push-in-Ok.ensures.items
