use Rattle.std.proofs.Common.{[], List, ℕ, get_or}
use Rattle.line_words.specs.Words.{words_of}
use Rattle.commands.specs.Commands.{command_of}
use Rattle.lab_tasks.specs.Askings.{IsAsked, RefusesAsk}
use Rattle.lab_tasks.specs.SweepTables.{AreNotAsked}
use Rattle.lab_tasks.proofs.WordByWord.{texts, zip-more, first-refused, or-memory-by}
use Rattle.lab_tasks.proofs.asking.all_askings.Goals as goal

pub returns-in-Err-clause-refused : goal.returns-in-Err-clause-refused
returns-in-Err-clause-refused c =
    let P = c.args.project.now in
    let word = (get_or c.args.words.now c.loop-word.word-index (record { ref_ptr = (0, 0); now = [] })).now in
    or-memory-by (RefusesAsk P word (command_of P.k (words_of word))) (AreNotAsked P (texts c.args.words.now)) c.in-Err.end
    (first-refused (IsAsked P) (λ (w : List ℕ). RefusesAsk P w (command_of P.k (words_of w)) c.in-Err.end)
    c.args.words.now c.loop-word.word-index c.loop-word.all.items c.loop-word-test.true c.loop-word.invariant)
    c.in-Err.ensures.refused

pub loop-word-preserved : goal.loop-word-preserved
loop-word-preserved c =
    zip-more (IsAsked c.args.project.now) c.args.words.now c.loop-word.word-index c.loop-word.all.items c.push.new.self.items c.in-Ok.asking
    c.loop-word-test.true c.loop-word.invariant c.in-Ok.ensures.asked c.in_ok-push-in-Ok.ensures.items
