use Rattle.std.proofs.Common.{List, ℕ}
use Rattle.lab_tasks.specs.Sweeps.{IsSwept, RefusesDepths, depths_in}
use Rattle.lab_tasks.specs.SweepTables.{AreNotSwept}
use Rattle.lab_tasks.proofs.WordByWord.{texts, zip-more, first-refused, or-memory}
use Rattle.lab_tasks.proofs.sweep.all_swept.Goals as goal

pub returns-in-Err-clause-refused : goal.returns-in-Err-clause-refused
returns-in-Err-clause-refused c =
    or-memory (AreNotSwept (texts c.args.words.now)) c.in-Err.end
    (first-refused IsSwept (λ (word : List ℕ). RefusesDepths word (depths_in word) c.in-Err.end)
    c.args.words.now c.loop-word.word-index c.loop-word.all.items
    c.loop-word-test.true c.loop-word.invariant c.in-Err.ensures.refused)

pub loop-word-preserved : goal.loop-word-preserved
loop-word-preserved c =
    zip-more IsSwept c.args.words.now c.loop-word.word-index c.loop-word.all.items c.push.new.self.items c.in-Ok.swept
    c.loop-word-test.true c.loop-word.invariant c.in-Ok.ensures.swept c.in_ok-push-in-Ok.ensures.items
