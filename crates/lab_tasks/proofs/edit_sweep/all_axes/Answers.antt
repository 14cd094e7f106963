use Rattle.std.proofs.Common.{[], List, ℕ, get_or}
use Rattle.lab_tasks.specs.EditSweeps.{IsAxis, RefusesEdit, AreNotEdits}
use Rattle.lab_tasks.proofs.WordByWord.{texts, zip-more, first-refused, or-memory-by}
use Rattle.lab_tasks.proofs.edit_sweep.all_axes.Goals as goal

pub returns-in-Err-clause-refused : goal.returns-in-Err-clause-refused
returns-in-Err-clause-refused c =
    or-memory-by (RefusesEdit c.args.project.now.k (get_or c.args.words.now c.loop-word.word-index (record { ref_ptr = (0, 0); now = [] })).now) (AreNotEdits c.args.project.now.k (texts c.args.words.now)) c.in-Err.end
    (first-refused (IsAxis c.args.project.now.k) (λ (word : List ℕ). RefusesEdit c.args.project.now.k word c.in-Err.end)
    c.args.words.now c.loop-word.word-index c.loop-word.all.items c.loop-word-test.true c.loop-word.invariant)
    c.in-Err.ensures.refused

pub loop-word-preserved : goal.loop-word-preserved
loop-word-preserved c =
    zip-more (IsAxis c.args.project.now.k) c.args.words.now c.loop-word.word-index c.loop-word.all.items c.push.new.self.items c.in-Ok.axis
    c.loop-word-test.true c.loop-word.invariant c.in-Ok.ensures.axis c.in_ok-push-in-Ok.ensures.items
