use Rattle.std.proofs.Common.{List, ℕ, get_or}
use Rattle.lab_tasks.specs.Gauged.{AreNoGauges, IsGauge, RefusesGauge}
use Rattle.lab_tasks.proofs.WordByWord.{texts, blank, zip-more, first-refused, or-memory-by}
use Rattle.lab_tasks.proofs.series.all_gauges.Goals as goal

pub returns-in-Err-clause-refused : goal.returns-in-Err-clause-refused
returns-in-Err-clause-refused c =
    let k = c.args.shape in
    or-memory-by (RefusesGauge k (get_or c.args.words.now c.loop-word.word-index blank).now) (AreNoGauges k (texts c.args.words.now)) c.in-Err.end
    (first-refused (IsGauge k) (λ (word : List ℕ). RefusesGauge k word c.in-Err.end) c.args.words.now c.loop-word.word-index c.loop-word.all.items
    c.loop-word-test.true c.loop-word.invariant)
    c.in-Err.ensures.refused

pub loop-word-preserved : goal.loop-word-preserved
loop-word-preserved c =
    zip-more (IsGauge c.args.shape) c.args.words.now c.loop-word.word-index c.loop-word.all.items c.push.new.self.items c.in-Ok.gauge
    c.loop-word-test.true c.loop-word.invariant c.in-Ok.ensures.named c.in_ok-push-in-Ok.ensures.items
