use Rattle.std.proofs.Common.{rules, tests, ◌∙◌, sym, ap}
use Rattle.std.specs.Prelude.{bytes_eq}
use Rattle.std.proofs.lemmas.Iterator.{YieldsList-from_slice}
use Rattle.std.proofs.lemmas.Iterator.Search.{find_from_yields_List}
use Rattle.monitor_sums.specs.Counts.{counter_name, counter_named, counters}
use Rattle.monitor_sums.proofs.Counters.{name_read}
use Rattle.monitor_sums.proofs.counter.Counter.from_name.Goals as goal

pub returns-clause-counter : goal.returns-clause-counter
returns-clause-counter c =
    let found = find_from_yields_List (λ counter. bytes_eq (counter_name counter) c.args.word.now) _ _ c.find.result c.find.ensures.ran (YieldsList-from_slice counters cc) (λ x b q k. search (rules, tests)) in
    c.copied.ensures ∙ found

pub returns-clause-read : goal.returns-clause-read
returns-clause-read c = λ counter named. returns-clause-counter c ∙ (ap counter_named (sym named) ∙ name_read counter)
