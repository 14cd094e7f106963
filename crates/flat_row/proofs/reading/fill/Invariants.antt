use Rattle.std.proofs.Common.{◌≡◌, ◌-◌, ◌++◌, length}
use Rattle.state_words.specs.Reading.{messages_from, after}
use Rattle.flat_row.proofs.reading.fill.Given as goal

-- what is read and what is left are all
abbrev pub invariant-loop-i : goal.invariant-loop-i
invariant-loop-i g l =
    let from = g.T.TwoWords.from in
    record {
      items : l.queue.items ++ messages_from from (l.count - l._i) l.rest ≡ messages_from from l.count l.words;
      many : length l.queue.items ≡ l._i;
      rest : l.rest ≡ after l._i l.words;
    }
