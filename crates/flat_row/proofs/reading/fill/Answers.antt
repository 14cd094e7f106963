use Rattle.std.proofs.Common.{arith}
use Rattle.state_words.proofs.Queueing.{read_more, many_more, rest_more}
use Rattle.flat_row.proofs.reading.fill.Goals as goal

pub loop-i-preserved : goal.loop-i-preserved
loop-i-preserved g c =
    let v = c.loop-i.invariant in
    let w = c.two_words-first.ensures in
    record {
      items = read_more g.T.TwoWords.from c.args.count c.loop-i._i c.loop-i.queue c.join.new.self c.from_words.result c.two_words-first.result.0 c.two_words-first.result.1 c.loop-i.rest.now c.two_words-first.result.2.now _ c.join.ensures c.from_words.ensures w.first w.second w.rest v.items v.many c.loop-i-test.true c.requires;
      many = many_more c.loop-i._i c.loop-i.queue c.join.new.self c.from_words.result c.join.ensures v.many (omega (arith, c.loop-i-test.true, c.requires));
      rest = rest_more c.loop-i._i c.args.words.now c.loop-i.rest.now c.two_words-first.result.2.now w.rest v.rest;
    }
