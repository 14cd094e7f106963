use Rattle.std.proofs.Common.{◌<◌, ◌∙◌, ap, arith, List, length, take}
use Rattle.std.specs.Option.{option_or}
use Rattle.std.proofs.lemmas.List.{take_all}
use Rattle.change_rows.specs.Cells.{Held, found, end_of}
use Rattle.change_rows.proofs.Merging.{taken_end}
use Rattle.change_rows.proofs.Laying.{ran_below, ran_both, ran_end, slice_end, united_found, united_end}
use Rattle.change_rows.proofs.merge.unite.Goals as goal

pub push-requires : goal.push-requires
push-requires c =
    let l = c.loop-j in
    let over = c.args.over.now in
    let under = c.args.under.now in
    let there : l.j < length under = omega (arith, c.loop-j-test.true, c.len-j-end.ensures.count) in
    ran_below over (take l.j under) l.out c.append.new.self l.from c.seek-place.result c.seek-place.ensures.ascending c.seek-place.ensures.order c.seek-place.ensures.split.within l.invariant.high c.in_ok-append.ensures c.component-c.result
    (omega (arith, l.invariant.end, c.len-j-end.ensures.ascending l.j there, c.component-c.ensures)) c.seek-place.ensures.split.below

pub loop-j-preserved : goal.loop-j-preserved
loop-j-preserved c =
    let l = c.loop-j in
    let over = c.args.over.now in
    let under = c.args.under.now in
    let there : l.j < length under = omega (arith, c.loop-j-test.true, c.len-j-end.ensures.count) in
    record {
      there = c.behind-from.ensures.there;
      found = united_found over under l.out c.append.new.self c.push.new.self l.from l.j c.component-c.result c.seek-place.result c.behind-from.result c.words.result.now c.words_or.result.now c.seek-place.ensures.ascending c.len-j-end.ensures.ascending c.seek-place.ensures.order c.seek-place.ensures.split there c.component-c.ensures c.words.ensures l.invariant.found l.invariant.end l.invariant.high c.in_ok-append.ensures c.in_ok-push.ensures c.words_or.ensures c.behind-from.ensures.here c.behind-from.ensures.others;
      end = united_end over under l.out c.append.new.self c.push.new.self l.from l.j c.component-c.result c.seek-place.result c.behind-from.result c.words.result.now c.words_or.result.now c.seek-place.ensures.ascending c.len-j-end.ensures.ascending c.seek-place.ensures.order c.seek-place.ensures.split there c.component-c.ensures c.words.ensures l.invariant.found l.invariant.end l.invariant.high c.in_ok-append.ensures c.in_ok-push.ensures c.words_or.ensures c.behind-from.ensures.here c.behind-from.ensures.others;
      low = omega (arith, taken_end under l.j there, c.behind-from.ensures.low, c.component-c.ensures);
      high = λ h. omega (arith, taken_end under l.j there, c.behind-from.ensures.high h, c.component-c.ensures, c.len-j-end.ensures.ascending l.j there);
    }

pub returns-clause-found : goal.returns-clause-found
returns-clause-found c = λ d.
    let l = c.loop-j in
    let over = c.args.over.now in
    let under = c.args.under.now in
    ran_both over (take l.j under) l.out c.append-2.new.self l.from c.len.result c.len.ensures.ascending (omega (arith, c.len.ensures.count, l.invariant.there)) (omega (arith, c.len.ensures.count)) l.invariant.high c.in_ok-append-2.ensures d (l.invariant.found d)
    ∙ ap (λ (v : List Held). option_or (found v d) (found (take l.j under) d)) (take_all c.len.result over (omega (arith, c.len.ensures.count)))
    ∙ ap (λ (v : List Held). option_or (found over d) (found v d)) (take_all l.j under (omega (arith, c.loop-j-test.false, c.len-j-end.ensures.count)))

pub returns-clause-end : goal.returns-clause-end
returns-clause-end c =
    let l = c.loop-j in
    let over = c.args.over.now in
    let under = c.args.under.now in
    omega (arith, ran_end over (take l.j under) l.out c.append-2.new.self l.from c.len.result c.len.ensures.ascending (omega (arith, c.len.ensures.count, l.invariant.there)) (omega (arith, c.len.ensures.count)) l.invariant.high c.in_ok-append-2.ensures, slice_end over l.from c.len.result (omega (arith, c.len.ensures.count, l.invariant.there)), ap end_of (take_all c.len.result over (omega (arith, c.len.ensures.count))), ap end_of (take_all l.j under (omega (arith, c.loop-j-test.false, c.len-j-end.ensures.count))), l.invariant.end)
