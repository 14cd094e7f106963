use Rattle.std.proofs.Common.{arith}
use Rattle.change_rows.proofs.Between.{split_order, appended_between, appended_others, appended_end}
use Rattle.change_rows.proofs.merge.append_between.Goals as goal

pub append-requires-clause-order : goal.append-requires-clause-order
append-requires-clause-order c = split_order c.args.others.now c.args.from c.args.to c.place_near-begin.result c.place_near-end.result c.place_near-begin.ensures.ascending c.requires.order c.place_near-begin.ensures.split c.place_near-end.ensures.split

pub append-requires-clause-above : goal.append-requires-clause-above
append-requires-clause-above c = λ h. omega (arith, c.requires.ascending, h, c.place_near-begin.ensures.split.above, c.place_near-end.ensures.split.within)

pub returns-clause-between : goal.returns-clause-between
returns-clause-between c = appended_between c.args.others.now c.args.from c.args.to c.place_near-begin.result c.place_near-end.result c.place_near-begin.ensures.ascending c.requires.order c.place_near-begin.ensures.split c.place_near-end.ensures.split c.args.out.now c.append.new.self c.requires.ascending c.in_ok-append.ensures

pub returns-clause-others : goal.returns-clause-others
returns-clause-others c = appended_others c.args.others.now c.args.from c.args.to c.place_near-begin.result c.place_near-end.result c.place_near-begin.ensures.ascending c.requires.order c.place_near-begin.ensures.split c.place_near-end.ensures.split c.args.out.now c.append.new.self c.requires.ascending c.in_ok-append.ensures

pub returns-clause-end : goal.returns-clause-end
returns-clause-end c = appended_end c.args.others.now c.args.from c.args.to c.place_near-begin.result c.place_near-end.result c.place_near-begin.ensures.ascending c.requires.order c.place_near-begin.ensures.split c.place_near-end.ensures.split c.args.out.now c.append.new.self c.requires.ascending c.in_ok-append.ensures
