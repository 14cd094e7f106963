use Rattle.std.proofs.Common.{◌≡◌, ◌+◌, ◌∙◌, ap, sym, arith}
use Rattle.monitor_sums.specs.Counts.{part}
use Rattle.monitor_sums.specs.Kept.{kept_at}
use Rattle.monitor_sums.specs.Whole.{counted_before}
use Rattle.monitor_sums.proofs.Over.{before_none, before_split}
use Rattle.monitor_sums.proofs.Standing.{stands_sum}
use Rattle.monitor_sums.proofs.sums.Sums.sum.Goals as goal

pub loop-cycle-init : goal.loop-cycle-init
loop-cycle-init c = record {
  began = omega arith;
  within = omega (arith, c.requires.window);
  value = sym (before_none c.args.self.now.k (λ t d. part c.args.counter (kept_at c.args.self.now.cells t d)) c.args.who c.args.from);
  bound = omega arith;
}

pub loop-cycle-preserved : goal.loop-cycle-preserved
loop-cycle-preserved c =
    let was = c.loop-cycle.invariant in
    let end = c.part_end-end in
    let parts : counted_before c.args.self.now.k c.args.counter c.args.self.now.cells c.args.who c.args.from end.result
    ≡ counted_before c.args.self.now.k c.args.counter c.args.self.now.cells c.args.who c.args.from c.loop-cycle.cycle + counted_before c.args.self.now.k c.args.counter c.args.self.now.cells c.args.who c.loop-cycle.cycle end.result =
    before_split c.args.self.now.k (λ t d. part c.args.counter (kept_at c.args.self.now.cells t d)) c.args.who c.args.from c.loop-cycle.cycle end.result was.began (omega (arith, end.ensures.on)) in
    record {
      began = omega (arith, was.began, end.ensures.on);
      within = end.ensures.within;
      value = omega (arith, was.value, parts, c.part-total.ensures.value);
      bound = omega (arith, was.bound, was.began, end.ensures.on, c.part-total.ensures.small);
    }

pub returns : goal.returns
returns c = λ at stands.
    let last : c.loop-cycle.cycle ≡ c.args.to + 1 = omega (arith, c.loop-cycle.invariant.within, c.loop-cycle-test.false) in
    c.loop-cycle.invariant.value ∙ ap (counted_before c.args.self.now.k c.args.counter c.args.self.now.cells c.args.who c.args.from) last
    ∙ stands_sum c.args.self.now at c.args.counter c.args.who c.args.from c.args.to stands c.requires.who c.requires.within
