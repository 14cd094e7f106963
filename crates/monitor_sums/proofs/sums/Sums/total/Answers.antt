use Rattle.std.proofs.Common.{◌≡◌, ◌+◌, ◌*◌, ◌<◌, ◌∙◌, ap, sym, arith}
use Rattle.std.specs.Prelude.{min}
use Rattle.monitor_sums.specs.Limits.{blocks}
use Rattle.monitor_sums.specs.Counts.{part}
use Rattle.monitor_sums.specs.Kept.{Kept, kept_at}
use Rattle.monitor_sums.specs.Whole.{counted_before, block_end}
use Rattle.monitor_sums.proofs.Over.{before_none, before_split}
use Rattle.monitor_sums.proofs.Standing.{stands_sum, stands_sum_to}
use Rattle.monitor_sums.proofs.sums.Sums.total.Goals as goal

pub loop-block-init : goal.loop-block-init
loop-block-init c = record {
  value =
      let start : min 0 (c.args.self.now.last + 1) ≡ 0 = omega arith in
      sym (ap (counted_before c.args.self.now.k c.args.counter c.args.self.now.cells c.args.who 0) start ∙ before_none c.args.self.now.k (λ t d. part c.args.counter (kept_at c.args.self.now.cells t d)) c.args.who 0);
  bound = omega arith;
}

pub loop-block-preserved : goal.loop-block-preserved
loop-block-preserved c =
    let b = c.loop-block.block in
    let there : b < blocks c.args.self.now.last = omega (arith, c.loop-block-test.true, c.blocks-block-end.ensures, ap (λ (v : Kept). v.last) c.self.view_is) in
    let began : min (32 * b) (c.args.self.now.last + 1) ≡ 32 * b = omega (arith, there) in
    let ended : min (32 * (b + 1)) (c.args.self.now.last + 1) ≡ block_end c.args.self.now.last b = omega (arith, there) in
    let was = c.loop-block.invariant.value ∙ ap (counted_before c.args.self.now.k c.args.counter c.args.self.now.cells c.args.who 0) began in
    let is = ap (counted_before c.args.self.now.k c.args.counter c.args.self.now.cells c.args.who 0) ended in
    let parts : counted_before c.args.self.now.k c.args.counter c.args.self.now.cells c.args.who 0 (block_end c.args.self.now.last b)
    ≡ counted_before c.args.self.now.k c.args.counter c.args.self.now.cells c.args.who 0 (32 * b) + counted_before c.args.self.now.k c.args.counter c.args.self.now.cells c.args.who (32 * b) (block_end c.args.self.now.last b) =
    before_split c.args.self.now.k (λ t d. part c.args.counter (kept_at c.args.self.now.cells t d)) c.args.who 0 (32 * b) (block_end c.args.self.now.last b) (omega arith) (omega (arith, there)) in
    record {
      value = omega (arith, was, is, parts, c.block-total.ensures.value);
      bound = omega (arith, c.loop-block.invariant.bound, c.block-total.ensures.small);
    }

pub returns-clause-whole : goal.returns-clause-whole
returns-clause-whole c = λ at stands.
    let last : c.loop-block.block ≡ blocks c.args.self.now.last = omega (arith, c.loop-block.auto.block-end, c.loop-block-test.false, c.blocks-block-end.ensures, ap (λ (v : Kept). v.last) c.self.view_is) in
    let end : min (32 * blocks c.args.self.now.last) (c.args.self.now.last + 1) ≡ c.args.self.now.last + 1 = omega arith in
    c.loop-block.invariant.value ∙ ap (λ b. counted_before c.args.self.now.k c.args.counter c.args.self.now.cells c.args.who 0 (min (32 * b) (c.args.self.now.last + 1))) last
    ∙ ap (counted_before c.args.self.now.k c.args.counter c.args.self.now.cells c.args.who 0) end
    ∙ stands_sum c.args.self.now at c.args.counter c.args.who 0 c.args.self.now.last stands c.requires (omega arith)

pub returns-clause-up_to : goal.returns-clause-up_to
returns-clause-up_to c = λ at h stands none within.
    let last : c.loop-block.block ≡ blocks c.args.self.now.last = omega (arith, c.loop-block.auto.block-end, c.loop-block-test.false, c.blocks-block-end.ensures, ap (λ (v : Kept). v.last) c.self.view_is) in
    let end : min (32 * blocks c.args.self.now.last) (c.args.self.now.last + 1) ≡ c.args.self.now.last + 1 = omega arith in
    c.loop-block.invariant.value ∙ ap (λ b. counted_before c.args.self.now.k c.args.counter c.args.self.now.cells c.args.who 0 (min (32 * b) (c.args.self.now.last + 1))) last
    ∙ ap (counted_before c.args.self.now.k c.args.counter c.args.self.now.cells c.args.who 0) end
    ∙ stands_sum_to c.args.self.now at c.args.counter c.args.who h stands c.requires none within
