use Rattle.std.proofs.Common.{◌≡◌, ◌∙◌, refl, ap, subst, arith}
use Rattle.omega_net.specs.Numbers.{components}
use Rattle.monitor_sums.specs.Kept.{StandsFor}
use Rattle.bench_core.specs.Shown.{held}
use Rattle.bench_core.specs.Filling.{filled_to}
use Rattle.bench_core.proofs.Filling.{stands_start, stands_component}
use Rattle.bench_core.proofs.counters.count_all_filled.Goals as goal

pub loop-component-init : goal.loop-component-init
loop-component-init c = record {
  shape = refl;
  last = refl;
  stands = λ at s. stands_start c.args.sums.now at (held c.args.table.now) c.args.from c.args.to s;
}

pub loop-component-preserved : goal.loop-component-preserved
loop-component-preserved c =
    let inv = c.loop-component.invariant in
    record {
      shape = c.count_filled.ensures.shape ∙ inv.shape;
      last = c.count_filled.ensures.last ∙ inv.last;
      stands = λ at s. stands_component c.loop-component.sums c.count_filled.new.sums at (held c.args.table.now) c.loop-component.component c.args.from c.args.to (inv.stands at s) c.in_ok-count_filled.ensures.stands;
    }

pub count_filled-requires-clause-same : goal.count_filled-requires-clause-same
count_filled-requires-clause-same c = c.loop-component.invariant.shape ∙ c.requires.same

pub returns-clause-stands : goal.returns-clause-stands
returns-clause-stands c = λ at s.
    let count = c.components-component-end.ensures.value ∙ ap components c.shape.ensures in
    let end : c.loop-component.component ≡ components c.args.sums.now.k = omega (arith, c.loop-component-test.false, c.loop-component.auto.component-end, count) in
    subst (λ n. StandsFor c.loop-component.sums (filled_to at (held c.args.table.now) n c.args.from c.args.to)) end (c.loop-component.invariant.stands at s)
