use Rattle.std.proofs.Common.{◌≡◌, ℕ, ◌<◌, ◌≤◌, ◌∙◌, refl, sym, subst, arith}
use Rattle.std.specs.Option.{option_copied}
use Rattle.omega_net.specs.Numbers.{components}
use Rattle.monitor_sums.specs.Kept.{StandsFor}
use Rattle.bench_core.specs.Shown.{held}
use Rattle.bench_core.specs.Filling.{filled_in}
use Rattle.bench_core.proofs.Filling.{stands_more, stands_none}
use Rattle.bench_core.proofs.counters.count_filled.Goals as goal

pub loop-cycle-init : goal.loop-cycle-init
loop-cycle-init c = record {
  began = omega arith;
  ended = c.requires.later;
  shape = refl;
  last = refl;
  stands = λ at s. stands_none c.args.sums.now at (held c.args.table.now) c.args.component c.args.from s;
}

pub stands_to-last-requires : goal.stands_to-last-requires
stands_to-last-requires c = record {
  cycle = omega (arith, c.loop-cycle-test.true, c.requires.there);
  component = subst (λ k. c.args.component < components k) c.requires.same c.requires.component;
}

pub loop-cycle-preserved-in_ok-state : goal.loop-cycle-preserved-in_ok-state
loop-cycle-preserved-in_ok-state c =
    let inv = c.loop-cycle.invariant in
    let t = c.loop-cycle.cycle in
    let d = c.args.component in
    let at_most : c.min-end.result ≤ c.stands_to-last.result = omega (arith, c.min-end.ensures) in
    let within : c.min-end.result ≤ c.args.to = omega (arith, c.min-end.ensures) in
    let on : t < c.min-end.result = omega (arith, c.min-end.ensures, c.stands_to-last.ensures.after, c.loop-cycle-test.true) in
    let same : (u : ℕ) → t ≤ u → u < c.min-end.result → held c.args.table.now u d ≡ option_copied c.lent.result =
    λ u p q. c.stands_to-last.ensures.same u p (omega (arith, q, at_most)) ∙ sym c.in_ok-state.ensures ∙ sym c.lent.ensures in
    record {
      began = omega (arith, inv.began, on);
      ended = within;
      shape = c.fill.ensures.shape ∙ inv.shape;
      last = c.fill.ensures.last ∙ inv.last;
      stands = λ at s. stands_more c.loop-cycle.sums c.fill.new.self at (held c.args.table.now) d c.args.from t c.min-end.result (option_copied c.lent.result) inv.began (omega (arith, on)) (inv.stands at s) same c.fill.ensures.stands;
    }

pub loop-cycle-preserved : goal.loop-cycle-preserved
loop-cycle-preserved c =
    let inv = c.loop-cycle.invariant in
    let t = c.loop-cycle.cycle in
    let d = c.args.component in
    let at_most : c.min-end.result ≤ c.stands_to-last.result = omega (arith, c.min-end.ensures) in
    let within : c.min-end.result ≤ c.args.to = omega (arith, c.min-end.ensures) in
    let on : t < c.min-end.result = omega (arith, c.min-end.ensures, c.stands_to-last.ensures.after, c.loop-cycle-test.true) in
    let same : (u : ℕ) → t ≤ u → u < c.min-end.result → held c.args.table.now u d ≡ option_copied c.lent.result =
    λ u p q. c.stands_to-last.ensures.same u p (omega (arith, q, at_most)) ∙ sym c.in_ok-state.ensures ∙ sym c.lent.ensures in
    record {
      began = omega (arith, inv.began, on);
      ended = within;
      shape = c.fill.ensures.shape ∙ inv.shape;
      last = c.fill.ensures.last ∙ inv.last;
      stands = λ at s. stands_more c.loop-cycle.sums c.fill.new.self at (held c.args.table.now) d c.args.from t c.min-end.result (option_copied c.lent.result) inv.began (omega (arith, on)) (inv.stands at s) same c.fill.ensures.stands;
    }

pub returns-clause-stands : goal.returns-clause-stands
returns-clause-stands c = λ at s.
    let end : c.loop-cycle.cycle ≡ c.args.to = omega (arith, c.loop-cycle-test.false, c.loop-cycle.invariant.ended) in
    subst (λ n. StandsFor c.loop-cycle.sums (filled_in at (held c.args.table.now) c.args.component c.args.from n)) end (c.loop-cycle.invariant.stands at s)
