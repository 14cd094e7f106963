use Rattle.std.proofs.Common.{◌≡◌, ◌+◌, ◌<◌, ◌-◌, ◌*◌, ◌∙◌, Err, ap, sym, subst, arith}
use Rattle.cell_table.specs.Settling.{NoneDueBefore, HoldsRunBefore, IsSpentBefore, IsAt}
use Rattle.cell_table.specs.Advances.{Advances}
use Rattle.cell_table.proofs.Passes.{spent_before, nearer, of_some, of_none}
use Rattle.cell_table.proofs.Cuts.{comes_to}
use Rattle.cell_table.proofs.table.Table.settle_all.Goals as goal

pub loop-passed-init : goal.loop-passed-init
loop-passed-init g c = record {
  at = c.requires.at;
  before = (c.requires.start, λ e. omega arith);
  within = c.requires.within;
  worked = c.requires.worked;
}

pub overflow_add-computed : goal.overflow_add-computed
overflow_add-computed g c =
    let R = g.G.Grid.rules in
    let inv = c.loop-passed.invariant in
    let passed = c.in-Ok-Some.passed in
    let advances = of_some (λ p. Advances R c.args.end c.loop-passed.self c.settle_more.new.self c.loop-passed.from.cycle c.loop-passed.from.component p.to.cycle p.to.component p.computed) c.in-Ok-Some.field-0 passed c.in-Ok-Some.field-0-is c.in-Ok-Some.ensures.on in
    let at = advances.on c.args.self.now c.loop-passed.computed inv.at in
    omega (arith, at.few, at.fits, advances.before.0)

pub loop-passed-preserved : goal.loop-passed-preserved
loop-passed-preserved g c =
    let R = g.G.Grid.rules in
    let inv = c.loop-passed.invariant in
    let passed = c.in-Ok-Some.passed in
    let advances = of_some (λ p. Advances R c.args.end c.loop-passed.self c.settle_more.new.self c.loop-passed.from.cycle c.loop-passed.from.component p.to.cycle p.to.component p.computed) c.in-Ok-Some.field-0 passed c.in-Ok-Some.field-0-is c.in-Ok-Some.ensures.on in
    let at = advances.on c.args.self.now c.loop-passed.computed inv.at in
    record {
      at = at;
      before = advances.before;
      within = omega (arith, c.requires.within, at.horizon);
      worked = c.settle_more.ensures.worked;
    }

pub loop-passed-smaller : goal.loop-passed-smaller
loop-passed-smaller g c =
    let R = g.G.Grid.rules in
    let inv = c.loop-passed.invariant in
    let passed = c.in-Ok-Some.passed in
    let advances = of_some (λ p. Advances R c.args.end c.loop-passed.self c.settle_more.new.self c.loop-passed.from.cycle c.loop-passed.from.component p.to.cycle p.to.component p.computed) c.in-Ok-Some.field-0 passed c.in-Ok-Some.field-0-is c.in-Ok-Some.ensures.on in
    let at = advances.on c.args.self.now c.loop-passed.computed inv.at in
    let same : c.loop-passed.self.horizon ≡ c.settle_more.new.self.horizon = inv.at.horizon ∙ sym at.horizon in
    subst (λ h. 4294967296 * (h + 1 - passed.to.cycle) + (4294967296 - passed.to.component) < 4294967296 * (c.loop-passed.self.horizon + 1 - c.loop-passed.from.cycle) + (4294967296 - c.loop-passed.from.component)) same (nearer c.loop-passed.self.horizon c.loop-passed.from.cycle c.loop-passed.from.component passed.to.cycle passed.to.component advances.further inv.at.fits)

pub returns-in-Ok-None-clause-all : goal.returns-in-Ok-None-clause-all
returns-in-Ok-None-clause-all g c =
    let R = g.G.Grid.rules in
    let v = c.loop-passed.self in
    let end = c.args.end in
    let inv = c.loop-passed.invariant in
    let none = of_none (NoneDueBefore R v end 0 × HoldsRunBefore R v end 0 × (c.settle_more.new.self ≡ v)) c.in-Ok-None.field-0 c.in-Ok-None.field-0-is c.in-Ok-None.ensures.none in
    subst (λ w. IsAt R c.args.self.now w end 0 c.loop-passed.computed) (sym none.2) (comes_to R c.args.self.now v c.loop-passed.from.cycle c.loop-passed.from.component c.loop-passed.computed end inv.at none.0 none.1 inv.before)

pub returns-in-Err-ClockSpent-clause-stops : goal.returns-in-Err-ClockSpent-clause-stops
returns-in-Err-ClockSpent-clause-stops g c = record {
  cycle = c.loop-passed.from.cycle;
  component = c.loop-passed.from.component;
  at = subst (λ v. IsAt g.G.Grid.rules c.args.self.now v c.loop-passed.from.cycle c.loop-passed.from.component c.loop-passed.computed) (sym c.in-Err-ClockSpent.ensures.err) c.loop-passed.invariant.at;
  before = c.loop-passed.invariant.before;
}

pub returns-in-Err-Memory-clause-stops : goal.returns-in-Err-Memory-clause-stops
returns-in-Err-Memory-clause-stops g c = record {
  cycle = c.loop-passed.from.cycle;
  component = c.loop-passed.from.component;
  at = subst (λ v. IsAt g.G.Grid.rules c.args.self.now v c.loop-passed.from.cycle c.loop-passed.from.component c.loop-passed.computed) (sym c.in-Err-Memory.ensures.err) c.loop-passed.invariant.at;
  before = c.loop-passed.invariant.before;
}

pub returns-in-Err-ClockSpent-clause-spent : goal.returns-in-Err-ClockSpent-clause-spent
returns-in-Err-ClockSpent-clause-spent g c =
    λ _. subst (λ v. IsSpentBefore g.G.Grid.rules c.args.end v 0 0) (sym c.in-Err-ClockSpent.ensures.err) (spent_before g.G.Grid.rules c.loop-passed.self c.loop-passed.from.cycle c.loop-passed.from.component c.args.end c.loop-passed.invariant.at.none_before (c.in-Err-ClockSpent.ensures.spent (ap Err c.in-Err-ClockSpent.field-0-is)))
