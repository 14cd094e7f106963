use Rattle.std.proofs.Common.{◌≡◌, ◌+◌, ◌<◌, ◌≤◌, ◌^◌, false, Err, ap, sym, subst, arith}
use Rattle.cell_table.specs.declared.given.StoreFault.TheVariants.{ClockSpent}
use Rattle.cell_table.specs.Gives.{HoldsSame}
use Rattle.cell_table.specs.Settling.{SettlesNext, IsSpentBefore, IsAt}
use Rattle.cell_table.proofs.Passes.{of_some, goes_on}
use Rattle.cell_table.proofs.table.Table.settle_more.Goals as goal

pub tell-requires : goal.tell-requires
tell-requires g c =
    let R = g.G.Grid.rules in
    let settled = c.in-Ok-Some.settled in
    let next = of_some (λ s. SettlesNext R c.settle_at_once.new.self c.settle_next.new.self c.args.from.cycle c.args.from.component s.cell) c.in-Ok-Some.field-0 settled c.in-Ok-Some.field-0-is c.in-Ok-Some.ensures.some in
    let same = of_some (λ s. s.changed ≡ false → HoldsSame R c.settle_at_once.new.self c.settle_next.new.self) c.in-Ok-Some.field-0 settled c.in-Ok-Some.field-0-is c.in-Ok-Some.ensures.kept in
    (c.settle_at_once.new.self, c.settle_at_once.ensures.worked.watched, record { there = next.settled.there; state = _; changed = next.changed; after = next.settled.after }, same)

pub returns-in-Ok-Some-clause-on : goal.returns-in-Ok-Some-clause-on
returns-in-Ok-Some-clause-on g c =
    let R = g.G.Grid.rules in
    let settled = c.in-Ok-Some.settled in
    let next = of_some (λ s. SettlesNext R c.settle_at_once.new.self c.settle_next.new.self c.args.from.cycle c.args.from.component s.cell) c.in-Ok-Some.field-0 settled c.in-Ok-Some.field-0-is c.in-Ok-Some.ensures.some in
    let fits = of_some (λ s. (s.cell.cycle < c.args.end) × (s.cell.component + 1 < 2 ^ 32)) c.in-Ok-Some.field-0 settled c.in-Ok-Some.field-0-is c.in-Ok-Some.ensures.fits in
    let same = sym c.in-None.ensures.none in
    let there : settled.cell.cycle ≤ c.args.self.now.horizon = rw (← same) at next.settled.there.cycle in
    record {
      on = λ first n at. goes_on R first c.settle_at_once.new.self c.settle_next.new.self c.args.from.cycle c.args.from.component n settled.cell (subst (λ v. IsAt R first v c.args.from.cycle c.args.from.component n) same at) next fits.1;
      further = ((next.after.0, λ e. (let k = next.after.1 e in omega (arith, k))), omega (arith, there));
      before = (omega (arith, fits.0), λ e. absurd (omega (arith, e, fits.0)));
    }

pub returns-in-Err-clause-spent : goal.returns-in-Err-clause-spent
returns-in-Err-clause-spent g c =
    λ e. let same : c.in-Err.fault ≡ ClockSpent = cc in
    subst (λ v. IsSpentBefore g.G.Grid.rules c.args.end v c.args.from.cycle c.args.from.component) c.in-None.ensures.none (c.in-Err.ensures.spent (ap Err same))
