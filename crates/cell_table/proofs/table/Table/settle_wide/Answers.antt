use Rattle.std.proofs.Common.{◌+◌, sym, ap, subst, arith, not}
use Rattle.cell_table.specs.Passing.{HoldsBut}
use Rattle.cell_table.specs.Settling.{IsAt}
use Rattle.cell_table.proofs.Passes.{further_cycle}
use Rattle.cell_table.proofs.table.Table.settle_wide.Goals as goal

pub refilled-requires : goal.refilled-requires
refilled-requires g c = (
  c.args.self.now,
  c.requires.worked.watched,
  subst (HoldsBut g.G.Grid.rules c.args.self.now c.settle_row.new.self) (sym c.as_slice.ensures.value) (c.in-Some-settle_row.ensures.but (ap not c.if-is_told.true)),
)

pub returns-clause-on : goal.returns-clause-on
returns-clause-on g c =
    let ahead = c.in-Some.ensures.ahead in
    record {
      on = λ first n at. subst (λ k. IsAt g.G.Grid.rules first c.settle_row.new.self (c.in-Some.cycle + 1) 0 (n + k)) (sym c.from.ensures) (c.in-Some-settle_row.ensures.on first n (c.in-Some.ensures.at first n at));
      further = further_cycle c.args.self.now.horizon c.args.from.cycle c.args.from.component (c.in-Some.cycle + 1) (omega (arith, ahead.0)) (omega (arith, ahead.1, c.requires.within));
      before = (omega (arith, ahead.1), λ e. omega arith);
    }
