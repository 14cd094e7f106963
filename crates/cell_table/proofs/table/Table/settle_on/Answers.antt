use Rattle.std.proofs.Common.{sym, subst}
use Rattle.cell_table.specs.Passing.{HoldsBut}
use Rattle.cell_table.proofs.Passes.{further_on}
use Rattle.cell_table.proofs.table.Table.settle_on.Goals as goal

pub refilled-requires : goal.refilled-requires
refilled-requires g c = (
  c.args.self.now,
  c.requires.marked.watched,
  subst (HoldsBut g.G.Grid.rules c.args.self.now c.settle_alike.new.self) (sym c.as_slice.ensures.value) c.in-Some-settle_alike.ensures.passes.but,
)

pub returns-clause-on : goal.returns-clause-on
returns-clause-on g c =
    let advances = c.in-Some-settle_alike.ensures.passes.on in
    record {
      on = λ first n at. advances.on first n (c.in-Some.ensures.at first n at);
      further = further_on c.args.self.now.horizon c.args.from.cycle c.args.from.component c.in-Some.cycle c.in-Some-settle_alike.passed.to.cycle c.in-Some-settle_alike.passed.to.component c.in-Some-settle_alike.ensures.passes.begins c.in-Some.ensures.ahead.0 advances.further;
      before = advances.before;
    }
