use Rattle.std.proofs.Common.{◌+◌, ◌∙◌, sym, arith, eqb}
use Rattle.cell_table.specs.Cells.{IsThere}
use Rattle.due_cells.specs.Ranges.{is_marked}
use Rattle.cell_table.specs.Touches.{cell_reads_one}
use Rattle.cell_table.proofs.Asking.{always_more, sure_reads}
use Rattle.cell_table.proofs.table.Table.add_always.Goals as goal

pub returns-clause-within : goal.returns-clause-within
returns-clause-within g c =
    c.in_ok-add_where.ensures.within (c.args.last + 1) (g.G.Grid.rules.components c.args.self.now.slots) c.requires.within (omega (arith, c.if-to-eq0.false), omega (arith, c.min-to.ensures), c.requires.component)

pub returns-clause-at : goal.returns-clause-at
returns-clause-at g c = λ t d h.
    let R = g.G.Grid.rules in
    let v = c.args.self.now in
    let to = c.min-to.result in
    c.in_ok-add_where.ensures.at t d
    ∙ always_more (is_marked c.args.ranges.now.items t d) (eqb d c.args.component) t to (cell_reads_one R v.slots v.rows c.args.slot.now t c.args.component) (λ k l.
    let there : IsThere R v t c.args.component = record { cycle = omega (arith, h, c.requires.there); component = c.requires.component } in
    sure_reads R g.G.Grid.laws v.slots v.rows c.args.component t c.args.slot.now (sym (rw (← c.self.view_is) c.always_reads.ensures) ∙ c.if-not-always_reads.false) k (c.requires.ready t c.args.component (omega (arith, l, c.min-to.ensures)) there))
