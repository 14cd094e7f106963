use Rattle.std.proofs.Common.{◌≡◌, ℕ, zero, suc, ◌<◌, ◌≤◌, refl, sym, subst, arith, ◌⊎◌, inl, inr, IfSome}
use Rattle.due_cells.specs.Beside.{AreBeside}
use Rattle.due_cells.specs.Seen.{Seen}
use Rattle.due_cells.specs.Spares.{GoesAlong}
use Rattle.cell_table.specs.Settling.{IsNextDue}
use Rattle.cell_table.proofs.Passes.{begins, comes_ahead, runs_here}
use Rattle.cell_table.proofs.LeftOut.{new_spare}
use Rattle.cell_table.proofs.Cuts.{comes_to, none_to}
use Rattle.cell_table.proofs.table.Table.settle_each.Goals as goal

-- a cycle is the first one, or stands behind it
at_start : (t c : ℕ) → c ≡ 0 → (0 < t) ⊎ ((t ≤ 0) × (c ≡ 0))
at_start zero c e = inr (omega arith, e)
at_start (suc t) c e = inl (omega arith)

pub returns-in-None-clause-all : goal.returns-in-None-clause-all
returns-in-None-clause-all g c =
    let R = g.G.Grid.rules in
    let i = c.self.inside in
    let v : Seen g.row.G-State.Denot g.row.G-Slots.Denot = record { slots = i.slots; horizon = i.horizon; clock = i.clock; rows = i.cells } in
    let none = none_to R v 0 0 c.args.end (begins R v).none_before (rw (← c.self.view_is) at c.in-None.ensures) in
    rw (← c.self.view_is) (comes_to R v v 0 0 0 c.args.end (begins R v) none (runs_here R g.G.Grid.laws v c.self.invariant.table c.args.end none) (omega arith, λ e. omega arith))

pub returns-in-Err-clause-stops : goal.returns-in-Err-clause-stops
returns-in-Err-clause-stops g c = record {
  cycle = 0;
  component = 0;
  at = begins g.G.Grid.rules c.args.self.now;
  before = (omega arith, λ e. omega arith);
}

pub settle_all-settled-requires-clause-worked : goal.settle_all-settled-requires-clause-worked
settle_all-settled-requires-clause-worked g c =
    let count : c.components-count.result ≡ g.G.Grid.rules.components c.args.self.now.slots = rw (← c.self.view_is) c.components-count.ensures in
    let R = g.G.Grid.rules in
    let W = g.M.WholeRow in
    let s = c.args.self.now.slots in
    let along : IfSome c.renew.new.beside.along (GoesAlong R W.stands W.state s) = rw (← c.self.view_is) c.renew.ensures.along in
    let rows : AreBeside R g.G.Grid.codec W.stands W.state s c.renew.new.beside = rw (← c.self.view_is) c.renew.ensures.rows in
    record {
      watched = c.requires.tended.watched;
      workspace = record {
        spare = new_spare g.G.Grid.rules c.args.self.now c.components-count.result c.in-Ok.spare c.in-Ok.ensures.wide count c.in-Ok.ensures.none;
        along = subst (λ row. IfSome row (GoesAlong R W.stands W.state s)) (sym c.take-along.ensures.value) along;
        beside = record { near = rows.near; idle = rows.idle };
      };
    }

pub settle_all-settled-requires-clause-at : goal.settle_all-settled-requires-clause-at
settle_all-settled-requires-clause-at g c =
    let R = g.G.Grid.rules in
    let i = c.self.inside in
    let v : Seen g.row.G-State.Denot g.row.G-Slots.Denot = record { slots = i.slots; horizon = i.horizon; clock = i.clock; rows = i.cells } in
    let cell = c.in-Some.cell in
    let next : IsNextDue R v 0 0 cell = rw (← c.self.view_is) at c.in-Some.ensures.0 in
    rw (← c.self.view_is) (comes_ahead R g.G.Grid.laws v c.self.invariant.table 0 0 cell (begins R v).none_before next (at_start cell.cycle 0 refl) v 0 (begins R v))
