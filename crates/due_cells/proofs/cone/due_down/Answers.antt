use Rattle.std.proofs.Common.{◌+◌, ◌-◌, ◌∙◌, arith, refl}
use Rattle.due_cells.specs.Seen.{row_at}
use Rattle.due_cells.specs.Cones.{is_in}
use Rattle.due_cells.proofs.Cones.{down}
use Rattle.due_cells.proofs.cone.due_down.Goals as goal

pub loop-cycle-preserved : goal.loop-cycle-preserved
loop-cycle-preserved g c =
    record {
      len = c.in_ok-members-2.ensures.len;
      stay = c.in_ok-members-2.ensures.stay;
      total = down g.G.Grid.rules c.args.slots.now c.args.cells.now (is_in c.loop-cycle.members) (is_in c.in_ok-members-2.members) (row_at c.args.cells.now (c.loop-cycle.cycle - 1 + 1)) c.loop-cycle.cycle _ c.loop-cycle.due c.due_among-due.result (omega arith) c.loop-cycle.invariant.len refl c.due_among-due.ensures.value c.in_ok-members-2.ensures.at ∙ c.loop-cycle.invariant.total;
      few = omega arith;
    }
