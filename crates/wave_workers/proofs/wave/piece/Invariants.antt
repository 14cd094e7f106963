use Rattle.std.proofs.Common.{ℕ, ◌<◌, ◌≤◌, length, slice_index_or}
use Rattle.cell_table.specs.Waves.{Worked, IsReady, IsWork}
use Rattle.machine_cells.specs.declared.state.MachineState.{MachineState}
use Rattle.machine_cells.specs.GridRules.{rp3_rules}
use Rattle.wave_workers.proofs.wave.piece.Given as goal

abbrev pub invariant-loop-work : goal.invariant-loop-work
invariant-loop-work g l = record {
  done : (k : ℕ) (d : Worked MachineState) → k < l.work-index → IsWork rp3_rules l.table.slots (slice_index_or l.work-items k d);
  rest : (k : ℕ) (d : Worked MachineState) → l.work-index ≤ k → k < length l.work-items → IsReady rp3_rules l.table (slice_index_or l.work-items k d).cell.cycle (slice_index_or l.work-items k d).cell.component;
}
