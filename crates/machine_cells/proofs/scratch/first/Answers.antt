use Rattle.std.proofs.Common.{Bor}
use Rattle.machine_cells.specs.declared.state.MachineState.{MachineState}
use Rattle.machine_cells.proofs.Rows.{first_of}
use Rattle.machine_cells.proofs.scratch.first.Goals as goal

pub returns : goal.returns
returns c = first_of (λ (r : Bor MachineState). r.now) c.args.count c.args.states.now
