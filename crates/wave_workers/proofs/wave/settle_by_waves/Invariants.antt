use Rattle.cell_table.specs.Settling.{IsAt}
use Rattle.std.proofs.Common.{◌≡◌, ◌+◌, ◌-◌, ◌*◌, All}
use Rattle.cell_table.specs.Waves.{IsWork}
use Rattle.machine_cells.specs.GridRules.{rp3_rules}
use Rattle.bench_core.specs.Shown.{project_of}
use Rattle.wave_workers.proofs.wave.settle_by_waves.Given as goal

abbrev pub invariant-loop-cell : goal.invariant-loop-cell
invariant-loop-cell g l = record {
  at : IsAt rp3_rules l.initial.bench.table l.bench.table l.from.cycle l.from.component l.computed;
  works : All (IsWork rp3_rules (project_of l.bench)) l.works.items;
  journal : l.bench.journal ≡ l.initial.bench.journal;
}

abbrev pub decreases-loop-cell : goal.decreases-loop-cell
decreases-loop-cell g l = 4294967296 * (l.bench.table.horizon + 1 - l.from.cycle) + (4294967296 - l.from.component)
