use Rattle.std.proofs.Common.{◌≡◌, ◌++◌, string_bytes}
use Rattle.std.specs.List.{flat_map}
use Rattle.omega_net.specs.Wires.{below}
use Rattle.run_reports.specs.FullTexts.{full_row}
use Rattle.run_reports.proofs.full_report.add_all_rows.Given as goal

abbrev pub invariant-loop-cycle : goal.invariant-loop-cycle
invariant-loop-cycle l = string_bytes l.text ≡ string_bytes l.initial.text ++ flat_map (λ t. flat_map (full_row l.shape t) l.firsts) (below l.cycle)
