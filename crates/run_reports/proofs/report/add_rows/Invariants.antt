use Rattle.std.proofs.Common.{◌≡◌, ◌++◌, string_bytes}
use Rattle.std.specs.Prelude.{slice_index}
use Rattle.std.specs.List.{flat_map}
use Rattle.omega_net.specs.Wires.{below}
use Rattle.run_reports.specs.Texts.{row_text}
use Rattle.run_reports.proofs.report.add_rows.Given as goal

abbrev pub invariant-loop-latency : goal.invariant-loop-latency
invariant-loop-latency l = string_bytes l.text ≡ string_bytes l.initial.text ++ flat_map (λ d. row_text d (slice_index l.numbers d)) (below l.latency)
