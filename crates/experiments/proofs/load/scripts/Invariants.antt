use Rattle.std.proofs.Common.{◌≡◌, ◌^◌, length}
use Rattle.project_book.specs.Scales.{most_entries}
use Rattle.project_book.specs.Scripts.{AreFew}
use Rattle.experiments.specs.Loads.{scale_of, script_drawn}
use Rattle.experiments.proofs.Draws.{set_before}
use Rattle.experiments.proofs.load.scripts.Given as goal

abbrev pub invariant-loop-proc : goal.invariant-loop-proc
invariant-loop-proc l = (length l.all ≡ 2 ^ l.load.k) × AreFew (most_entries (scale_of l.load)) l.all × (l.all ≡ set_before (script_drawn l.load) l.proc (2 ^ l.load.k))
