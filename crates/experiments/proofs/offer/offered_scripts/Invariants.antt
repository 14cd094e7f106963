use Rattle.std.proofs.Common.{◌≡◌, ◌^◌, length}
use Rattle.project_book.specs.Scales.{most_entries}
use Rattle.project_book.specs.Scripts.{AreFew}
use Rattle.experiments.specs.Loads.{scale_of}
use Rattle.experiments.specs.Offers.{script_offered}
use Rattle.experiments.proofs.Draws.{set_before}
use Rattle.experiments.proofs.offer.offered_scripts.Given as goal

abbrev pub invariant-loop-proc : goal.invariant-loop-proc
invariant-loop-proc l = (length l.all ≡ 2 ^ l.offer.load.k) × AreFew (most_entries (scale_of l.offer.load)) l.all × (l.all ≡ set_before (script_offered l.offer) l.proc (2 ^ l.offer.load.k))
