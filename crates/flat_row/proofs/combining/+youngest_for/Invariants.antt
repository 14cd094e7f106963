use Rattle.std.proofs.Common.{length}
use Rattle.flat_row.proofs.combining.+youngest_for.Given as goal

abbrev pub decreases-youngest_for : goal.decreases-youngest_for
decreases-youngest_for l = length l.requests.now
