use Rattle.std.specs.Prelude.{vec_len}
use Rattle.wave_workers.proofs.threads.+all.Given as goal

abbrev pub decreases-all : goal.decreases-all
decreases-all g a = vec_len a.gates
