use Rattle.bench_core.proofs.Counting.{short_still, are_kept}
use Rattle.bench_core.proofs.counters.CountersWatcherRp3.kept.Goals as goal

pub returns : goal.returns
returns c =
    (short_still c.requires.0 c.args.table.now c.requires.2.slots c.requires.2.horizon c.requires.1.0, are_kept c.args.self.now c.requires.0 c.args.table.now c.requires.1.1 c.requires.2)
