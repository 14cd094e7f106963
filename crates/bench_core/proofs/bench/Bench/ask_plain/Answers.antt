use Rattle.std.proofs.Common.{rules}
use Rattle.bench_core.proofs.Asking.{asks_found}
use Rattle.bench_core.proofs.bench.Bench.ask_plain.Goals as goal

pub returns-in-Ok-eq0-clause-asks : goal.returns-in-Ok-eq0-clause-asks
returns-in-Ok-eq0-clause-asks g c = asks_found c.args.self.now c.args.query c.told.result (search rules) (search rules) c.told.ensures.tells
