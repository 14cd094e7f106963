use Rattle.bench_core.proofs.Asking.{answers_run}
use Rattle.bench_core.proofs.Waiting.{asks_run}
use Rattle.bench_core.proofs.bench.Bench.ask.Goals as goal

pub returns-clause-headline_answers : goal.returns-clause-headline_answers
returns-clause-headline_answers g c = answers_run c.args.self.now c.args.query c.ask_plain.result c.ask_plain.ensures.asks

pub returns-clause-headline_asks : goal.returns-clause-headline_asks
returns-clause-headline_asks g c = asks_run c.args.self.now c.args.query c.ask_plain.result c.ask_plain.ensures.asks
