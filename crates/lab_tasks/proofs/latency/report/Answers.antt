use Rattle.lab_tasks.proofs.latency.report.Goals as goal

pub returns-clause-text : goal.returns-clause-text
returns-clause-text c = (c.in_ok-hot.hot, c.in_ok-latencies.latencies, c.in_ok-hot.ensures.heat, c.in_ok-latencies.ensures.latencies, c.in_ok-latency_text.ensures)
