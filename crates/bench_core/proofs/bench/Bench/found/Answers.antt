use Rattle.bench_core.proofs.Looking.{reply_told, state_told, word_told}
use Rattle.bench_core.proofs.bench.Bench.found.Goals as goal

pub returns-in-Reply-clause-tells : goal.returns-in-Reply-clause-tells
returns-in-Reply-clause-tells g c = rw c.in-Reply.is (reply_told c.args.self.now c.in-Reply.proc c.in-Reply.issue c.reply.result (rw c.in-Reply.is at c.requires.good) (rw c.in-Reply.is at c.requires.there) c.reply.ensures)

pub returns-in-State-clause-tells : goal.returns-in-State-clause-tells
returns-in-State-clause-tells g c = rw c.in-State.is (state_told c.args.self.now c.in-State.component c.in-State.cycle c.state.result (rw c.in-State.is at c.requires.good) (rw c.in-State.is at c.requires.there) c.state.ensures)

pub returns-in-Memory-clause-tells : goal.returns-in-Memory-clause-tells
returns-in-Memory-clause-tells g c = rw c.in-Memory.is (word_told c.args.self.now c.in-Memory.address c.in-Memory.cycle c.word.result (rw c.in-Memory.is at c.requires.good) (rw c.in-Memory.is at c.requires.there) c.word.ensures)
