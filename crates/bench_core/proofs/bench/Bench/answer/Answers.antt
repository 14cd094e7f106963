use Rattle.std.proofs.Common.{rules, ◌≡◌, refl, Some, None}
use Rattle.run_queries.specs.Queries.{bad_query}
use Rattle.bench_core.specs.Shown.{project_of}
use Rattle.bench_core.specs.declared.told.Told.TheVariants.{BadQuery}
use Rattle.bench_core.proofs.Asking.{asks_bad}
use Rattle.bench_core.proofs.Settled.{refused_told, tells_run}
use Rattle.bench_core.proofs.Answering.{refused_as, is_once, other_as, reply_as, order_good}
use Rattle.bench_core.proofs.bench.Bench.answer.Goals as goal

pub returns-in-Some-clause-told : goal.returns-in-Some-clause-told
returns-in-Some-clause-told g c =
    let is : bad_query (project_of c.args.self.now) c.args.query ≡ Some c.in-Some.number = search rules in
    refused_told c.args.self.now c.args.query c.in-Some.number is

pub returns-in-Some-clause-asks : goal.returns-in-Some-clause-asks
returns-in-Some-clause-asks g c =
    let is : bad_query (project_of c.args.self.now) c.args.query ≡ Some c.in-Some.number = search rules in
    asks_bad c.args.self.now c.args.query c.in-Some.number is

pub returns-in-Some-clause-settles : goal.returns-in-Some-clause-settles
returns-in-Some-clause-settles g c =
    let is : bad_query (project_of c.args.self.now) c.args.query ≡ Some c.in-Some.number = search rules in
    refused_as c.args.self.now c.args.query c.in-Some.number is

pub returns-in-Some-clause-headline_tells : goal.returns-in-Some-clause-headline_tells
returns-in-Some-clause-headline_tells g c =
    let b = c.args.self.now in
    tells_run b b c.args.query (BadQuery c.in-Some.number) refl refl (returns-in-Some-clause-told g c)

pub returns-in-Reply-clause-told : goal.returns-in-Reply-clause-told
returns-in-Reply-clause-told g c = rw c.in-Reply.is c.answer_reply.ensures.told

pub returns-in-Reply-clause-asks : goal.returns-in-Reply-clause-asks
returns-in-Reply-clause-asks g c = rw c.in-Reply.is c.answer_reply.ensures.asks

pub returns-in-Reply-clause-settles : goal.returns-in-Reply-clause-settles
returns-in-Reply-clause-settles g c =
    let good : bad_query (project_of c.args.self.now) c.args.query ≡ None = search rules in
    rw c.in-Reply.is (reply_as c.args.self.now c.answer_reply.new.self c.in-Reply.proc c.in-Reply.issue c.answer_reply.result (rw c.in-Reply.is at good) c.answer_reply.ensures.settles)

pub returns-in-Reply-clause-headline_tells : goal.returns-in-Reply-clause-headline_tells
returns-in-Reply-clause-headline_tells g c =
    let told = c.answer_reply.ensures in
    tells_run c.args.self.now c.answer_reply.new.self c.args.query c.answer_reply.result told.later.project told.later.journal (returns-in-Reply-clause-told g c)

pub returns-in-Order-clause-told : goal.returns-in-Order-clause-told
returns-in-Order-clause-told g c = rw c.in-Order.is c.answer_order.ensures.told

pub returns-in-Order-clause-settles : goal.returns-in-Order-clause-settles
returns-in-Order-clause-settles g c =
    let good : bad_query (project_of c.args.self.now) c.args.query ≡ None = search rules in
    rw c.in-Order.is (order_good c.args.self.now c.answer_order.new.self c.in-Order.address c.answer_order.result (rw c.in-Order.is at good) c.answer_order.ensures.settles)

pub returns-in-Order-clause-headline_tells : goal.returns-in-Order-clause-headline_tells
returns-in-Order-clause-headline_tells g c =
    let told = c.answer_order.ensures in
    tells_run c.args.self.now c.answer_order.new.self c.args.query c.answer_order.result told.later.project told.later.journal (returns-in-Order-clause-told g c)

pub returns-in_default-query : goal.returns-in_default-query
returns-in_default-query g c =
    let told = c.answer_at_once.ensures in
    record {
      told = told.told;
      asks = told.asks;
      settles = other_as c.args.self.now c.answer_at_once.new.self c.args.query c.answer_at_once.result (is_once c.args.query c.in_default-query.not-Reply c.in_default-query.not-Order) told.settles;
      later = told.later;
      spent = told.spent;
      headline_tells = tells_run c.args.self.now c.answer_at_once.new.self c.args.query c.answer_at_once.result told.later.project told.later.journal told.told;
    }
