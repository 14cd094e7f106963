use Rattle.std.proofs.Common.{◌≡◌, ◌≤◌, ◌∙◌, ℕ, List, Ok, ap, sym, refl, arith}
use Rattle.std.specs.Prelude.{Result}
use Rattle.run_queries.specs.declared.body.Body.{Body}
use Rattle.run_queries.specs.declared.body.Body.TheVariants.{Count as Counts}
use Rattle.experiments.specs.Flows.{sum_between}
use Rattle.experiments.proofs.traffic.traffic_in.Goals as goal

pub returns : goal.returns
returns c =
    let first = c.args.first in
    let cycles = c.args.offer.load.cycles in
    let within : first ≤ cycles = omega (arith, c.requires.first) in
    let says : ℕ → Result Body ℕ = λ n. Ok (Counts n) in
    let sum = c.sum_between.ensures.sum ∙ ap (λ (flow : List ℕ). sum_between flow first cycles) c.as_slice.ensures.value in
    record {
      flow = c.args.flows.now.answered.items;
      is_flow = c.requires.answered;
      first = c.requires.first;
      answered = c.requires.answered.1 first cycles within (omega arith) ∙ ap says (sym sum);
      latencies = c.args.latencies.now;
      are_latencies = c.requires.latencies;
      replies = c.number.ensures;
      unanswered = refl;
      mean = c.mean.ensures;
    }
