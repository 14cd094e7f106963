-- What comes of an offered load once the rate of answers is steady.
use Rattle.std.specs.Prelude.{◌≡◌, ℕ, ◌+◌, ◌/◌, min, List, sum, Option, None, Some, Result, Ok, Err}
use Rattle.monitor_sums.specs.declared.counter.Counter.TheVariants.{Answered}
use Rattle.run_queries.specs.declared.query.Query.TheVariants.{Counter as CountOf}
use Rattle.run_queries.specs.declared.body.Body.TheVariants.{Count as Counts}
use Rattle.run_queries.specs.Answers.{answer}
use Rattle.run_reports.specs.declared.condition.Condition.{Condition}
use Rattle.run_reports.specs.declared.latency.Latencies.{Latencies}
use Rattle.run_reports.specs.Figures.{mean}
use Rattle.run_reports.specs.Latencies.{AreLatencies}
use Rattle.experiments.specs.declared.fault.Fault.{Fault}
use Rattle.experiments.specs.declared.offer.Offer.{Offer}
use Rattle.experiments.specs.declared.traffic.Traffic.{Traffic}
use Rattle.experiments.specs.Flows.{IsFlow, IsNoRun}
use Rattle.experiments.specs.Offers.{project_offered}
use Rattle.experiments.specs.Steady.{left_out}

-- the middle of the cycles that are counted: references that are issued up to it have as many cycles again for their reply
abbrev pub middle : ℕ → ℕ → ℕ
middle first cycles = (first + cycles) / 2

-- the references that are issued from the first of these cycles to the middle
abbrev pub issued_by_middle : ℕ → ℕ → Condition
issued_by_middle first cycles = record {
  proc = None;
  net = None;
  page = None;
  address = None;
  hot = None;
  window = Some (record { from = first; to = middle first cycles });
}

-- what came of an offered load's run from the cycle on behind which the rate of answers is steady: the references answered in its cycles; and
-- of those issued up to the middle of these cycles how many have a reply, how many none, and the mean latency in hundredths of a cycle
pub record IsTraffic (o : Offer) (t : Traffic) : Type 0 where
  pub flow : List ℕ
  pub is_flow : IsFlow (project_offered o) Answered flow
  pub first : t.first ≡ min (left_out flow o.load.cycles + 1) o.load.cycles
  pub answered : answer (project_offered o) (CountOf Answered None t.first o.load.cycles) ≡ Ok (Counts t.answered)
  pub latencies : Latencies
  pub are_latencies : AreLatencies (project_offered o) (issued_by_middle t.first o.load.cycles) latencies
  pub replies : t.replies ≡ sum latencies.histogram.items
  pub unanswered : t.unanswered ≡ latencies.unanswered
  pub mean : t.mean ≡ mean latencies.histogram.items

-- what is answered for an offered load
abbrev pub IsTrafficBy : Offer → Result Traffic Fault → Type 0
IsTrafficBy o (Ok t) = IsTraffic o t
IsTrafficBy o (Err f) = IsNoRun o.load f
