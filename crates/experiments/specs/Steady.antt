-- What comes of a run once its rate is steady.
use Rattle.std.specs.Prelude.{◌≡◌, ℕ, zero, suc, ◌+◌, ◌-◌, ◌*◌, ◌/◌, nat_le, min, max, Bool, if◌then◌else◌, List, None, Result, Ok, Err}
use Rattle.monitor_sums.specs.declared.counter.Counter.{Counter}
use Rattle.monitor_sums.specs.declared.counter.Counter.TheVariants.{Answered, Served}
use Rattle.run_queries.specs.declared.query.Query.TheVariants.{Counter as CountOf}
use Rattle.run_queries.specs.declared.body.Body.TheVariants.{Count as Counts}
use Rattle.run_queries.specs.Answers.{answer}
use Rattle.experiments.specs.declared.fault.Fault.{Fault}
use Rattle.experiments.specs.declared.load.Load.{Load}
use Rattle.experiments.specs.declared.steady.Steady.{Steady}
use Rattle.experiments.specs.Flows.{sum_between, IsFlow, IsNoRun}
use Rattle.experiments.specs.Loads.{loaded}

-- two numbers differ by a twentieth of their sum at most
abbrev pub are_near : ℕ → ℕ → Bool
are_near a b = nat_le ((max a b - min a b) * 20) (a + b)

-- the two halves of the cycles behind so many have as much; the middle one of an odd number is in neither
abbrev pub is_steady : List ℕ → ℕ → ℕ → Bool
is_steady flow cycles left =
    are_near (sum_between flow (left + 1) (left + (cycles - left) / 2)) (sum_between flow (cycles + 1 - (cycles - left) / 2) cycles)

-- the first of n numbers, from one on in steps of 16, behind which it is steady, else a last one
unfoldable pub first_steady : List ℕ → ℕ → ℕ → ℕ → ℕ → ℕ
first_steady flow cycles last zero left = last
first_steady flow cycles last (suc n) left = if is_steady flow cycles left then left else first_steady flow cycles last n (left + 16)

-- how many cycles are left out: 16, 32, .., less than half of them; else half
abbrev pub left_out : List ℕ → ℕ → ℕ
left_out flow cycles = first_steady flow cycles (cycles / 2) ((cycles / 2 - 1) / 16) 16

-- so many does a load's run count from a cycle to its last one
abbrev pub IsCounted : Load → Counter → ℕ → ℕ → Type 0
IsCounted load counter from n = answer (loaded load) (CountOf counter None from load.cycles) ≡ Ok (Counts n)

-- what came of a load's run from the cycle on behind which the rate of answers is steady
pub record IsSteady (load : Load) (s : Steady) : Type 0 where
  pub flow : List ℕ
  pub is_flow : IsFlow (loaded load) Answered flow
  pub first : s.first ≡ min (left_out flow load.cycles + 1) load.cycles
  pub answered : IsCounted load Answered s.first s.answered
  pub served : IsCounted load Served s.first s.served

-- what is answered for a load
abbrev pub IsSteadyBy : Load → Result Steady Fault → Type 0
IsSteadyBy load (Ok s) = IsSteady load s
IsSteadyBy load (Err f) = IsNoRun load f
