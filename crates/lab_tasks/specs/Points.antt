-- The points that are measured.
use Rattle.std.specs.Prelude.{◌≡◌, ℕ, ◌+◌, ◌/◌, ◌++◌, Bool, true, false, List, map}
use Rattle.std.specs.List.{flat_map}
use Rattle.omega_net.specs.Wires.{below}
use Rattle.experiments.specs.declared.load.Load.{Load}
use Rattle.experiments.specs.Steady.{IsSteady}
use Rattle.experiments.specs.Delays.{IsWaited}
use Rattle.lab_tasks.specs.declared.plan.CurvePlan.{CurvePlan}
use Rattle.lab_tasks.specs.declared.tables.RatePoint.{RatePoint}
use Rattle.lab_tasks.specs.declared.tables.DelayPoint.{DelayPoint}

-- a load of a plan for each share, on machines of 2^k processors
abbrev pub share_loads : CurvePlan → ℕ → Bool → Bool → List Load
share_loads plan k sync combine =
    map (λ hot. record { k = k; hot = hot; seed = plan.seed; cycles = plan.cycles; sync = sync; combine = combine }) plan.hot.items

-- a load with each of so many seeds, from its own on; and with each share too
abbrev pub seeded : Load → ℕ → List Load
seeded load n = map (λ i. record load { seed = load.seed + i }) (below n)

abbrev pub seeded_loads : CurvePlan → ℕ → Bool → List Load
seeded_loads plan k combine =
    flat_map (λ hot. seeded (record { k = k; hot = hot; seed = plan.seed; cycles = plan.cycles; sync = true; combine = combine }) plan.seeds) plan.hot.items

-- for each number of processors, first without combining and then with it, each share with each seed
abbrev pub rate_loads : CurvePlan → List Load
rate_loads plan = flat_map (λ k. seeded_loads plan k false ++ seeded_loads plan k true) (below (plan.k + 1))

-- the low network, and the combining one without and with combining, each with each share
abbrev pub delay_loads : CurvePlan → List Load
delay_loads plan = share_loads plan plan.k false false ++ share_loads plan plan.k true false ++ share_loads plan plan.k true true

-- the second half of so many cycles is measured, from this one on
abbrev pub first_measured : ℕ → ℕ
first_measured cycles = cycles / 2 + 1

-- the point of a load has how many references were answered in its run, and how many requests served, once that was steady
abbrev pub IsRate : Load → RatePoint → Type 0
IsRate load point =
    (point.load ≡ load) × IsSteady load (record { first = point.first; answered = point.answered; served = point.served })

-- the point of a load has the replies to references that aren't hot, in its run in the measured cycles, and how long they took
abbrev pub IsDelay : CurvePlan → Load → DelayPoint → Type 0
IsDelay plan load point =
    (point.load ≡ load) × IsWaited load (first_measured plan.cycles) (record { count = point.replies; cycles = point.waited })
