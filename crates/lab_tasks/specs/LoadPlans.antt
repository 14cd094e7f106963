-- Which offered loads `load` measures, and why it doesn't.
use Rattle.std.specs.Prelude.{◌≡◌, ◌≤◌, ◌<◌, ◌+◌, ◌-◌, ◌*◌, ◌/◌, ◌++◌, ◌⊎◌, ◌&&◌, nat_le, ℕ, Bool, true, false, List, map, Option, None, Some, codes, unwrap_or}
use Rattle.std.specs.List.{flat_map}
use Rattle.omega_net.specs.Wires.{below}
use Rattle.page_map.specs.Limits.{max_k}
use Rattle.experiments.specs.declared.load.Load.{Load}
use Rattle.experiments.specs.declared.offer.Offer.{Offer}
use Rattle.lab_tasks.specs.declared.end.End.{End}
use Rattle.lab_tasks.specs.declared.load_plan.LoadPlan.{LoadPlan}
use Rattle.lab_tasks.specs.declared.words.LoadWords.{LoadWords}
use Rattle.lab_tasks.specs.Ends.{RefusesForm, RefusesRange, RefusesBackwards}
use Rattle.lab_tasks.specs.Numbers.{range_of, IsTold, IsUntold, AreShares, AreNoShares}
use Rattle.lab_tasks.specs.Plans.{InTurn}
use Rattle.lab_tasks.specs.Words.{text_of}

-- the first and the last rate: 5 and 100 of a hundred cycles without a word, else those of a text `FROM..TO`
abbrev pub IsSpan : Option (List ℕ) → ℕ × ℕ → Type 0
IsSpan None span = (span.0 ≡ 5) × (span.1 ≡ 100)
IsSpan (Some word) span = (range_of word ≡ Some span) × (1 ≤ span.0) × (span.0 ≤ span.1) × (span.1 ≤ 100)

-- why a word gives none
abbrev pub RefusesSpan : List ℕ → Option (ℕ × ℕ) → End → Type 0
RefusesSpan word None end = RefusesForm (codes "--rate") word (codes "two numbers, as 5..100") end
RefusesSpan word (Some span) end =
    (((nat_le 1 span.0 && nat_le span.1 100) ≡ false) × RefusesRange (codes "--rate") word 1 100 end)
    ⊎ ((span.1 < span.0) × RefusesBackwards (codes "--rate") word end)

abbrev pub IsNoSpan : Option (List ℕ) → End → Type 0
IsNoSpan None end = ⊥
IsNoSpan (Some word) end = RefusesSpan word (range_of word) end

-- the shares: none hot without a word
abbrev pub shares_text : LoadWords → Option (List ℕ)
shares_text words = Some (unwrap_or (text_of words.curves.hot) (codes "0"))

-- what `load` measures
pub record IsLoadPlan (words : LoadWords) (plan : LoadPlan) : Type 0 where
  pub k : IsTold (text_of words.curves.k) max_k 1 max_k plan.k
  pub hot : AreShares (shares_text words) plan.hot.items
  pub span : IsSpan (text_of words.rate) (plan.from, plan.to)
  pub step : IsTold (text_of words.step) 5 1 100 plan.step
  pub cycles : IsTold (text_of words.curves.cycles) 256 2 4096 plan.cycles
  pub seed : IsTold (text_of words.curves.seed) 1 0 4294967295 plan.seed
  pub seeds : IsTold (text_of words.curves.seeds) 5 1 20 plan.seeds

-- why the words ask for no such thing: the first one in this order that is refused
abbrev pub IsNoLoadPlan : LoadWords → End → Type 0
IsNoLoadPlan words end =
    InTurn (IsUntold (codes "--k") (text_of words.curves.k) 1 max_k end) (IsTold (text_of words.curves.k) max_k 1 max_k) (λ k.
    InTurn (AreNoShares (shares_text words) end) (AreShares (shares_text words)) (λ hot.
    InTurn (IsNoSpan (text_of words.rate) end) (IsSpan (text_of words.rate)) (λ span.
    InTurn (IsUntold (codes "--step") (text_of words.step) 1 100 end) (IsTold (text_of words.step) 5 1 100) (λ step.
    InTurn (IsUntold (codes "--cycles") (text_of words.curves.cycles) 2 4096 end) (IsTold (text_of words.curves.cycles) 256 2 4096) (λ cycles.
    InTurn (IsUntold (codes "--seed") (text_of words.curves.seed) 0 4294967295 end) (IsTold (text_of words.curves.seed) 1 0 4294967295) (λ seed.
    IsUntold (codes "--seeds") (text_of words.curves.seeds) 1 20 end))))))

-- how many rates are measured, and each of them
abbrev pub rate_count : LoadPlan → ℕ
rate_count plan = (plan.to - plan.from) / plan.step + 1

abbrev pub rate_at : LoadPlan → ℕ → ℕ
rate_at plan i = plan.from + i * plan.step

-- a load of the plan, and that load at each rate with each seed
abbrev pub load_of : LoadPlan → Bool → Bool → ℕ → Load
load_of plan sync combine hot = record { k = plan.k; hot = hot; seed = plan.seed; cycles = plan.cycles; sync = sync; combine = combine }

abbrev pub seeded_offers : Load → ℕ → ℕ → List Offer
seeded_offers load seeds rate = map (λ s. record { load = record load { seed = load.seed + s }; rate = rate }) (below seeds)

abbrev pub rate_offers : LoadPlan → Load → List Offer
rate_offers plan load = flat_map (λ i. seeded_offers load plan.seeds (rate_at plan i)) (below (rate_count plan))

-- THE LOADS: for each share the low network, the combining one without and with combining, each with each rate, with each seed
abbrev pub share_offers : LoadPlan → ℕ → List Offer
share_offers plan hot =
    rate_offers plan (load_of plan false false hot) ++ rate_offers plan (load_of plan true false hot) ++ rate_offers plan (load_of plan true true hot)

abbrev pub offers_of : LoadPlan → List Offer
offers_of plan = flat_map (share_offers plan) plan.hot.items
