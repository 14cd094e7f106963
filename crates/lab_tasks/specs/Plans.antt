-- What the words of `map`, `rates` and `delays` ask for, and why they are refused.
use Rattle.std.specs.Prelude.{◌≡◌, ◌≤◌, ◌<◌, ◌-◌, ◌⊎◌, ℕ, if◌then◌else◌, List, [], Option, None, Some, bytes_eq, codes, unwrap_or}
use Rattle.omega_net.specs.declared.component.Net.{Net}
use Rattle.omega_net.specs.declared.component.Net.TheVariants.{Low, Comb}
use Rattle.omega_net.specs.Numbers.{lines}
use Rattle.page_map.specs.Limits.{max_k}
use Rattle.project_book.specs.Project.{Project}
use Rattle.lab_tasks.specs.declared.end.End.{End}
use Rattle.lab_tasks.specs.declared.words.MapWords.{MapWords}
use Rattle.lab_tasks.specs.declared.words.CurveWords.{CurveWords}
use Rattle.lab_tasks.specs.declared.plan.MapPlan.{MapPlan}
use Rattle.lab_tasks.specs.declared.plan.CurvePlan.{CurvePlan}
use Rattle.lab_tasks.specs.declared.plan.Measure.{Measure}
use Rattle.lab_tasks.specs.declared.plan.Measure.TheVariants.{Answered, Served}
use Rattle.lab_tasks.specs.Ends.{RefusesForm, RefusesBackwards}
use Rattle.lab_tasks.specs.MapRows.{over_of, way_of, IsNoOver, IsNoWay, IsNotTaken, IsTaken}
use Rattle.lab_tasks.specs.Numbers.{IsTold, IsUntold, AreShares, AreNoShares}
use Rattle.lab_tasks.specs.Words.{text_of}

-- the network that a word names, the low one without a word
abbrev pub net_named : List ℕ → Option Net
net_named word = if bytes_eq word (codes "low") then Some Low else (if bytes_eq word (codes "comb") then Some Comb else None)

abbrev pub net_of : Option (List ℕ) → Option Net
net_of None = Some Low
net_of (Some word) = net_named word

-- why a word names none
abbrev pub IsNoNet : Option (List ℕ) → End → Type 0
IsNoNet None end = ⊥
IsNoNet (Some word) end = (net_named word ≡ None) × RefusesForm (codes "--net") word (codes "low or comb") end

-- what of a run a word names, the references answered without a word
abbrev pub measure_named : List ℕ → Option Measure
measure_named word = if bytes_eq word (codes "answered") then Some Answered else (if bytes_eq word (codes "served") then Some Served else None)

abbrev pub measure_of : Option (List ℕ) → Option Measure
measure_of None = Some Answered
measure_of (Some word) = measure_named word

-- why a word names nothing of it
abbrev pub IsNoMeasure : Option (List ℕ) → End → Type 0
IsNoMeasure None end = ⊥
IsNoMeasure (Some word) end = (measure_named word ≡ None) × RefusesForm (codes "--of") word (codes "answered or served") end

-- the module that the words name of a machine of 2^k processors, and the first and the last cycle up to a horizon
abbrev pub IsModule : ℕ → MapWords → ℕ → Type 0
IsModule k words n = IsTold (text_of words.module) 0 0 (lines k - 1) n

abbrev pub IsFrom : ℕ → MapWords → ℕ → Type 0
IsFrom horizon words n = IsTold (text_of words.from) 0 0 horizon n

abbrev pub IsTo : ℕ → MapWords → ℕ → Type 0
IsTo horizon words n = IsTold (text_of words.to) horizon 0 horizon n

-- what `map` draws: of a network the queues of one way, on a module's tree or of all modules, and a window that doesn't end before it begins
pub record IsMap (k horizon : ℕ) (words : MapWords) (plan : MapPlan) : Type 0 where
  pub net : net_of (text_of words.net) ≡ Some plan.net
  pub way : way_of (text_of words.dir) ≡ Some plan.way
  pub over : over_of (text_of words.queues) ≡ Some plan.over
  pub taken : IsTaken plan.over (text_of words.module)
  pub number : IsModule k words plan.module
  pub from : IsFrom horizon words plan.window.from
  pub to : IsTo horizon words plan.window.to
  pub window : plan.window.from ≤ plan.window.to

-- what `rates` and `delays` measure
pub record IsCurves (words : CurveWords) (plan : CurvePlan) : Type 0 where
  pub k : IsTold (text_of words.k) max_k 1 max_k plan.k
  pub hot : AreShares (text_of words.hot) plan.hot.items
  pub cycles : IsTold (text_of words.cycles) 256 2 4096 plan.cycles
  pub seed : IsTold (text_of words.seed) 1 0 4294967295 plan.seed
  pub seeds : IsTold (text_of words.seeds) 5 1 20 plan.seeds
  pub of : measure_of (text_of words.of) ≡ Some plan.of

-- a word is refused, or it is told something with which one behind it is refused
abbrev pub InTurn : {A : Type 0} → Type 0 → (A → Type 0) → (A → Type 0) → Type 0
InTurn {A} refused told behind = refused ⊎ ((a : A) × told a × behind a)

-- why words ask for no map: the first one in this order that is refused, and last a window whose two words are told
abbrev pub IsNoWindow : ℕ → ℕ → MapWords → End → Type 0
IsNoWindow k horizon words end =
    InTurn (IsUntold (codes "--module") (text_of words.module) 0 (lines k - 1) end) (IsModule k words) (λ number.
    InTurn (IsUntold (codes "--from") (text_of words.from) 0 horizon end) (IsFrom horizon words) (λ from.
    InTurn (IsUntold (codes "--to") (text_of words.to) 0 horizon end) (IsTo horizon words) (λ to.
    (to < from) × RefusesBackwards (codes "--to") (unwrap_or (text_of words.to) []) end)))

abbrev pub IsNoMap : ℕ → ℕ → MapWords → End → Type 0
IsNoMap k horizon words end =
    InTurn (IsNoNet (text_of words.net) end) (λ net. net_of (text_of words.net) ≡ Some net) (λ net.
    InTurn (IsNoWay (text_of words.dir) end) (λ way. way_of (text_of words.dir) ≡ Some way) (λ way.
    InTurn (IsNoOver (text_of words.queues) end) (λ over. over_of (text_of words.queues) ≡ Some over) (λ over.
    IsNotTaken over (text_of words.module) end ⊎ (IsTaken over (text_of words.module) × IsNoWindow k horizon words end))))

-- why words ask for no curves, and for shares also where there was no memory
abbrev pub IsNoCurve : CurveWords → End → Type 0
IsNoCurve words end =
    InTurn (IsUntold (codes "--k") (text_of words.k) 1 max_k end) (IsTold (text_of words.k) max_k 1 max_k) (λ k.
    InTurn (AreNoShares (text_of words.hot) end) (AreShares (text_of words.hot)) (λ hot.
    InTurn (IsUntold (codes "--cycles") (text_of words.cycles) 2 4096 end) (IsTold (text_of words.cycles) 256 2 4096) (λ cycles.
    InTurn (IsUntold (codes "--seed") (text_of words.seed) 0 4294967295 end) (IsTold (text_of words.seed) 1 0 4294967295) (λ seed.
    InTurn (IsUntold (codes "--seeds") (text_of words.seeds) 1 20 end) (IsTold (text_of words.seeds) 5 1 20) (λ seeds.
    IsNoMeasure (text_of words.of) end)))))
