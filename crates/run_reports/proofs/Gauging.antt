-- What gauges show, cycle by cycle and bin by bin.
use Rattle.std.proofs.Common.{◌≡◌, ℕ, ◌+◌, ◌-◌, ◌*◌, ◌≤◌, List, [], ◌∷◌, ◌++◌, map, refl, sym, ap, ap₂, ◌∙◌, Option, Some, arith}
use Rattle.std.specs.Prelude.{min, slice_get, option_and_then}
use Rattle.std.specs.List.{flat_map}
use Rattle.std.proofs.Math.Nat.{min-le_left}
use Rattle.std.proofs.lemmas.List.{append-nil, append_assoc}
use Rattle.std.proofs.lemmas.Grind.{flat_map-append}
use Rattle.omega_net.specs.Wires.{below}
use Rattle.project_book.specs.Project.{Project}
use Rattle.machine_cells.specs.declared.state.MachineState.{MachineState}
use Rattle.machine_cells.specs.Run.{run}
use Rattle.machine_cells.specs.Runs.{state_in}
use Rattle.flat_row.specs.Row.{states_of}
use Rattle.monitor_sums.specs.Adding.{sum_below}
use Rattle.monitor_sums.proofs.Adding.{sum_none, sum_more}
use Rattle.run_reports.specs.declared.gauge.Gauge.{Gauge}
use Rattle.run_reports.specs.declared.runner.Runner.{Runner}
use Rattle.run_reports.specs.declared.series.GaugeSum.{GaugeSum}
use Rattle.run_reports.specs.Gauges.{gauge_at}
use Rattle.run_reports.specs.Runners.{IsAt}
use Rattle.run_reports.specs.declared.series.Bins.{Bins}
use Rattle.run_reports.specs.Series.{bin_of, capped, cycles_of, start_of, sum_from}
use Rattle.run_reports.specs.Summing.{summed, unsummed, with_states}
use Rattle.run_reports.proofs.Marking.{one_more_value}

abbrev sum_is : Gauge → ℕ → GaugeSum
sum_is g x = record { gauge = g; sum = x }

capped_more : (a b : ℕ) → capped (capped a + b) ≡ capped (a + b)
capped_more a b = omega arith

-- what one cycle more makes of a sum
summed_more : (k : ℕ) (S : ℕ → Option MachineState) (g : Gauge) (x : ℕ) → with_states k S (sum_is g (capped x)) ≡ sum_is g (capped (x + gauge_at k g S))
unfolding with_states
summed_more k S g x = ap (sum_is g) (capped_more x (gauge_at k g S))

module _ (k : ℕ) (at : ℕ → ℕ → Option MachineState) (first n : ℕ) where
  -- one cycle more, of one gauge and of several
  one_more : (g : Gauge) → with_states k (at (first + n)) (summed k at first n g) ≡ summed k at first (n + 1) g
  one_more g =
      summed_more k (at (first + n)) g (sum_below (λ j. gauge_at k g (at (first + j))) n)
      ∙ ap (λ (x : ℕ). sum_is g (capped x)) (sym (sum_more (λ (j : ℕ). gauge_at k g (at (first + j))) n))

  all_more : (gs : List Gauge) → map (with_states k (at (first + n))) (map (summed k at first n) gs) ≡ map (summed k at first (n + 1)) gs
  all_more [] = refl
  all_more (g ∷ gs) = ap₂ (λ (s : GaugeSum) (ss : List GaugeSum). s ∷ ss) (one_more g) (all_more gs)

-- before the first cycle
pub nothing_summed : (k : ℕ) (at : ℕ → ℕ → Option MachineState) (first : ℕ) (gs : List Gauge) → map unsummed gs ≡ map (summed k at first 0) gs
nothing_summed k at first [] = refl
nothing_summed k at first (g ∷ gs) =
    ap₂ (λ (s : GaugeSum) (ss : List GaugeSum). s ∷ ss) (ap (λ (x : ℕ). sum_is g (capped x)) (sym (sum_none (λ (j : ℕ). gauge_at k g (at (first + j)))))) (nothing_summed k at first gs)

-- the states of one cycle more are seen
pub cycle_summed : (P : Project) (k : ℕ) (r : Runner) (first n : ℕ) (gs : List Gauge) (before new : List GaugeSum) → IsAt P r → r.cycle ≡ first + n → k ≡ P.k
    → new ≡ map (with_states k (slice_get (states_of r.row))) before → before ≡ map (summed P.k (state_in (run P)) first n) gs
    → new ≡ map (summed P.k (state_in (run P)) first (n + 1)) gs
cycle_summed P k r first n gs before new at here same is are =
    is ∙ ap (λ (j : ℕ). map (with_states j (slice_get (states_of r.row))) before) same
    ∙ ap (λ (ss : List GaugeSum). map (with_states P.k (slice_get (states_of r.row))) ss) are
    ∙ sym (ap (λ (o : Option (List MachineState)). map (with_states P.k (λ c. option_and_then (λ (S : List MachineState). slice_get S c) o)) sums) shown)
    ∙ all_more P.k (state_in (run P)) first n gs
  where
    sums : List GaugeSum
    sums = map (summed P.k (state_in (run P)) first n) gs

    shown : slice_get (run P) (first + n) ≡ Some (states_of r.row)
    shown = ap (slice_get (run P)) (sym here) ∙ at.states

-- a run that has come to the end of a bin isn't past the next one's first cycle
next_begins : (b i : ℕ) → (i + 1) * b ≡ i * b + b
next_begins b i = grind arith

pub still_behind : (from size i first cycles cycle rest : ℕ) → cycle ≤ first + cycles → first ≡ from + i * size → cycles ≡ min size rest → cycle ≤ from + (i + 1) * size
still_behind from size i first cycles cycle rest before is many =
    let few : min size rest ≤ size = min-le_left size rest in
    let next : (i + 1) * size ≡ i * size + size = next_begins size i in
    omega arith

-- the sums alone
sums_of : (k : ℕ) (at : ℕ → ℕ → Option MachineState) (first n : ℕ) (gs : List Gauge) → map (λ (s : GaugeSum). s.sum) (map (summed k at first n) gs) ≡ map (sum_from k at first n) gs
sums_of k at first n [] = refl
sums_of k at first n (g ∷ gs) = ap (λ (xs : List ℕ). sum_from k at first n g ∷ xs) (sums_of k at first n gs)

-- the row of a bin
pub bin_is : (k : ℕ) (at : ℕ → ℕ → Option MachineState) (gs : List Gauge) (b : Bins) (i first cycles : ℕ) (sums : List GaugeSum) → first ≡ start_of b i
    → cycles ≡ min b.size (b.window.to + 1 - first) → sums ≡ map (summed k at first cycles) gs → (first, map (λ (s : GaugeSum). s.sum) sums) ≡ bin_of k at gs b i
bin_is k at gs b i first cycles sums begins many are =
    ap (λ (ss : List GaugeSum). (first, map (λ (s : GaugeSum). s.sum) ss)) are ∙ ap (λ (ns : List ℕ). (first, ns)) (sums_of k at first cycles gs)
    ∙ ap₂ (λ (u v : ℕ). (u, map (sum_from k at u v) gs)) begins all_cycles
  where
    all_cycles : cycles ≡ cycles_of b i
    all_cycles = many ∙ ap (λ (u : ℕ). min b.size (b.window.to + 1 - u)) begins

-- one bin more
one_bin : {X : Type 0} (f : ℕ → X) (text : X → List ℕ) (n : ℕ) → flat_map text (map f (below (n + 1))) ≡ flat_map text (map f (below n)) ++ text (f n)
one_bin f text n =
    ap (flat_map text) (one_more_value f n) ∙ flat_map-append text (map f (below n)) (f n ∷ []) ∙ ap (λ ys. flat_map text (map f (below n)) ++ ys) (append-nil (text (f n)))

pub text_more : {X : Type 0} (f : ℕ → X) (text : X → List ℕ) (n : ℕ) (old now new : List ℕ) (x : X) → now ≡ old ++ flat_map text (map f (below n))
    → new ≡ now ++ text x → x ≡ f n → new ≡ old ++ flat_map text (map f (below (n + 1)))
text_more {X} f text n old now new x is more same =
    more ∙ ap (λ (t : List ℕ). t ++ text x) is ∙ append_assoc old (flat_map text (map f (below n))) (text x)
    ∙ ap (λ (y : X). old ++ (flat_map text (map f (below n)) ++ text y)) same
    ∙ ap (λ (t : List ℕ). old ++ t) (sym (one_bin f text n))

-- one value more behind others
pub one_placed : {X : Type 0} (f : ℕ → X) (n : ℕ) (init all new : List X) → all ≡ init ++ map f (below n) → new ≡ all ++ f n ∷ []
    → new ≡ init ++ map f (below (n + 1))
one_placed {X} f n init all new is more =
    more ∙ ap (λ (zs : List X). zs ++ f n ∷ []) is ∙ append_assoc init (map f (below n)) (f n ∷ []) ∙ ap (λ (zs : List X). init ++ zs) (sym (one_more_value f n))
