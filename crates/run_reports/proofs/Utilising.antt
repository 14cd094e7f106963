-- The rows of gauges with their sums.
use Rattle.std.proofs.Common.{◌≡◌, ℕ, List, [], ◌∷◌, ◌++◌, map, refl, ap, ◌∙◌, Option}
use Rattle.std.specs.List.{flat_map}
use Rattle.machine_cells.specs.declared.state.MachineState.{MachineState}
use Rattle.run_reports.specs.declared.gauge.Gauge.{Gauge}
use Rattle.run_reports.specs.declared.series.GaugeSum.{GaugeSum}
use Rattle.run_reports.specs.Series.{sum_from}
use Rattle.run_reports.specs.Summing.{summed}
use Rattle.run_reports.specs.Utilisation.{busy_gauges, busy_row}

-- the text of each gauge with its sum
sums_told : (k : ℕ) (at : ℕ → ℕ → Option MachineState) (first n : ℕ) (text : Gauge → ℕ → List ℕ) (gs : List Gauge)
    → flat_map (λ (s : GaugeSum). text s.gauge s.sum) (map (summed k at first n) gs) ≡ flat_map (λ (g : Gauge). text g (sum_from k at first n g)) gs
sums_told k at first n text [] = refl
sums_told k at first n text (g ∷ gs) = ap (λ (xs : List ℕ). text g (sum_from k at first n g) ++ xs) (sums_told k at first n text gs)

-- the rows of all stages and modules
pub rows_told : (k : ℕ) (at : ℕ → ℕ → Option MachineState) (first n j : ℕ) (gs : List Gauge) (sums shown : List GaugeSum) (old new : List ℕ)
    → new ≡ old ++ flat_map (λ (s : GaugeSum). busy_row j n s.gauge s.sum) shown → shown ≡ sums → sums ≡ map (summed k at first n) gs
    → gs ≡ busy_gauges j → j ≡ k → new ≡ old ++ flat_map (λ (g : Gauge). busy_row k n g (sum_from k at first n g)) (busy_gauges k)
rows_told k at first n j gs sums shown old new more is are all same =
    more ∙ ap (λ (ss : List GaugeSum). old ++ flat_map (λ (s : GaugeSum). busy_row j n s.gauge s.sum) ss) (is ∙ are)
    ∙ ap (λ (ts : List ℕ). old ++ ts) (sums_told k at first n (busy_row j n) gs)
    ∙ ap (λ (hs : List Gauge). old ++ flat_map (λ (g : Gauge). busy_row j n g (sum_from k at first n g)) hs) all
    ∙ ap (λ (i : ℕ). old ++ flat_map (λ (g : Gauge). busy_row i n g (sum_from k at first n g)) (busy_gauges i)) same
