-- WHAT THE PICTURE OF A SERIES SHOWS: a stepped curve for each gauge, through what it comes to in each bin of cycles.
use Rattle.std.specs.Prelude.{◌≡◌, ℕ, ◌+◌, ◌*◌, ◌/◌, ◌%◌, ◌==◌, min, max, Bool, if◌then◌else◌, List, [], ◌∷◌, ◌++◌, length, slice_get, unwrap_or, Some, None, codes, decimal}
use Rattle.std.specs.List.{flat_map, fold}
use Rattle.run_reports.specs.declared.series.Bins.{Bins}
use Rattle.svg_plots.specs.AxisTicks.{ticks_between}
use Rattle.svg_plots.specs.CurvePanels.{curves_text}
use Rattle.svg_plots.specs.Lists.{each}
use Rattle.svg_plots.specs.Styles.{mark_of, stroke_of}
use Rattle.svg_plots.specs.declared.curves.Curve.{Curve}
use Rattle.svg_plots.specs.declared.curves.Curves.{Curves}
use Rattle.svg_plots.specs.declared.curves.Panel.{Panel}
use Rattle.svg_plots.specs.declared.element.Stroke.{Stroke}
use Rattle.report_pictures.specs.LatencyPictures.{capped}

-- the cycle behind the last one of a bin that begins at this one
abbrev pub end_of : Bins → ℕ → ℕ
end_of b first = min (first + b.size) (b.window.to + 1)

-- the first cycle of a bin, which is within the window, and the sum of the gauge at a place
abbrev pub first_in : Bins → ℕ × List ℕ → ℕ
first_in b bin = min bin.0 b.window.to

abbrev pub sum_at : ℕ → ℕ × List ℕ → ℕ
sum_at place bin = capped (unwrap_or (slice_get bin.1 place) 0)

-- A STEP: level from the first cycle of a bin to the end of its last; a value is ten for each cycle, and for each one of a sum
abbrev pub step_of : Bins → ℕ → ℕ × List ℕ → List (ℕ × ℕ)
step_of b place bin =
    (first_in b bin * 10, sum_at place bin * 10) ∷ (end_of b (first_in b bin) * 10, sum_at place bin * 10) ∷ []

-- every second line is dashed
abbrev pub gauge_stroke : ℕ → Stroke
gauge_stroke place = stroke_of place 18 (place % 2 == 1)

abbrev pub line_of : Bins → List (ℕ × List ℕ) → ℕ → Curve
line_of b bins place = record { label = []; points = flat_map (step_of b place) bins; whiskers = []; stroke = gauge_stroke place; mark = None }

-- MARKS in the middle of some steps, nine at most of a curve, each curve's behind those of the one before; the first of them is named
abbrev pub each_of : ℕ → ℕ
each_of count = count / 8 + 1

abbrev pub is_marked : ℕ → ℕ → ℕ → Bool
is_marked count place number = number % each_of count == place % 7 * each_of count / 7

abbrev pub middle_of : Bins → ℕ → ℕ × List ℕ → ℕ × ℕ
middle_of b place bin = ((first_in b bin + end_of b (first_in b bin)) * 5, sum_at place bin * 10)

abbrev pub middle_at : Bins → ℕ → ℕ → ℕ → ℕ × List ℕ → List (ℕ × ℕ)
middle_at b count place number bin = if is_marked count place number then middle_of b place bin ∷ [] else []

abbrev pub mark_at : List ℕ → ℕ → ℕ → ℕ × ℕ → List Curve
mark_at name place number middle = record {
  label = if number == 0 then name else [];
  points = middle ∷ [];
  whiskers = [];
  stroke = gauge_stroke place;
  mark = Some (mark_of place);
} ∷ []

abbrev pub marks_of : Bins → List (ℕ × List ℕ) → ℕ → List ℕ → List Curve
marks_of b bins place name = each (mark_at name place) (each (middle_at b (length bins) place) bins)

-- THE CURVES: of each gauge its steps, and its marks
abbrev pub gauge_curves : Bins → List (ℕ × List ℕ) → ℕ → List ℕ → List Curve
gauge_curves b bins place name = line_of b bins place ∷ marks_of b bins place name

-- the greatest sum, at least 1
abbrev pub most_in : List ℕ → ℕ
most_in sums = fold (λ most s. max most (capped s)) 1 sums

abbrev pub most_of : List (ℕ × List ℕ) → ℕ
most_of bins = fold (λ most bin. max most (most_in bin.1)) 1 bins

-- the panel, with the cycles of the window across
abbrev pub series_title : Bins → List ℕ
series_title b = if b.size == 1 then codes "At each cycle" else codes "Sums over " ++ (decimal b.size ++ codes " cycles")

pub record IsSeriesPanel (names : List (List ℕ)) (b : Bins) (bins : List (ℕ × List ℕ)) (panel : Panel) : Type 0 where
  pub title : panel.title.now ≡ series_title b
  pub across_title : panel.across.title.now ≡ codes "cycle"
  pub across : (panel.across.from ≡ b.window.from * 10) × (panel.across.to ≡ (b.window.to + 1) * 10)
  pub across_ticks : panel.across.ticks.now ≡ ticks_between b.window.from b.window.to
  pub up_title : panel.up.title.now ≡ codes "number"
  pub up : (panel.up.from ≡ 0) × (panel.up.to ≡ (most_of bins + 1) * 10)
  pub up_ticks : panel.up.ticks.now ≡ ticks_between 0 (most_of bins + 1)
  pub curves : panel.curves.items ≡ each (gauge_curves b bins) names

-- the line below
abbrev pub series_note : List ℕ → Bins → List ℕ
series_note name b = name ++ (codes ": cycles " ++ (decimal b.window.from ++ (codes " to " ++ (decimal b.window.to ++ codes "."))))

-- the document
abbrev pub IsSeriesPicture : List ℕ → List (List ℕ) → Bins → List (ℕ × List ℕ) → List ℕ → Type 0
IsSeriesPicture name names b bins text =
    (c : Curves) × (panel : Panel) × (c.title.now ≡ codes "What a run showed, cycle by cycle") × (c.panels.now ≡ panel ∷ []) × (c.legend_columns ≡ 4)
    × IsSeriesPanel names b bins panel × (text ≡ curves_text c (series_note name b ∷ []))
