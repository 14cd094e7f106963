-- WHAT THE PICTURE OF `rates` SHOWS: a mean over seeds for each number of processors and each share of hot references, with its spread and the bound.
-- Both axes are scales by doublings.
use Rattle.std.specs.Prelude.{◌≡◌, ℕ, ◌+◌, ◌*◌, ◌/◌, ◌==◌, min, max, Bool, true, false, if◌then◌else◌, List, [], ◌∷◌, ◌++◌, length, map, sum_by, codes, decimal, None, Some}
use Rattle.std.specs.List.{flat_map, fold}
use Rattle.omega_net.specs.Wires.{below}
use Rattle.svg_plots.specs.declared.curves.Curve.{Curve}
use Rattle.svg_plots.specs.declared.curves.Curves.{Curves}
use Rattle.svg_plots.specs.declared.curves.Panel.{Panel}
use Rattle.svg_plots.specs.declared.curves.Whisker.{Whisker}
use Rattle.svg_plots.specs.Styles.{mark_of, stroke_of}
use Rattle.svg_plots.specs.CurvePanels.{curves_text}
use Rattle.svg_plots.specs.Lists.{each}
use Rattle.svg_plots.specs.Logarithms.{log2_of}
use Rattle.lab_tasks.specs.declared.plan.CurvePlan.{CurvePlan}
use Rattle.lab_tasks.specs.declared.plan.Measure.{Measure}
use Rattle.lab_tasks.specs.declared.plan.Measure.TheVariants.{Answered, Served}
use Rattle.lab_tasks.specs.declared.tables.RatePoint.{RatePoint}
use Rattle.lab_tasks.specs.CurvePictures.{doublings, part_of}
use Rattle.lab_tasks.specs.Tables.{bound_of, processors_of, rate_of}

-- what is drawn of a run, in thousandths: no more than a thousand a cycle
abbrev pub measured_of : Measure → RatePoint → ℕ
measured_of Answered p = rate_of p p.answered
measured_of Served p = rate_of p p.served

abbrev pub drawn_of : Measure → RatePoint → ℕ
drawn_of of p = min (measured_of of p) 1000000

-- over some runs: the mean, the least and the greatest
abbrev pub mean_drawn : Measure → List RatePoint → ℕ
mean_drawn of points = min (sum_by (drawn_of of) points / max (length points) 1) 1000000

abbrev pub least_drawn : Measure → List RatePoint → ℕ
least_drawn of points = fold (λ least p. min least (drawn_of of p)) 1000000 points

abbrev pub greatest_drawn : Measure → List RatePoint → ℕ
greatest_drawn of points = fold (λ most p. max most (drawn_of of p)) 0 points

-- the runs of 2^k processors with the share at a place, one for each seed: loads are by k, then without combining and with it, then by share
abbrev pub runs_at : CurvePlan → List RatePoint → ℕ → Bool → ℕ → List RatePoint
runs_at plan points place combine k = part_of ((k * 2 + (if combine then 1 else 0)) * length plan.hot.items + place) plan.seeds points

-- A POINT stands at its number of processors and the mean, A WHISKER from the least to the greatest where these differ
abbrev pub rate_spot : CurvePlan → List RatePoint → ℕ → Bool → ℕ → ℕ × ℕ
rate_spot plan points place combine k = (k * 100, log2_of (mean_drawn plan.of (runs_at plan points place combine k)) 1000)

abbrev pub spread_at : Measure → ℕ → List RatePoint → List Whisker
spread_at of k runs =
    if greatest_drawn of runs == least_drawn of runs then []
    else record { across = k * 100; from = log2_of (least_drawn of runs) 1000; to = log2_of (greatest_drawn of runs) 1000 } ∷ []

abbrev pub measured_curve : CurvePlan → List RatePoint → Bool → ℕ → ℕ → Curve
measured_curve plan points combine place hot = record {
  label = decimal hot ++ codes " % hot";
  points = map (rate_spot plan points place combine) (below (plan.k + 1));
  whiskers = flat_map (λ k. spread_at plan.of k (runs_at plan points place combine k)) (below (plan.k + 1));
  stroke = stroke_of place 18 false;
  mark = Some (mark_of place);
}

-- THE BOUND p / (1 + h (p - 1)) of a share, dashed
abbrev pub bound_spot : ℕ → ℕ → ℕ × ℕ
bound_spot hot k = (k * 100, log2_of (min (bound_of (processors_of k) hot) 1000000) 1000)

abbrev pub bound_curve : CurvePlan → ℕ → ℕ → Curve
bound_curve plan place hot = record {
  label = [];
  points = map (bound_spot hot) (below (plan.k + 1));
  whiskers = [];
  stroke = stroke_of place 10 true;
  mark = None;
}

-- for each share the bound, and over it what was measured
abbrev pub share_curves : CurvePlan → List RatePoint → Bool → ℕ → ℕ → List Curve
share_curves plan points combine place hot = bound_curve plan place hot ∷ measured_curve plan points combine place hot ∷ []

-- the panel without combining, and that with it
abbrev pub panel_title : Bool → List ℕ
panel_title combine = if combine then codes "With combining" else codes "Without combining"

abbrev pub what_of : Measure → List ℕ
what_of Answered = codes "answered per cycle"
what_of Served = codes "served per cycle"

pub record IsRatePanel (plan : CurvePlan) (points : List RatePoint) (combine : Bool) (panel : Panel) : Type 0 where
  pub title : panel.title.now ≡ panel_title combine
  pub across_title : panel.across.title.now ≡ codes "processors"
  pub across : (panel.across.from ≡ 0) × (panel.across.to ≡ plan.k * 100)
  pub across_ticks : panel.across.ticks.now ≡ doublings plan.k
  pub up_title : panel.up.title.now ≡ what_of plan.of
  pub up : (panel.up.from ≡ 0) × (panel.up.to ≡ plan.k * 100)
  pub up_ticks : panel.up.ticks.now ≡ doublings plan.k
  pub curves : panel.curves.items ≡ each (share_curves plan points combine) plan.hot.items

abbrev pub rate_title : Measure → List ℕ
rate_title Answered = codes "What a hot word does to a machine: references answered per cycle"
rate_title Served = codes "What a hot word does to a machine: requests served per cycle"

-- the document; what the lines below say is left open
abbrev pub IsRatePicture : CurvePlan → List RatePoint → List ℕ → Type 0
IsRatePicture plan points text =
    (c : Curves) × (off : Panel) × (on : Panel) × (notes : List (List ℕ)) × (c.title.now ≡ rate_title plan.of) × (c.panels.now ≡ off ∷ on ∷ [])
    × (c.legend_columns ≡ 4) × IsRatePanel plan points false off × IsRatePanel plan points true on × (text ≡ curves_text c notes)
