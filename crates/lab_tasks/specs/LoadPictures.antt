-- WHAT THE PICTURE OF `load` SHOWS: the mean latency, and what is accepted, against what is offered, a curve for each share and each network; points are means
-- over seeds. What is offered and accepted stands in thousandths of a reference a cycle, latency in tenths of a cycle.
use Rattle.std.specs.Prelude.{◌≡◌, ℕ, zero, suc, ◌+◌, ◌*◌, ◌/◌, ◌%◌, ◌==◌, nat_lt, min, max, Bool, true, false, if◌then◌else◌, List, [], ◌∷◌, ◌++◌, length, map, slice_index, sum, codes, decimal, Option, None, Some}
use Rattle.std.specs.List.{flat_map, fold}
use Rattle.omega_net.specs.Wires.{below}
use Rattle.svg_plots.specs.declared.curves.Curve.{Curve}
use Rattle.svg_plots.specs.declared.curves.Curves.{Curves}
use Rattle.svg_plots.specs.declared.curves.Panel.{Panel}
use Rattle.svg_plots.specs.declared.curves.Whisker.{Whisker}
use Rattle.svg_plots.specs.declared.element.Stroke.{Stroke}
use Rattle.svg_plots.specs.AxisTicks.{ticks_between}
use Rattle.svg_plots.specs.Styles.{mark_of, stroke_of}
use Rattle.svg_plots.specs.CurvePanels.{curves_text}
use Rattle.lab_tasks.specs.declared.load_picture.Shown.{Shown}
use Rattle.lab_tasks.specs.declared.load_picture.Shown.TheVariants.{Latency, Accepted}
use Rattle.lab_tasks.specs.declared.load_plan.LoadPlan.{LoadPlan}
use Rattle.lab_tasks.specs.declared.load_table.LoadPoint.{LoadPoint}
use Rattle.lab_tasks.specs.CurvePictures.{part_of}
use Rattle.lab_tasks.specs.DelayPictures.{network_label}
use Rattle.lab_tasks.specs.LoadPlans.{rate_at, rate_count}
use Rattle.lab_tasks.specs.LoadTables.{accepted_of}
use Rattle.lab_tasks.specs.Tables.{processors_of}

-- what is drawn of a run: its mean latency, where it has one; what it accepted
abbrev pub latency_in : Option ℕ → List ℕ
latency_in None = []
latency_in (Some n) = min (n / 10) 1000000 ∷ []

abbrev pub values_of : Shown → LoadPoint → List ℕ
values_of Latency p = latency_in p.mean
values_of Accepted p = min (accepted_of p) 1000000 ∷ []

-- the runs of a curve at a rate, one for each seed, and what is drawn of them
abbrev pub runs_at : LoadPlan → List LoadPoint → ℕ → ℕ → List LoadPoint
runs_at plan points curve i = part_of (curve * rate_count plan + i) plan.seeds points

abbrev pub drawn_at : LoadPlan → List LoadPoint → Shown → ℕ → ℕ → List ℕ
drawn_at plan points shown curve i = flat_map (values_of shown) (runs_at plan points curve i)

-- over some numbers: the mean, the least and the greatest
abbrev pub mean_of : List ℕ → ℕ
mean_of numbers = sum numbers / max (length numbers) 1

abbrev pub least_of : List ℕ → ℕ
least_of numbers = fold (λ least n. min least n) 1000000 numbers

abbrev pub greatest_of : List ℕ → ℕ
greatest_of numbers = fold (λ most n. max most n) 0 numbers

-- A POINT stands at what is offered and the mean, where there is a number; A WHISKER from the least to the greatest where these differ
abbrev pub spot_of : ℕ → List ℕ → List (ℕ × ℕ)
spot_of rate numbers = if length numbers == 0 then [] else (rate * 10, min (mean_of numbers) 1000000) ∷ []

abbrev pub spread_of : ℕ → List ℕ → List Whisker
spread_of rate numbers =
    if nat_lt (least_of numbers) (greatest_of numbers)
    then record { across = rate * 10; from = least_of numbers; to = greatest_of numbers } ∷ []
    else []

-- A CURVE IS SATURATED from the least rate on of which less than nine tenths are accepted, in the mean
abbrev pub is_short : LoadPlan → List LoadPoint → ℕ → ℕ → Bool
is_short plan points curve i = nat_lt (mean_of (drawn_at plan points Accepted curve i)) (rate_at plan i * 9)

abbrev pub or_else : Option ℕ → Option ℕ → Option ℕ
or_else None other = other
or_else (Some n) other = Some n

abbrev pub short_at : LoadPlan → List LoadPoint → ℕ → ℕ → Option ℕ
short_at plan points curve i = if is_short plan points curve i then Some (rate_at plan i) else None

abbrev pub first_short : LoadPlan → List LoadPoint → ℕ → ℕ → Option ℕ
first_short plan points curve zero = None
first_short plan points curve (suc n) = or_else (first_short plan points curve n) (short_at plan points curve n)

-- what the legend says of a curve: network, share, and from which rate on it is saturated
abbrev pub saturated_text : Option ℕ → List ℕ
saturated_text None = codes "not saturated"
saturated_text (Some rate) = codes "saturated from " ++ decimal rate

abbrev pub share_of : LoadPlan → ℕ → ℕ
share_of plan curve = slice_index plan.hot.items (curve / 3)

abbrev pub label_of : LoadPlan → List LoadPoint → ℕ → List ℕ
label_of plan points curve =
    network_label (curve % 3) ++ (codes ", " ++ (decimal (share_of plan curve)
    ++ (codes " % hot: " ++ saturated_text (first_short plan points curve (rate_count plan)))))

-- the low network is drawn wide, since the combining one without combining lies on it as light dashes; no two curves of up to 21 have both their colour and their mark
abbrev pub load_stroke : ℕ → Stroke
load_stroke curve =
    if curve % 3 == 0 then stroke_of curve 60 false else (if curve % 3 == 1 then stroke_of (curve + 1) 20 true else stroke_of (curve + 2) 18 false)

abbrev pub load_curve : LoadPlan → List LoadPoint → Shown → ℕ → Curve
load_curve plan points shown curve = record {
  label = label_of plan points curve;
  points = flat_map (λ i. spot_of (rate_at plan i) (drawn_at plan points shown curve i)) (below (rate_count plan));
  whiskers = flat_map (λ i. spread_of (rate_at plan i) (drawn_at plan points shown curve i)) (below (rate_count plan));
  stroke = load_stroke curve;
  mark = Some (mark_of (curve + curve / 3));
}

-- all that is offered is accepted on the diagonal, which is dashed
abbrev pub diagonal : Curve
diagonal = record { label = []; points = (0, 0) ∷ (1000, 1000) ∷ []; whiskers = []; stroke = stroke_of 0 10 true; mark = None }

abbrev pub first_curves : Shown → List Curve
first_curves Latency = []
first_curves Accepted = diagonal ∷ []

abbrev pub load_curves : LoadPlan → List LoadPoint → Shown → List Curve
load_curves plan points shown = first_curves shown ++ map (load_curve plan points shown) (below (3 * length plan.hot.items))

-- the panel of latency, up to the longest in whole cycles, and that of what is accepted, up to a hundred references in a hundred cycles
abbrev pub all_values : Shown → List LoadPoint → List ℕ
all_values shown points = flat_map (values_of shown) points

abbrev pub top_of : Shown → List LoadPoint → ℕ
top_of Latency points = max (min ((greatest_of (all_values Latency points) + 9) / 10) 100000) 1
top_of Accepted points = 100

abbrev pub load_panel_title : Shown → List ℕ
load_panel_title Latency = codes "Mean latency"
load_panel_title Accepted = codes "Accepted traffic"

abbrev pub up_title : Shown → List ℕ
up_title Latency = codes "cycles"
up_title Accepted = codes "references answered in a hundred cycles"

pub record IsLoadPanel (plan : LoadPlan) (points : List LoadPoint) (shown : Shown) (panel : Panel) : Type 0 where
  pub title : panel.title.now ≡ load_panel_title shown
  pub across_title : panel.across.title.now ≡ codes "references offered in a hundred cycles"
  pub across : (panel.across.from ≡ 0) × (panel.across.to ≡ 1000)
  pub across_ticks : panel.across.ticks.now ≡ ticks_between 0 100
  pub up_title : panel.up.title.now ≡ up_title shown
  pub up : (panel.up.from ≡ 0) × (panel.up.to ≡ top_of shown points * 10)
  pub up_ticks : panel.up.ticks.now ≡ ticks_between 0 (top_of shown points)
  pub curves : panel.curves.items ≡ load_curves plan points shown

abbrev pub load_title : LoadPlan → List ℕ
load_title plan = codes "Latency and accepted traffic against offered load, " ++ (decimal (processors_of plan.k) ++ codes " processors")

-- the document; what the lines below say is left open
abbrev pub IsLoadPicture : LoadPlan → List LoadPoint → List ℕ → Type 0
IsLoadPicture plan points text =
    (c : Curves) × (left : Panel) × (right : Panel) × (notes : List (List ℕ)) × (c.title.now ≡ load_title plan) × (c.panels.now ≡ left ∷ right ∷ [])
    × (c.legend_columns ≡ 1) × IsLoadPanel plan points Latency left × IsLoadPanel plan points Accepted right × (text ≡ curves_text c notes)
