-- WHAT THE PICTURE OF `delays` SHOWS: the mean delay of the references that aren't hot against the share of hot ones, a curve for each network.
use Rattle.std.specs.Prelude.{◌≡◌, ℕ, ◌+◌, ◌*◌, ◌-◌, ◌/◌, ◌==◌, min, max, true, false, if◌then◌else◌, List, [], ◌∷◌, ◌++◌, length, map, codes, decimal, Some}
use Rattle.std.specs.List.{flat_map, fold}
use Rattle.omega_net.specs.Wires.{below}
use Rattle.svg_plots.specs.declared.curves.Curve.{Curve}
use Rattle.svg_plots.specs.declared.curves.Curves.{Curves}
use Rattle.svg_plots.specs.declared.curves.Panel.{Panel}
use Rattle.svg_plots.specs.declared.element.Stroke.{Stroke}
use Rattle.svg_plots.specs.declared.tick.Tick.{Tick}
use Rattle.svg_plots.specs.AxisTicks.{ticks_between}
use Rattle.svg_plots.specs.Styles.{mark_of, stroke_of}
use Rattle.svg_plots.specs.CurvePanels.{curves_text}
use Rattle.svg_plots.specs.Logarithms.{log2_of}
use Rattle.lab_tasks.specs.declared.plan.CurvePlan.{CurvePlan}
use Rattle.lab_tasks.specs.declared.tables.DelayPoint.{DelayPoint}
use Rattle.lab_tasks.specs.CurvePictures.{part_of}
use Rattle.lab_tasks.specs.Points.{first_measured}
use Rattle.lab_tasks.specs.Tables.{mean_of, processors_of}

-- WHERE A SHARE STANDS, in hundredths: none at 0, and h of a hundred at 1 + log2 h. So 0, 1, 2, 4, 8 .. stand evenly, and no share stands between 0 and 1
abbrev pub share_place : ℕ → ℕ
share_place share = if share == 0 then 0 else log2_of share 1 + 100

-- the shares that have a tick: 0, 1, 2, 4, 8 ..
abbrev pub share_at : ℕ → ℕ
share_at place = if place == 0 then 0 else processors_of (place - 1)

abbrev pub share_ticks : ℕ → List Tick
share_ticks most = map (λ place. record { value = place * 100; number = share_at place }) (below (share_place most / 100 + 1))

-- the greatest share, at least 1
abbrev pub greatest_share : List ℕ → ℕ
greatest_share shares = fold (λ most share. max most share) 1 shares

-- A POINT stands at its share and its mean delay in tenths of a cycle; there is none where no reply came
abbrev pub tenths_of : DelayPoint → ℕ
tenths_of p = min (mean_of p / 100) 1000000

abbrev pub delay_spot : DelayPoint → List (ℕ × ℕ)
delay_spot p = if p.replies == 0 then [] else (share_place p.load.hot, tenths_of p) ∷ []

-- the longest mean in whole cycles, rounded up, at least 1
abbrev pub most_tenths : List DelayPoint → ℕ
most_tenths points = fold (λ most p. max most (tenths_of p)) 0 points

abbrev pub longest_of : List DelayPoint → ℕ
longest_of points = max ((most_tenths points + 9) / 10) 1

-- THE CURVES: the low network, which is drawn first and wide, so that one that is equal to it lies within it; the combining one without combining, and with it
abbrev pub network_label : ℕ → List ℕ
network_label n =
    if n == 0 then codes "low network" else (if n == 1 then codes "combining network, combining off" else codes "combining network, combining on")

abbrev pub network_stroke : ℕ → Stroke
network_stroke n = if n == 0 then stroke_of 0 60 false else (if n == 1 then stroke_of 2 20 true else stroke_of 4 18 false)

abbrev pub delay_curve : CurvePlan → List DelayPoint → ℕ → Curve
delay_curve plan points n = record {
  label = network_label n;
  points = flat_map delay_spot (part_of n (length plan.hot.items) points);
  whiskers = [];
  stroke = network_stroke n;
  mark = Some (mark_of n);
}

-- the panel, and the lines below
pub record IsDelayPanel (plan : CurvePlan) (points : List DelayPoint) (panel : Panel) : Type 0 where
  pub title : panel.title.now ≡ codes "Mean delay of references that are not hot"
  pub across_title : panel.across.title.now ≡ codes "hot references in a hundred"
  pub across : (panel.across.from ≡ 0) × (panel.across.to ≡ share_place (greatest_share plan.hot.items))
  pub across_ticks : panel.across.ticks.now ≡ share_ticks (greatest_share plan.hot.items)
  pub up_title : panel.up.title.now ≡ codes "cycles"
  pub up : (panel.up.from ≡ 0) × (panel.up.to ≡ longest_of points * 10)
  pub up_ticks : panel.up.ticks.now ≡ ticks_between 0 (longest_of points)
  pub curves : panel.curves.items ≡ map (delay_curve plan points) (below 3)

abbrev pub delay_title : CurvePlan → List ℕ
delay_title plan =
    codes "What a hot word does to bystanders: mean delay of the other references, " ++ (decimal (processors_of plan.k) ++ codes " processors")

abbrev pub delay_note : CurvePlan → List ℕ
delay_note plan =
    codes "Cycles from the issue of a reference to its reply, for replies in the cycles " ++ (decimal (first_measured plan.cycles)
    ++ (codes " to " ++ (decimal plan.cycles ++ (codes "; seed " ++ (decimal plan.seed ++ codes ".")))))

abbrev pub delay_notes : CurvePlan → List (List ℕ)
delay_notes plan = delay_note plan ∷ codes "Queues of 4; a processor has at most 8 references unanswered." ∷ []

-- the document
abbrev pub IsDelayPicture : CurvePlan → List DelayPoint → List ℕ → Type 0
IsDelayPicture plan points text =
    (c : Curves) × (panel : Panel) × (c.title.now ≡ delay_title plan) × (c.panels.now ≡ panel ∷ []) × (c.legend_columns ≡ 3)
    × IsDelayPanel plan points panel × (text ≡ curves_text c (delay_notes plan))
