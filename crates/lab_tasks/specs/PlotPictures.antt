-- WHAT THE PICTURE OF A SWEEP SHOWS: columns of its table against another one, a curve for each.
use Rattle.std.specs.Prelude.{◌≡◌, ◌⊎◌, ℕ, ◌+◌, ◌-◌, ◌*◌, ◌/◌, ◌%◌, ◌^◌, ◌==◌, ◌<◌, nat_le, max, Bool, false, ◌&&◌, if◌then◌else◌, List, [], ◌∷◌, ◌++◌, length, position, slice_index_or, bytes_eq, codes, decimal, Option, None, Some, is_none, is_some}
use Rattle.std.specs.List.{flat_map, fold, list_any, AllZip}
use Rattle.omega_net.specs.Wires.{below}
use Rattle.line_words.specs.Numbers.{number_of}
use Rattle.svg_plots.specs.declared.curves.Curve.{Curve}
use Rattle.svg_plots.specs.declared.curves.Curves.{Curves}
use Rattle.svg_plots.specs.declared.curves.Panel.{Panel}
use Rattle.svg_plots.specs.declared.tick.Tick.{Tick}
use Rattle.svg_plots.specs.CurvePanels.{curves_text}
use Rattle.svg_plots.specs.Lists.{each}
use Rattle.svg_plots.specs.Ticks.{step_of}
use Rattle.lab_tasks.specs.declared.end.End.{End}
use Rattle.lab_tasks.specs.declared.plot.Column.{Column}
use Rattle.svg_plots.specs.Styles.{mark_of, stroke_of}
use Rattle.lab_tasks.specs.Ends.{RefusesForm}
use Rattle.lab_tasks.specs.Grids.{names_of, rows_of}
use Rattle.lab_tasks.specs.Numbers.{parts_at}
use Rattle.lab_tasks.specs.SweepTables.{RefusesFirst}

-- the column that a word names: the first of its name
abbrev pub column_of : List (List ℕ) → List ℕ → Option ℕ
column_of names word = position (λ name. bytes_eq name word) names

abbrev pub IsColumn : List (List ℕ) → List ℕ → ℕ → Type 0
IsColumn names word i = column_of names word ≡ Some i

-- ---- numbers

-- the hundredths of a number with two digits behind a point, or of a whole one, below 2^32 of them
abbrev pub in_hundredths : Option ℕ → Option ℕ → Option ℕ
in_hundredths None part = None
in_hundredths (Some whole) None = None
in_hundredths (Some whole) (Some part) = if nat_le (whole * 100 + part) (2 ^ 32 - 1) then Some (whole * 100 + part) else None

abbrev pub part_of : List ℕ → Option ℕ
part_of digits = if length digits == 2 then number_of digits else None

abbrev pub hundredths_of : List ℕ → Option (List ℕ × List ℕ) → Option ℕ
hundredths_of text None = in_hundredths (number_of text) (Some 0)
hundredths_of text (Some (whole, part)) = in_hundredths (number_of whole) (part_of part)

abbrev pub hundredths_in : List ℕ → Option ℕ
hundredths_in text = hundredths_of text (parts_at 46 text)

-- a text that is a number, but no whole one
abbrev pub is_fine : List ℕ → Bool
is_fine text = is_none (number_of text) && is_some (hundredths_in text)

-- an axis is in hundredths where its columns have such a number, else in whole numbers
abbrev pub column_fine : List (List (List ℕ)) → ℕ → Bool
column_fine rows i = list_any (λ cells. is_fine (slice_index_or cells i [])) rows

abbrev pub axis_fine : List (List (List ℕ)) → List ℕ → Bool
axis_fine rows columns = list_any (column_fine rows) columns

abbrev pub scaled : Bool → List ℕ → Option ℕ
scaled fine text = if fine then hundredths_in text else number_of text

abbrev pub unit_of : Bool → ℕ
unit_of fine = if fine then 100 else 1

-- the number in a column of a row, if it is one
abbrev pub cell_number : Column → List (List ℕ) → Option ℕ
cell_number column cells = scaled column.fine (slice_index_or cells column.place [])

-- A POINT for a row that has both numbers
abbrev pub spot_of : Option ℕ → Option ℕ → List (ℕ × ℕ)
spot_of (Some x) (Some y) = (x, y) ∷ []
spot_of (Some x) None = []
spot_of None y = []

abbrev pub row_spot : Column → Column → List (List ℕ) → List (ℕ × ℕ)
row_spot x y cells = spot_of (cell_number x cells) (cell_number y cells)

-- A CURVE: the points of the rows, in their order, under the name of its column
abbrev pub plot_curve : List (List ℕ) → List (List (List ℕ)) → Column → ℕ → Column → Curve
plot_curve names rows x place y = record {
  label = slice_index_or names y.place [];
  points = flat_map (row_spot x y) rows;
  whiskers = [];
  stroke = stroke_of place 18 false;
  mark = Some (mark_of (place % 7 + place / 7));
}

abbrev pub plot_curves : List (List ℕ) → List (List (List ℕ)) → Column → Bool → List ℕ → List Curve
plot_curves names rows x fine ys = each (λ place y. plot_curve names rows x place (record { place = y; fine = fine }) ∷ []) ys

-- both axes go from 0 to the greatest number that is drawn, which is 1 of its units at least
abbrev pub across_most : ℕ → Curve → ℕ
across_most most curve = fold (λ n point. max n point.0) most curve.points

abbrev pub up_most : ℕ → Curve → ℕ
up_most most curve = fold (λ n point. max n point.1) most curve.points

abbrev pub across_top : List Curve → ℕ
across_top curves = fold across_most 1 curves

abbrev pub up_top : List Curve → ℕ
up_top curves = fold up_most 1 curves

-- with a tick at each 1, 2 or 5 times a power of ten, eight at most beside 0
abbrev pub plot_tick : ℕ → ℕ → ℕ → ℕ → List Tick
plot_tick unit top step place =
    if nat_le (place * step * unit) top then record { value = place * step * unit; number = place * step } ∷ [] else []

abbrev pub plot_ticks : Bool → ℕ → List Tick
plot_ticks fine top = flat_map (plot_tick (unit_of fine) top (step_of (top / unit_of fine) 8)) (below 9)

-- the name beside the axis: that of the only curve
abbrev pub up_title : List (List ℕ) → List ℕ → List ℕ
up_title names (y ∷ []) = slice_index_or names y []
up_title names [] = []
up_title names (y ∷ other ∷ more) = []

pub record IsPlotPanel (names : List (List ℕ)) (x : Column) (fine : Bool) (ys : List ℕ) (curves : List Curve) (panel : Panel) : Type 0 where
  pub title : panel.title.now ≡ []
  pub across_title : panel.across.title.now ≡ slice_index_or names x.place []
  pub across : (panel.across.from ≡ 0) × (panel.across.to ≡ across_top curves)
  pub across_ticks : panel.across.ticks.now ≡ plot_ticks x.fine (across_top curves)
  pub up_title : panel.up.title.now ≡ up_title names ys
  pub up : (panel.up.from ≡ 0) × (panel.up.to ≡ up_top curves)
  pub up_ticks : panel.up.ticks.now ≡ plot_ticks fine (up_top curves)
  pub drawn : panel.curves.items ≡ curves

-- the document
abbrev pub plot_title : List ℕ → List ℕ
plot_title file = codes "Sweep of " ++ file

abbrev pub plot_note : List (List (List ℕ)) → List ℕ
plot_note rows = decimal (length rows) ++ codes " rows; a point is one that has both numbers."

abbrev pub IsPanelDrawn : List ℕ → Panel → List ℕ → List ℕ → Type 0
IsPanelDrawn title panel note text =
    (c : Curves) × (c.title.now ≡ title) × (c.panels.now ≡ panel ∷ []) × (c.legend_columns ≡ 1) × (text ≡ curves_text c (note ∷ []))

abbrev pub IsScaledPicture : List ℕ → List (List (List ℕ)) → Column → Bool → List ℕ → List ℕ → Type 0
IsScaledPicture file table x fine ys text =
    (panel : Panel) × IsPlotPanel (names_of table) x fine ys (plot_curves (names_of table) (rows_of table) x fine ys) panel
    × IsPanelDrawn (plot_title file) panel (plot_note (rows_of table)) text

abbrev pub across_column : List (List (List ℕ)) → ℕ → Column
across_column rows x = record { place = x; fine = axis_fine rows (x ∷ []) }

abbrev pub IsPlotPicture : List ℕ → List (List (List ℕ)) → ℕ → List ℕ → List ℕ → Type 0
IsPlotPicture file table x ys text =
    IsScaledPicture file table (across_column (rows_of table) x) (axis_fine (rows_of table) ys) ys text

-- the picture of the columns that some words name
abbrev pub IsPlot : List ℕ → List (List (List ℕ)) → Option (List ℕ) → List (List ℕ) → List ℕ → Type 0
IsPlot file table None ys text = ⊥
IsPlot file table (Some x) ys text =
    (i : ℕ) × (js : List ℕ) × IsColumn (names_of table) x i × AllZip (IsColumn (names_of table)) ys js × (0 < length ys) × IsPlotPicture file table i js text

-- why there is none: there isn't both --x and --y, else a word of them names no column
abbrev pub IsBare : List ℕ → End → Type 0
IsBare plot end = RefusesForm (codes "--plot") plot (codes "given with --x and --y") end

abbrev pub RefusesColumn : List ℕ → List ℕ → End → Type 0
RefusesColumn option word end = RefusesForm option word (codes "a column of the table") end

abbrev pub IsNoColumn : List ℕ → List (List ℕ) → List ℕ → End → Type 0
IsNoColumn option names word end = (column_of names word ≡ None) × RefusesColumn option word end

abbrev pub AreNoColumns : List (List ℕ) → List (List ℕ) → End → Type 0
AreNoColumns names words end = RefusesFirst (IsColumn names) (λ word. IsNoColumn (codes "--y") names word end) words

abbrev pub IsNoPlot : List (List ℕ) → List ℕ → Option (List ℕ) → List (List ℕ) → End → Type 0
IsNoPlot names plot None ys end = IsBare plot end
IsNoPlot names plot (Some x) [] end = IsBare plot end
IsNoPlot names plot (Some x) (y ∷ ys) end = IsNoColumn (codes "--x") names x end ⊎ AreNoColumns names (y ∷ ys) end
