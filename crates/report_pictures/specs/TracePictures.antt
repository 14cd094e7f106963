-- WHAT THE PICTURE OF A TRACE SHOWS: a row for each component that held the message of a reference, or of the one that it was combined into,
-- and a bar for each span.
use Rattle.std.specs.Prelude.{◌≡◌, ℕ, ◌+◌, ◌-◌, ◌==◌, ◌&&◌, not, nat_le, min, Bool, true, false, if◌then◌else◌, List, [], ◌∷◌, ◌++◌, length, map, position, find, slice_get, slice_index, unwrap_or, option_map, Option, None, Some, codes, decimal}
use Rattle.std.specs.List.{fold, list_any}
use Rattle.std.specs.Option.{option_map_or}
use Rattle.omega_net.specs.declared.component.Component.{Component}
use Rattle.omega_net.specs.declared.component.Component.TheVariants.{Proc, Module, Switch}
use Rattle.omega_net.specs.declared.message.Tag.{Tag}
use Rattle.omega_net.specs.Numbers.{component_of}
use Rattle.omega_net.specs.Ports.{same_tag}
use Rattle.omega_net.specs.Texts.{tag_text}
use Rattle.omega_net.specs.Wires.{below}
use Rattle.run_reports.specs.declared.spans.Span.{Span}
use Rattle.run_reports.specs.TraceTexts.{place_text}
use Rattle.svg_plots.specs.AxisTicks.{ticks_between}
use Rattle.svg_plots.specs.CellMaps.{map_text}
use Rattle.svg_plots.specs.Lists.{each}
use Rattle.svg_plots.specs.declared.map.CellGroup.{CellGroup}
use Rattle.svg_plots.specs.declared.map.CellMap.{CellMap}
use Rattle.svg_plots.specs.declared.map.ShadeKey.{ShadeKey}
use Rattle.svg_plots.specs.declared.tick.Tick.{Tick}

-- THE CARRIERS: the reference itself, and those into which it was combined, each once
abbrev pub is_known : List Tag → Tag → Bool
is_known tags x = list_any (λ t. same_tag t x) tags

abbrev pub with_carrier : List Tag → Span → List Tag
with_carrier tags s = if is_known tags s.spot.carrier then tags else tags ++ s.spot.carrier ∷ []

abbrev pub carriers_of : Tag → List Span → List Tag
carriers_of x spans = fold with_carrier (x ∷ []) spans

-- THE PLACES: the numbers of the components that held its message, each once, in the order in which they first did
abbrev pub is_passed : List ℕ → ℕ → Bool
is_passed places n = list_any (λ p. p == n) places

abbrev pub with_place : List ℕ → Span → List ℕ
with_place places s = if is_passed places s.spot.place then places else places ++ s.spot.place ∷ []

abbrev pub places_of : List Span → List ℕ
places_of spans = fold with_place [] spans

-- the first and the last cycle of some spans, and how many cycles these are of
abbrev pub first_of : List Span → ℕ
first_of spans = option_map_or (λ s. min s.from 1000000) (slice_get spans 0) 0

abbrev pub last_of : List Span → ℕ
last_of spans = option_map_or (λ s. min s.to 1000000) (slice_get spans (length spans - 1)) 0

abbrev pub columns_of : List Span → ℕ
columns_of spans = last_of spans - first_of spans + 1

-- A CELL of a row is the number of the carrier whose message the row's component held in that cycle, from 1; 0 where it held none
abbrev pub number_of : List Tag → Tag → ℕ
number_of carriers x = min (unwrap_or (position (λ t. same_tag t x) carriers) 0 + 1) 255

abbrev pub is_at : ℕ → ℕ → Span → Bool
is_at place cycle s = (s.spot.place == place) && (nat_le s.from cycle && nat_le cycle s.to)

abbrev pub carrier_at : List Span → ℕ → ℕ → Option Tag
carrier_at spans place cycle = option_map (λ s. s.spot.carrier) (find (λ s. is_at place cycle s) spans)

abbrev pub cell_at : List Tag → List Span → ℕ → ℕ → ℕ
cell_at carriers spans place cycle = option_map_or (λ x. number_of carriers x) (carrier_at spans place cycle) 0

abbrev pub cells_of : List Tag → List Span → ℕ → List ℕ
cells_of carriers spans place = map (λ column. cell_at carriers spans place (first_of spans + column)) (below (columns_of spans))

-- the rows, from the last place that it first came to down to the first, each under its component's name and beside its kind
abbrev pub kind_text : Option Component → List ℕ
kind_text None = codes ""
kind_text (Some (Proc p)) = codes "processor"
kind_text (Some (Module m)) = codes "module"
kind_text (Some (Switch net stage index)) = codes "stage " ++ decimal stage

abbrev pub group_of : ℕ → List Tag → List Span → ℕ → CellGroup
group_of k carriers spans place = record {
  label = kind_text (component_of k place);
  rows = record { label = place_text (component_of k place); cells = cells_of carriers spans place } ∷ [];
}

abbrev pub from_last : List ℕ → ℕ → ℕ
from_last places row = slice_index places (length places - 1 - row)

abbrev pub groups_of : ℕ → List Tag → List Span → List ℕ → List CellGroup
groups_of k carriers spans places = map (λ row. group_of k carriers spans (from_last places row)) (below (length places))

-- A STROKE below stands for each cycle in which the message was that of another reference
abbrev pub is_carried : Tag → ℕ → Span → Bool
is_carried x cycle s = not (same_tag s.spot.carrier x) && (nat_le s.from cycle && nat_le cycle s.to)

abbrev pub stroke_at : Tag → List Span → ℕ → Bool
stroke_at x spans cycle = list_any (λ s. is_carried x cycle s) spans

-- what the numbers stand for
abbrev pub carrier_text : Tag → Tag → List ℕ
carrier_text x carrier = if same_tag carrier x then codes "itself" else codes "in p" ++ tag_text carrier

abbrev pub key_of : Tag → ℕ → Tag → List ShadeKey
key_of x place carrier = record { number = min (place + 1) 255; label = carrier_text x carrier } ∷ []

-- the cycles under their columns
abbrev pub column_tick : ℕ → Tick → Tick
column_tick first t = record { value = t.number - first; number = t.number }

-- the lines above and below
abbrev pub trace_title : Tag → List ℕ
trace_title x = codes "Where p" ++ (tag_text x ++ codes " was, cycle by cycle")

abbrev pub period_note : List ℕ → ℕ → ℕ → List ℕ
period_note name from to = name ++ (codes ": cycles " ++ (decimal from ++ (codes " to " ++ (decimal to ++ codes "."))))

abbrev pub cycles_note : List ℕ → List Span → List ℕ
cycles_note name spans =
    if length spans == 0 then name ++ codes ": not issued in this run." else period_note name (first_of spans) (last_of spans)

abbrev pub trace_notes : List ℕ → List Span → List (List ℕ)
trace_notes name spans =
    cycles_note name spans
    ∷ codes "A row is a component, a bar the cycles in which it held the message: the reference's own, or that of the one"
    ∷ codes "that it was combined into, as the key says. A light line, and a stroke below: another reference's message." ∷ []

-- all of it
pub record IsTraceMap (k : ℕ) (name : List ℕ) (x : Tag) (spans : List Span) (m : CellMap) : Type 0 where
  pub title : m.title ≡ trace_title x
  pub groups : m.groups.items ≡ groups_of k (carriers_of x spans) spans (places_of spans)
  pub middle : m.middle ≡ 0
  pub most : m.most ≡ min (length (carriers_of x spans)) 255
  pub marked : m.marked ≡ 2
  pub key : m.key.items ≡ each (key_of x) (carriers_of x spans)
  pub crossings : m.crossings.items ≡ []
  pub levels : m.levels.items ≡ map (λ column. 0) (below (columns_of spans))
  pub highest : m.highest ≡ 0
  pub strokes : m.strokes.items ≡ map (λ column. stroke_at x spans (first_of spans + column)) (below (columns_of spans))
  pub ticks : m.ticks.items ≡ map (column_tick (first_of spans)) (ticks_between (first_of spans) (last_of spans))
  pub across : m.across.now ≡ codes "cycle"
  pub stroke_title : m.stroke_title.now ≡ codes "combined"
  pub notes : m.notes.items ≡ trace_notes name spans

-- the document
abbrev pub IsTracePicture : ℕ → List ℕ → Tag → List Span → List ℕ → Type 0
IsTracePicture k name x spans text = (m : CellMap) × IsTraceMap k name x spans m × (text ≡ map_text m)
