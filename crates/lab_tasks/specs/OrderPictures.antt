-- The space-time diagram of the references of a run.
use Rattle.std.specs.Prelude.{◌≡◌, ℕ, ◌+◌, ◌==◌, ◌&&◌, nat_lt, Bool, false, if◌then◌else◌, List, [], ◌∷◌, ◌++◌, length, map, min, position, Option, None, Some, codes}
use Rattle.std.specs.List.{flat_map, list_any}
use Rattle.omega_net.specs.Wires.{below}
use Rattle.omega_net.specs.declared.message.Tag.{Tag}
use Rattle.run_queries.specs.declared.body.Received.{Received}
use Rattle.experiments.specs.declared.map.Window.{Window}
use Rattle.experiments.specs.declared.order.Issue.{Issue}
use Rattle.experiments.specs.declared.order.OrderRow.{OrderRow}
use Rattle.experiments.specs.Lanes.{lane_counts, lane_of}
use Rattle.svg_plots.specs.declared.colour.Colour.{Colour}
use Rattle.svg_plots.specs.declared.colour.Colour.TheVariants.{Black, Vermilion, SkyBlue, Light, Shade}
use Rattle.svg_plots.specs.declared.timeline.Band.{Band}
use Rattle.svg_plots.specs.declared.timeline.Bar.{Bar}
use Rattle.svg_plots.specs.declared.timeline.Join.{Join}
use Rattle.svg_plots.specs.declared.timeline.Key.{Key}
use Rattle.svg_plots.specs.declared.timeline.Timeline.{Timeline}
use Rattle.svg_plots.specs.Timelines.{timeline_text}

-- the first four words of some references, each once
abbrev pub is_known : List ℕ → ℕ → Bool
is_known words a = list_any (λ w. w == a) words

abbrev pub with_word : List ℕ → Option Issue → List ℕ
with_word words None = words
with_word words (Some i) = if nat_lt (length words) 4 then (if is_known words i.address then words else words ++ i.address ∷ []) else words

abbrev pub words_from : List ℕ → List OrderRow → List ℕ
words_from words [] = words
words_from words (r ∷ rest) = words_from (with_word words r.issue) rest

-- their colours, and that of all other words
abbrev pub colour_by : ℕ → Colour
colour_by n = if n == 0 then Shade 16 else (if n == 1 then Vermilion else (if n == 2 then SkyBlue else Light))

abbrev pub colour_at : Option ℕ → Colour
colour_at None = Black
colour_at (Some n) = colour_by n

abbrev pub colour_of : List ℕ → ℕ → Colour
colour_of words a = colour_at (position (λ w. w == a) words)

-- the lane of a reference, and the first one of a processor
abbrev pub lane_at : List ℕ → Tag → ℕ
lane_at counts t = min (lane_of counts t) 65535

abbrev pub first_lane : List ℕ → ℕ → ℕ
first_lane counts p = lane_at counts (record { proc = p; issue = 0 })

-- a bar from the issue to the reply, or to the last cycle, with its dot at the service
abbrev pub end_at : ℕ → Option Received → ℕ
end_at to None = to
end_at to (Some y) = y.cycle

abbrev pub bar_at : List ℕ → List ℕ → ℕ → OrderRow → Option Issue → List Bar
bar_at counts words to r None = []
bar_at counts words to r (Some i) = record {
  lane = lane_at counts r.tag;
  from = i.cycle;
  to = end_at to r.reply;
  dot = r.served;
  number = r.number;
  colour = colour_of words i.address;
} ∷ []

abbrev pub bar_of : List ℕ → List ℕ → ℕ → OrderRow → List Bar
bar_of counts words to r = bar_at counts words to r r.issue

-- two references that one request served: in one cycle one module did
abbrev pub same_module : Option Issue → Option Issue → Bool
same_module (Some i) (Some j) = i.place.«module» == j.place.«module»
same_module _ _ = false

abbrev pub is_joined : OrderRow → OrderRow → Bool
is_joined r s = (r.served == s.served) && same_module r.issue s.issue

-- a line from the dot of each to that of the one before it, where one request served both
abbrev pub join_with : List ℕ → Option OrderRow → OrderRow → List Join
join_with counts None s = []
join_with counts (Some r) s =
    if is_joined r s then record { column = s.served; first = lane_at counts r.tag; second = lane_at counts s.tag } ∷ [] else []

abbrev pub joins_after : List ℕ → Option OrderRow → List OrderRow → List Join
joins_after counts last [] = []
joins_after counts last (s ∷ rest) = join_with counts last s ++ joins_after counts (Some s) rest

-- a processor's band, and a word's key, by its place among those that have a colour
abbrev pub band_of : List ℕ → ℕ → Band
band_of counts p = record { lane = first_lane counts p; number = p }

abbrev pub key_of : ℕ → ℕ → Key
key_of n a = record { place = n; colour = colour_by n; number = a }

abbrev pub keys_from : ℕ → List ℕ → List Key
keys_from n [] = []
keys_from n (a ∷ rest) = key_of n a ∷ keys_from (n + 1) rest

abbrev pub words_of : List OrderRow → List ℕ
words_of rows = words_from [] rows

-- the diagram of the references that waited in a window, on so many processors whose lanes are counted
pub record IsTimeline (processors : ℕ) (window : Window) (rows : List OrderRow) (counts : List ℕ) (t : Timeline) : Type 0 where
  pub columns : t.columns ≡ record { from = window.from; to = window.to }
  pub lanes : t.lanes ≡ first_lane counts processors
  pub named : (t.band_name.now ≡ codes "processor") × (t.key_name.now ≡ codes "word") × (t.across.now ≡ codes "cycle")
  pub bands : t.bands.now ≡ map (band_of counts) (below processors)
  pub keys : t.keys.now ≡ keys_from 0 (words_of rows)
  pub joins : t.joins.now ≡ joins_after counts None rows
  pub bars : t.bars.now ≡ flat_map (bar_of counts (words_of rows) window.to) rows

abbrev pub IsPicture : ℕ → Window → List OrderRow → List ℕ → Type 0
IsPicture processors window rows text =
    (t : Timeline) × IsTimeline processors window rows (lane_counts processors rows) t × (text ≡ timeline_text t)
