-- What the program is told by its words.
use Rattle.std.specs.Prelude.{◌≡◌, Bool, false, List, [], map, ℕ, Option, Some, None, option_map, unwrap_or, bytes_eq, codes}
use Rattle.std.specs.Option.{option_map_or}
use Rattle.std.specs.Borrow.{Bor}
use Rattle.clap.specs.Words.{Row, Text, all_of, first_of}
use Rattle.lab_tasks.specs.declared.words.Asked.{Asked}
use Rattle.lab_tasks.specs.declared.words.Asked.TheVariants.{Map, Compare, Order, Latency, Done, Trace, Full, Series, Busy, Rates, Delays, Load, Sweep, Check, Convert, Page, Shell}
use Rattle.lab_tasks.specs.declared.busy.BusyWords.{BusyWords}
use Rattle.lab_tasks.specs.declared.words.MapWords.{MapWords}
use Rattle.lab_tasks.specs.declared.words.CompareWords.{CompareWords}
use Rattle.lab_tasks.specs.declared.convert.ConvertWords.{ConvertWords}
use Rattle.lab_tasks.specs.declared.latency.LatencyWords.{LatencyWords}
use Rattle.lab_tasks.specs.declared.order.OrderWords.{OrderWords}
use Rattle.lab_tasks.specs.declared.series.SeriesWords.{SeriesWords}
use Rattle.lab_tasks.specs.declared.shell.ShellWords.{ShellWords}
use Rattle.lab_tasks.specs.declared.trace.TraceWords.{TraceWords}
use Rattle.lab_tasks.specs.declared.words.CurveWords.{CurveWords}
use Rattle.lab_tasks.specs.declared.words.DelayWords.{DelayWords}
use Rattle.lab_tasks.specs.declared.words.LoadWords.{LoadWords}
use Rattle.lab_tasks.specs.declared.words.SweepWords.{SweepWords}

-- a word as its text, if there is one, and several words as theirs
abbrev pub text_of : Option (Bor (List ℕ)) → Option (List ℕ)
text_of word = option_map (λ w. w.now) word

abbrev pub texts_of : List (Bor (List ℕ)) → List (List ℕ)
texts_of words = map (λ w. w.now) words

-- the texts of all uses of an option, whether a flag is given, and the file that is read
abbrev pub texts_at : List Row → Text → List Text
texts_at rows id = unwrap_or (all_of id rows) []

abbrev pub is_given : List Row → Text → Bool
is_given rows id = option_map_or (λ text. bytes_eq text (codes "true")) (first_of id rows) false

abbrev pub file_at : List Row → Text
file_at rows = unwrap_or (first_of (codes "FILE") rows) []

-- the words of a task are the texts that the matches hold at its options
pub record AreMapWords (rows : List Row) (words : MapWords) : Type 0 where
  pub file : words.file.now ≡ file_at rows
  pub net : text_of words.net ≡ first_of (codes "net") rows
  pub dir : text_of words.dir ≡ first_of (codes "dir") rows
  pub queues : text_of words.queues ≡ first_of (codes "queues") rows
  pub number : text_of words.module ≡ first_of (codes "module") rows
  pub from : text_of words.from ≡ first_of (codes "from") rows
  pub to : text_of words.to ≡ first_of (codes "to") rows
  pub out : text_of words.out ≡ first_of (codes "out") rows

pub record AreCompareWords (rows : List Row) (words : CompareWords) : Type 0 where
  pub map : AreMapWords rows words.map
  pub other : first_of (codes "compare") rows ≡ Some words.other.now

pub record AreOrderWords (rows : List Row) (words : OrderWords) : Type 0 where
  pub file : words.file.now ≡ file_at rows
  pub from : text_of words.from ≡ first_of (codes "from") rows
  pub to : text_of words.to ≡ first_of (codes "to") rows
  pub out : text_of words.out ≡ first_of (codes "out") rows

pub record AreLatencyWords (rows : List Row) (words : LatencyWords) : Type 0 where
  pub file : words.file.now ≡ file_at rows
  pub processor : text_of words.processor ≡ first_of (codes "processor") rows
  pub network : text_of words.network ≡ first_of (codes "network") rows
  pub address : text_of words.address ≡ first_of (codes "address") rows
  pub page : text_of words.page ≡ first_of (codes "page") rows
  pub hot : words.hot ≡ is_given rows (codes "hot")
  pub cold : words.cold ≡ is_given rows (codes "cold")
  pub from : text_of words.from ≡ first_of (codes "from") rows
  pub to : text_of words.to ≡ first_of (codes "to") rows

pub record AreTraceWords (rows : List Row) (words : TraceWords) : Type 0 where
  pub file : words.file.now ≡ file_at rows
  pub processor : text_of words.processor ≡ first_of (codes "P") rows
  pub number : text_of words.number ≡ first_of (codes "I") rows
  pub out : text_of words.out ≡ first_of (codes "out") rows

pub record AreSeriesWords (rows : List Row) (words : SeriesWords) : Type 0 where
  pub file : words.file.now ≡ file_at rows
  pub gauges : texts_of words.gauges.items ≡ texts_at rows (codes "of")
  pub from : text_of words.from ≡ first_of (codes "from") rows
  pub to : text_of words.to ≡ first_of (codes "to") rows
  pub bin : text_of words.bin ≡ first_of (codes "bin") rows
  pub csv : text_of words.csv ≡ first_of (codes "csv") rows
  pub out : text_of words.out ≡ first_of (codes "out") rows

pub record AreBusyWords (rows : List Row) (words : BusyWords) : Type 0 where
  pub file : words.file.now ≡ file_at rows
  pub from : text_of words.from ≡ first_of (codes "from") rows
  pub to : text_of words.to ≡ first_of (codes "to") rows

pub record AreCurveWords (rows : List Row) (words : CurveWords) : Type 0 where
  pub k : text_of words.k ≡ first_of (codes "k") rows
  pub hot : text_of words.hot ≡ first_of (codes "hot") rows
  pub cycles : text_of words.cycles ≡ first_of (codes "cycles") rows
  pub seed : text_of words.seed ≡ first_of (codes "seed") rows
  pub seeds : text_of words.seeds ≡ first_of (codes "seeds") rows
  pub of : text_of words.of ≡ first_of (codes "of") rows
  pub csv : text_of words.csv ≡ first_of (codes "csv") rows
  pub out : text_of words.out ≡ first_of (codes "out") rows
  pub keep : text_of words.keep ≡ first_of (codes "keep") rows

pub record AreDelayWords (rows : List Row) (words : DelayWords) : Type 0 where
  pub curves : AreCurveWords rows words.curves
  pub file : text_of words.file ≡ first_of (codes "FILE") rows
  pub latency : AreLatencyWords rows words.latency

pub record AreLoadWords (rows : List Row) (words : LoadWords) : Type 0 where
  pub curves : AreCurveWords rows words.curves
  pub rate : text_of words.rate ≡ first_of (codes "rate") rows
  pub step : text_of words.step ≡ first_of (codes "step") rows

pub record AreSweepWords (rows : List Row) (words : SweepWords) : Type 0 where
  pub file : words.file.now ≡ file_at rows
  pub setups : texts_of words.setups.items ≡ texts_at rows (codes "setup")
  pub depths : texts_of words.depths.items ≡ texts_at rows (codes "depth")
  pub edits : texts_of words.edits.items ≡ texts_at rows (codes "edit")
  pub zip : words.zip ≡ is_given rows (codes "zip")
  pub asks : texts_of words.asks.items ≡ texts_at rows (codes "ask")
  pub csv : text_of words.csv ≡ first_of (codes "csv") rows
  pub numbers : words.numbers ≡ is_given rows (codes "numbers")
  pub plot : text_of words.plot ≡ first_of (codes "plot") rows
  pub x : text_of words.x ≡ first_of (codes "x") rows
  pub ys : texts_of words.ys.items ≡ texts_at rows (codes "y")

pub record AreConvertWords (rows : List Row) (words : ConvertWords) : Type 0 where
  pub file : words.file.now ≡ file_at rows
  pub out : text_of words.out ≡ first_of (codes "out") rows
  pub force : words.force ≡ is_given rows (codes "force")

pub record AreShellWords (rows : List Row) (words : ShellWords) : Type 0 where
  pub file : text_of words.file ≡ first_of (codes "FILE") rows
  pub strict : words.strict ≡ is_given rows (codes "strict")
  pub json : words.json ≡ is_given rows (codes "json")

-- a task is named, and its matches say this
abbrev pub IsNamed : Option (Text × List Row) → Text → (List Row → Type 0) → Type 0
IsNamed said name Says = (rows : List Row) × (said ≡ Some (name, rows)) × Says rows

-- what is asked for where a task is named, and its matches hold these rows
abbrev pub AsksFor : Option (Text × List Row) → Asked → Type 0
AsksFor said (Map words) = IsNamed said (codes "map") (λ rows. AreMapWords rows words × (first_of (codes "compare") rows ≡ None))
AsksFor said (Compare words) = IsNamed said (codes "map") (λ rows. AreCompareWords rows words)
AsksFor said (Order words) = IsNamed said (codes "order") (λ rows. AreOrderWords rows words)
AsksFor said (Latency words) = IsNamed said (codes "latency") (λ rows. AreLatencyWords rows words)
AsksFor said (Done file) = IsNamed said (codes "done") (λ rows. file.now ≡ file_at rows)
AsksFor said (Trace words) = IsNamed said (codes "trace") (λ rows. AreTraceWords rows words)
AsksFor said (Full file) = IsNamed said (codes "full") (λ rows. file.now ≡ file_at rows)
AsksFor said (Series words) = IsNamed said (codes "series") (λ rows. AreSeriesWords rows words)
AsksFor said (Busy words) = IsNamed said (codes "busy") (λ rows. AreBusyWords rows words)
AsksFor said (Rates words) = IsNamed said (codes "rates") (λ rows. AreCurveWords rows words)
AsksFor said (Delays words) = IsNamed said (codes "delays") (λ rows. AreDelayWords rows words)
AsksFor said (Load words) = IsNamed said (codes "load") (λ rows. AreLoadWords rows words)
AsksFor said (Sweep words) = IsNamed said (codes "sweep") (λ rows. AreSweepWords rows words)
AsksFor said (Check file) = IsNamed said (codes "check") (λ rows. file.now ≡ file_at rows)
AsksFor said (Convert words) = IsNamed said (codes "convert") (λ rows. AreConvertWords rows words)
AsksFor said (Page words) = IsNamed said (codes "page") (λ rows. AreOrderWords rows words)
AsksFor said (Shell words) = IsNamed said (codes "shell") (λ rows. AreShellWords rows words)

abbrev pub file_of : Asked → Option (List ℕ)
file_of (Map words) = Some words.file.now
file_of (Compare words) = Some words.map.file.now
file_of (Order words) = Some words.file.now
file_of (Latency words) = Some words.file.now
file_of (Done file) = Some file.now
file_of (Trace words) = Some words.file.now
file_of (Full file) = Some file.now
file_of (Series words) = Some words.file.now
file_of (Busy words) = Some words.file.now
file_of (Rates words) = None
file_of (Delays words) = text_of words.file
file_of (Load words) = None
file_of (Sweep words) = Some words.file.now
file_of (Check file) = Some file.now
file_of (Convert words) = Some words.file.now
file_of (Page words) = Some words.file.now
file_of (Shell words) = text_of words.file
