-- What tables say.
use Rattle.std.specs.Prelude.{ℕ, ◌+◌, ◌-◌, ◌*◌, ◌/◌, ◌%◌, ◌^◌, ◌==◌, ◌||◌, min, max, Bool, if◌then◌else◌, List, [], ◌∷◌, ◌++◌, map, codes, decimal, chars, encode_utf8}
use Rattle.std.specs.List.{flat_map, join_with_byte, list_any}
use Rattle.experiments.specs.declared.load.Load.{Load}
use Rattle.lab_tasks.specs.declared.tables.RatePoint.{RatePoint}
use Rattle.lab_tasks.specs.declared.tables.DelayPoint.{DelayPoint}

-- a number of thousandths with three places behind its point
abbrev pub thousandths_text : ℕ → List ℕ
thousandths_text n = decimal (n / 1000) ++ codes "." ++ decimal (n / 100 % 10) ++ decimal (n / 10 % 10) ++ decimal (n % 10)

-- there are at most 2^6 processors
abbrev pub processors_of : ℕ → ℕ
processors_of k = 2 ^ min k 6

-- p / (1 + h (p - 1)) in thousandths, where h is a number of hundredths (Pfister and Norton 1985)
unfoldable pub bound_of : ℕ → ℕ → ℕ
bound_of p hot = p * 100000 / (100 + hot * (p - 1))

abbrev pub switch_text : Bool → List ℕ
switch_text on = if on then codes "on" else codes "off"

-- how many cycles are counted, and a number of them in a cycle, in thousandths
abbrev pub cycles_of : RatePoint → ℕ
cycles_of p = p.load.cycles + 1 - p.first

abbrev pub rate_of : RatePoint → ℕ → ℕ
rate_of p n = n * 1000 / max (cycles_of p) 1

-- the machine of a load: processors, whether combining is on, how many of a hundred references are hot
abbrev pub machine_text : Load → List ℕ
machine_text load = decimal (processors_of load.k) ++ codes "," ++ switch_text load.combine ++ codes "," ++ decimal load.hot

abbrev pub bound_text : Load → List ℕ
bound_text load = thousandths_text (bound_of (processors_of load.k) load.hot)

-- which run it is, and which cycles are counted: the seed, the first cycle, how many
abbrev pub span_text : RatePoint → List ℕ
span_text p = decimal p.load.seed ++ codes "," ++ decimal p.first ++ codes "," ++ decimal (cycles_of p)

-- what was counted: references answered, requests served, and both in a cycle
abbrev pub counted_text : RatePoint → List ℕ
counted_text p = decimal p.answered ++ codes "," ++ decimal p.served

abbrev pub rates_text : RatePoint → List ℕ
rates_text p = thousandths_text (rate_of p p.answered) ++ codes "," ++ thousandths_text (rate_of p p.served)

abbrev pub measured_text : RatePoint → List ℕ
measured_text p = span_text p ++ codes "," ++ counted_text p ++ codes "," ++ rates_text p

-- a row of the table of `rates`
abbrev pub rate_row : RatePoint → List ℕ
rate_row p = machine_text p.load ++ codes "," ++ measured_text p ++ codes "," ++ bound_text p.load

-- the mean number of cycles in thousandths
abbrev pub mean_of : DelayPoint → ℕ
mean_of p = p.waited * 1000 / max p.replies 1

abbrev pub network_text : Bool → List ℕ
network_text sync = if sync then codes "combining" else codes "low"

-- the mean, and nothing where there is no reply
unfoldable pub mean_text : DelayPoint → List ℕ
mean_text p = if p.replies == 0 then [] else thousandths_text (mean_of p)

-- a row of the table of `delays`
abbrev pub delay_row : DelayPoint → List ℕ
delay_row p =
    network_text p.load.sync ++ codes "," ++ machine_text p.load ++ codes "," ++ decimal p.replies ++ codes "," ++ decimal p.waited
    ++ codes "," ++ mean_text p

-- a table: its first row, then a row for each point, each with a LF behind it
abbrev pub table_text : {T : Type 0} → List ℕ → (T → List ℕ) → List T → List ℕ
table_text first row points = first ++ flat_map (λ point. row point ++ 10 ∷ []) points

-- whether a text has a comma or a quote: 44 is , and 34 is "
abbrev pub is_quoted : List ℕ → Bool
is_quoted text = list_any (λ b. b == 44) text || list_any (λ b. b == 34) text

-- a text with each quote written twice
abbrev pub doubled_char : ℕ → List ℕ
doubled_char c = if c == 34 then codes "\"\"" else encode_utf8 c

unfoldable pub doubled_text : List ℕ → List ℕ
doubled_text text = flat_map doubled_char (chars text)

-- a text as a field of a table: as it is without a comma or a quote, else in quotes
unfoldable pub field_text : List ℕ → List ℕ
field_text text = if is_quoted text then codes "\"" ++ doubled_text text ++ codes "\"" else text

-- fields with commas between
abbrev pub fields_text : List (List ℕ) → List ℕ
fields_text texts = join_with_byte 44 (map field_text texts)
