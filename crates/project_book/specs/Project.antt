-- What a project says of the machine and of its scripts and first words.
use Rattle.std.specs.Prelude.{◌≡◌, ℕ, ◌/◌, ◌^◌, ◌≤◌, ◌&&◌, nat_le, nat_lt, Bool, true, false, if◌then◌else◌, List, [], length, replicate, Option, None, Some, slice_get, slice_index_or}
use Rattle.page_map.specs.declared.place.Place.{Place}
use Rattle.page_map.specs.Limits.{address_count, max_k, page_count, page_words}
use Rattle.page_map.specs.Places.{Page, place_on}
use Rattle.page_map.specs.Pages.{Pages, page_of as page_among, whole_pages}
use Rattle.omega_net.specs.declared.component.Net.{Net}
use Rattle.omega_net.specs.declared.script.ScriptEntry.{ScriptEntry}
use Rattle.omega_net.specs.declared.script.ScriptEntry.TheVariants.{Reference, Until, Fence, Idle}
use Rattle.project_book.specs.declared.edit.Depths.{Depths}
use Rattle.project_book.specs.declared.depths.QueueDepths.{QueueDepths}
use Rattle.project_book.specs.declared.words.FirstWord.{FirstWord}
use Rattle.project_book.specs.Limits.{script_entries, max_window}
use Rattle.project_book.specs.declared.scale.Scale.{Scale}
use Rattle.project_book.specs.declared.scale.Scale.TheVariants.{Usual}
use Rattle.project_book.specs.Scales.{most_horizon, most_entries}
use Rattle.project_book.specs.Queues.{depth_in, forward_queue, reverse_queue, usual_depths, usual_wait, is_depth, is_wait}
use Rattle.project_book.specs.FirstWords.{word_at}
use Rattle.project_book.specs.Scripts.{script_of, AreFew}

pub record Project : Type 0 where
  -- how large it may be
  pub scale : Scale
  pub k : ℕ
  pub horizon : ℕ
  pub window : ℕ
  -- the depths of the queues and of the wait buffers
  pub depths : QueueDepths
  pub wait : ℕ
  -- whether the switches of a stage combine
  pub combine : List Bool
  pub pages : Pages
  -- the first words that aren't 0, by address upwards, and the scripts by processor
  pub words : List FirstWord
  pub scripts : List (List ScriptEntry)

-- how a page is spread; one that isn't there stands on module 0
abbrev pub page_of : Project → ℕ → Page
page_of P g = page_among P.pages g

-- `place`: where an address stands, by the amount and base of its page
abbrev pub place_in : Project → ℕ → Place
place_in P a = place_on (page_of P (a / page_words)) a

-- the entry of a processor's script, where both exist
abbrev pub entry_at : Project → ℕ → ℕ → Option ScriptEntry
entry_at P p i = if nat_lt p (2 ^ P.k) && nat_lt i script_entries then slice_get (script_of P.scripts p) i else None

-- how many entries a processor's script has
abbrev pub length_at : Project → ℕ → ℕ
length_at P p = length (script_of P.scripts p)

-- the first word of an address
abbrev pub word_of : Project → ℕ → ℕ
word_of P a = if nat_lt a address_count then word_at P.words a else 0

-- the depth of queues; of a network's queues towards the modules, and towards the processors
abbrev pub depth_of : Project → Depths → ℕ
depth_of P q = depth_in P.depths q

abbrev pub forward : Project → Net → ℕ
forward P net = depth_of P (forward_queue net)

abbrev pub reverse : Project → Net → ℕ
reverse P net = depth_of P (reverse_queue net)

-- whether the switches of a stage combine
abbrev pub combines_at : Project → ℕ → Bool
combines_at P stage = if nat_lt stage P.k then slice_index_or P.combine stage false else false

-- the place of the address that an entry names
abbrev pub place_for : Project → Option ScriptEntry → Place
place_for P None = record { «module» = 0; row = 0 }
place_for P (Some (Reference sync op address times)) = place_in P address
place_for P (Some (Until sync op address value times)) = place_in P address
place_for P (Some Fence) = record { «module» = 0; row = 0 }
place_for P (Some (Idle turns)) = record { «module» = 0; row = 0 }

-- whether a window is allowed
abbrev pub is_window : ℕ → Bool
is_window w = nat_le 1 w && nat_le w max_window

-- the project that says nothing but its scale and its size
abbrev pub blank_of : Scale → ℕ → ℕ → Project
blank_of scale k horizon = record {
  scale = scale;
  k = k;
  horizon = horizon;
  window = 1;
  depths = usual_depths;
  wait = usual_wait;
  combine = replicate max_k false;
  pages = whole_pages k;
  words = [];
  scripts = replicate (2 ^ k) [];
}

-- that of the usual scale
abbrev pub blank : ℕ → ℕ → Project
blank k horizon = blank_of Usual k horizon

-- the numbers are within the limits, and there is a script for each processor
pub record IsProject (P : Project) : Type 0 where
  pub small : P.k ≤ max_k
  pub mapped : P.pages.k ≡ P.k
  pub paged : length P.pages.pages ≡ page_count
  pub short : P.horizon ≤ most_horizon P.scale
  pub window : is_window P.window ≡ true
  pub depths : (q : Depths) → is_depth q (depth_of P q) ≡ true
  pub wait : is_wait P.wait ≡ true
  pub flags : length P.combine ≡ max_k
  pub scripts : length P.scripts ≡ 2 ^ P.k
  pub few : AreFew (most_entries P.scale) P.scripts
