-- What a summary counts.
use Rattle.std.specs.Prelude.{◌≡◌, ◌≤◌, ◌<◌, ◌==◌, ◌⊎◌, ◌^◌, ◌*◌, ℕ, Bool, true, if◌then◌else◌, List, map, length, min, All, AllPairs, Contains, slice_index, sum_by, Option, None, Some}
use Rattle.omega_net.specs.declared.script.ScriptEntry.{ScriptEntry}
use Rattle.omega_net.specs.declared.script.ScriptEntry.TheVariants.{Reference, Until}
use Rattle.omega_net.specs.Wires.{below}
use Rattle.page_map.specs.Limits.{address_count}
use Rattle.project_book.specs.Limits.{max_times, script_entries}
use Rattle.project_book.specs.Project.{Project, entry_at, length_at, place_in}
use Rattle.lab_tasks.specs.declared.hot.Hot.{Hot}
use Rattle.lab_tasks.specs.declared.hot.Parts.{Parts}
use Rattle.lab_tasks.specs.declared.hot.Parts.TheVariants.{Words, Modules}

-- how often an entry refers to words of a kind, at most
abbrev pub times_in : (ℕ → Bool) → Option ScriptEntry → ℕ
times_in is (Some (Reference sync op address times)) = if is address then times else 0
times_in is (Some (Until sync op address value times)) = if is address then times else 0
times_in is _ = 0

-- how often a processor's script does, and all scripts
abbrev pub times_of : Project → (ℕ → Bool) → ℕ → ℕ
times_of P is p = sum_by (λ i. times_in is (entry_at P p i)) (below (length_at P p))

abbrev pub references : Project → (ℕ → Bool) → ℕ
references P is = sum_by (times_of P is) (below (2 ^ P.k))

-- how many processors do
abbrev pub referrers : Project → (ℕ → Bool) → ℕ
referrers P is = sum_by (λ p. min (times_of P is p) 1) (below (2 ^ P.k))

-- words of any kind
abbrev pub any : ℕ → Bool
any address = true

-- the memory is counted by words, or by modules: how many there are, and the number of the one that an address is of
abbrev pub part_count : Project → Parts → ℕ
part_count P Words = address_count
part_count P Modules = 2 ^ P.k

abbrev pub part_of : Project → Parts → ℕ → ℕ
part_of P Words address = address
part_of P Modules address = (place_in P address).module

abbrev pub is_of : Project → Parts → ℕ → ℕ → Bool
is_of P parts n address = part_of P parts address == n

-- a word or a module, with how many processors refer to it, and how often they do at most
abbrev pub hot_of : Project → Parts → ℕ → Hot
hot_of P parts n = record { number = n; processors = referrers P (is_of P parts n); references = references P (is_of P parts n) }

-- how many scripts have an entry, and how many entries they have
abbrev pub script_count : Project → ℕ
script_count P = sum_by (λ p. min (length_at P p) 1) (below (2 ^ P.k))

abbrev pub entry_count : Project → ℕ
entry_count P = sum_by (length_at P) (below (2 ^ P.k))

-- how often a script's entries refer to a word at most, by the limits of entries and of times
abbrev pub script_times : ℕ
script_times = script_entries * max_times

-- the first is hotter: of more processors; or of as many, with more references; or with as many, and a lower number
abbrev pub Hotter : Hot → Hot → Type 0
Hotter v w =
    (w.processors < v.processors)
    ⊎ ((v.processors ≡ w.processors) × ((w.references < v.references) ⊎ ((v.references ≡ w.references) × (v.number < w.number))))

-- a word or a module with its number among the processors and among the references that are counted
abbrev pub hot_at : List ℕ → List ℕ → ℕ → Hot
hot_at processors references n = record { number = n; processors = slice_index processors n; references = slice_index references n }

-- the hottest of those that are counted
abbrev pub IsHottest : List ℕ → List ℕ → Hot → Type 0
IsHottest processors references h =
    (h.number < length processors) × (h.processors ≡ slice_index processors h.number) × (h.references ≡ slice_index references h.number)
    × (0 < h.processors) × ((n : ℕ) → 0 < slice_index processors n → (n ≡ h.number) ⊎ Hotter h (hot_at processors references n))

-- the hottest ones, told as they are and the hottest first: eight of them, or all that are referred to
pub record AreHottest (hot : ℕ → Hot) (hots : List Hot) : Type 0 where
  pub few : length hots ≤ 8
  pub told : All (λ h. (h ≡ hot h.number) × (0 < h.processors)) hots
  pub ordered : AllPairs Hotter hots
  pub others : (n : ℕ) → 0 < (hot n).processors → Contains (map (λ h. h.number) hots) n ⊎ ((length hots ≡ 8) × All (λ h. Hotter h (hot n)) hots)

-- the hottest word of the scripts: a processor refers to it, and it is hotter than each other one to which a processor does; none where
-- there is no such word
abbrev pub IsHottestWord : Project → Option ℕ → Type 0
IsHottestWord P None = (n : ℕ) → (hot_of P Words n).processors ≡ 0
IsHottestWord P (Some w) =
    (0 < (hot_of P Words w).processors) × ((n : ℕ) → 0 < (hot_of P Words n).processors → (n ≡ w) ⊎ Hotter (hot_of P Words w) (hot_of P Words n))
