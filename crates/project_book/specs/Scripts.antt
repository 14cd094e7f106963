-- The scripts, by processor.
use Rattle.std.specs.Prelude.{◌≡◌, ℕ, ◌+◌, ◌≤◌, ◌&&◌, nat_le, nat_lt, Bool, true, List, [], ◌∷◌, ◌++◌, length, take, drop, slice_index_or, slice_set, All}
use Rattle.omega_net.specs.declared.script.ScriptEntry.{ScriptEntry}
use Rattle.omega_net.specs.declared.script.ScriptEntry.TheVariants.{Reference, Until, Fence, Idle}
use Rattle.page_map.specs.Limits.{address_count}
use Rattle.project_book.specs.Limits.{script_entries, max_times}

-- a processor's script, empty where there is no such processor
abbrev pub script_of : List (List ScriptEntry) → ℕ → List ScriptEntry
script_of scripts p = slice_index_or scripts p []

-- a script with this entry at index i, which is within it or at its end
abbrev pub put_entry : List ScriptEntry → ℕ → ScriptEntry → List ScriptEntry
put_entry es i entry = take i es ++ entry ∷ drop (i + 1) es

-- no script has more entries than that
abbrev pub AreFew : ℕ → List (List ScriptEntry) → Type 0
AreFew most scripts = (p : ℕ) → length (script_of scripts p) ≤ most

-- the scripts where a processor's has this entry, or its first entries alone
abbrev pub with_entry : List (List ScriptEntry) → ℕ → ℕ → ScriptEntry → List (List ScriptEntry)
with_entry scripts p i entry = slice_set scripts p (put_entry (script_of scripts p) i entry)

abbrev pub with_cut : List (List ScriptEntry) → ℕ → ℕ → List (List ScriptEntry)
with_cut scripts p n = slice_set scripts p (take n (script_of scripts p))

-- whether an entry's address is there, if it names one
abbrev pub is_addressed : ScriptEntry → Bool
is_addressed (Reference sync op address times) = nat_lt address address_count
is_addressed (Until sync op address value times) = nat_lt address address_count
is_addressed Fence = true
is_addressed (Idle turns) = true

-- whether a reference may be issued so often, or an idle last so long
abbrev pub are_times : ℕ → Bool
are_times n = nat_le 1 n && nat_le n max_times

abbrev pub is_timed : ScriptEntry → Bool
is_timed (Reference sync op address times) = are_times times
is_timed (Until sync op address value times) = are_times times
is_timed Fence = true
is_timed (Idle turns) = are_times turns

-- an entry is within the limits, and so is a script
pub record IsEntry (entry : ScriptEntry) : Type 0 where
  pub addressed : is_addressed entry ≡ true
  pub timed : is_timed entry ≡ true

pub record IsScript (es : List ScriptEntry) : Type 0 where
  pub few : length es ≤ script_entries
  pub entries : All IsEntry es
