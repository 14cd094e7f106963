-- How the keys of a table are read, with the first fault that is met.
use Rattle.std.specs.Prelude.{◌≡◌, ◌≢◌, ℕ, suc, ℤ, pos, negsuc, ◌&&◌, nat_le, Bool, true, if◌then◌else◌, List, Option, None, Some, Result, Ok, Err, is_some, ok_or, bytes_eq}
use Rattle.std.specs.List.{list_any}
use Rattle.toml.specs.Data.{Data, Items, no_items, item, Members, no_members, member, get_member, as_integer, as_array, as_table}
use Rattle.project_file.specs.declared.fault.ProjectFault.{ProjectFault}
use Rattle.project_file.specs.declared.fault.ProjectFault.TheVariants.{UnknownKey, Missing, WrongType, Range, Memory}

infixl 10 ◌>>=◌
abbrev pub ◌>>=◌ : {A B : Type 0} → Result A ProjectFault → (A → Result B ProjectFault) → Result B ProjectFault
(Ok x) >>= f = f x
(Err e) >>= f = Err e

-- what a function returned, seen by view, is what reading gives
abbrev pub Reads : {X Y : Type 0} → (X → Y) → Result X ProjectFault → Result Y ProjectFault → Type 0
Reads view (Ok x) read = read ≡ Ok (view x)
Reads view (Err e) read = read ≡ Err e

-- the same, unless memory ran out
abbrev pub Gives : {X Y : Type 0} → (X → Y) → Result X ProjectFault → Result Y ProjectFault → Type 0
Gives view (Ok x) read = read ≡ Ok (view x)
Gives view (Err e) read = e ≢ Memory → read ≡ Err e

-- Ok where a test passes, and this fault where it doesn't
abbrev pub check : Bool → ProjectFault → Result (Unit {0}) ProjectFault
check passes fault = if passes then Ok tt else Err fault

-- whether each item passes a test
abbrev pub all_items : (Data → Bool) → Items → Bool
all_items test no_items = true
all_items test (item d ds) = test d && all_items test ds

-- how many items there are
abbrev pub count : Items → ℕ
count no_items = 0
count (item d ds) = suc (count ds)

-- what the items make of a value, one after the other
abbrev pub walk : {S : Type 0} → (S → Data → Result S ProjectFault) → S → Items → Result S ProjectFault
walk step s no_items = Ok s
walk step s (item d ds) = step s d >>= (λ t. walk step t ds)

-- the items of an array, and the members of a table
abbrev pub array_in : Data → Result Items ProjectFault
array_in d = ok_or (as_array d) WrongType

abbrev pub table_in : Data → Result Members ProjectFault
table_in d = ok_or (as_table d) WrongType

-- the items of an array of tables
abbrev pub is_table : Data → Bool
is_table d = is_some (as_table d)

abbrev pub tables_in : Data → Result Items ProjectFault
tables_in d = do
  ds ← array_in d
  _ ← check (all_items is_table ds) WrongType
  Ok ds

-- a table has no other keys than these
abbrev pub known : List (List ℕ) → Members → Result (Unit {0}) ProjectFault
known keys no_members = Ok tt
known keys (member k d ms) = if list_any (bytes_eq k) keys then known keys ms else Err UnknownKey

-- the value of a key
abbrev pub required : List ℕ → Members → Result Data ProjectFault
required key ms = ok_or (get_member key ms) Missing

-- what reading gives for a key's value, or what stands for an absent key
abbrev pub read_or : {A : Type 0} → (Data → Result A ProjectFault) → A → Option Data → Result A ProjectFault
read_or read absent None = Ok absent
read_or read absent (Some d) = read d

abbrev pub optional : {A : Type 0} → List ℕ → (Data → Result A ProjectFault) → A → Members → Result A ProjectFault
optional key read absent ms = read_or read absent (get_member key ms)

-- a whole number from least to most
abbrev pub within : ℕ → ℕ → ℤ → Result ℕ ProjectFault
within least most (pos n) = if nat_le least n && nat_le n most then Ok n else Err Range
within least most (negsuc n) = Err Range

abbrev pub number_in : ℕ → ℕ → Data → Result ℕ ProjectFault
number_in least most d = ok_or (as_integer d) WrongType >>= within least most

-- the whole number of a key
abbrev pub number_at : List ℕ → ℕ → ℕ → Members → Result ℕ ProjectFault
number_at key least most ms = required key ms >>= number_in least most
