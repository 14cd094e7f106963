-- For which processors an item of `script` is.
use Rattle.std.specs.Prelude.{ℕ, zero, suc, ◌+◌, ◌-◌, ◌^◌, ◌==◌, ◌&&◌, nat_le, nat_lt, Bool, true, false, if◌then◌else◌, List, [], ◌∷◌, ◌++◌, take, drop, Option, None, Some, option_and_then, Result, Ok, Err, codes, bytes_eq, is_none, is_some, ok_or, position, slice_index_or, slice_set}
use Rattle.std.specs.Option.{option_map}
use Rattle.toml.specs.Data.{Data, Members, as_integer, as_str, get_member}
use Rattle.line_words.specs.Words.{is_nonempty}
use Rattle.line_words.specs.Numbers.{number_of}
use Rattle.omega_net.specs.declared.script.ScriptEntry.{ScriptEntry}
use Rattle.project_file.specs.declared.fault.ProjectFault.{ProjectFault}
use Rattle.project_file.specs.declared.fault.ProjectFault.TheVariants.{WrongType, Range, Twice}
use Rattle.project_file.specs.declared.format.FileFormat.{FileFormat}
use Rattle.project_file.specs.Formats.{has_short_forms}
use Rattle.project_file.specs.Fields.{◌>>=◌, check, all_items, walk, array_in, required, number_in, number_at}

-- so many numbers from the first one on
abbrev pub numbers_from : ℕ → ℕ → List ℕ
numbers_from first zero = []
numbers_from first (suc n) = numbers_from first n ++ (first + n) ∷ []

-- what stands before the first dot of a text, and what behind it
abbrev pub cut_at_dot : List ℕ → Option (List ℕ × List ℕ)
cut_at_dot text = option_map (λ i. (take i text, drop (i + 1) text)) (position (λ b. b == 46) text)

-- the two numbers of a text A..B
abbrev pub both_numbers : List ℕ → List ℕ → Option (ℕ × ℕ)
both_numbers first last = option_and_then (λ a. option_map (λ b. (a, b)) (number_of last)) (number_of first)

abbrev pub ends_of : List ℕ → Option (ℕ × ℕ)
ends_of text = option_and_then (λ cut. option_and_then (λ rest. if is_nonempty rest.0 then None else both_numbers cut.0 rest.1) (cut_at_dot cut.1)) (cut_at_dot text)

-- the processors from one to another of 2^k, both included
abbrev pub processors_between : ℕ → ℕ × ℕ → Result (List ℕ) ProjectFault
processors_between k ends = do
  _ ← check (nat_le ends.0 ends.1 && nat_lt ends.1 (2 ^ k)) Range
  Ok (numbers_from ends.0 (ends.1 + 1 - ends.0))

-- the processors of a text, which is `all` or A..B
abbrev pub processors_named : ℕ → List ℕ → Result (List ℕ) ProjectFault
processors_named k text = if bytes_eq text (codes "all") then Ok (numbers_from 0 (2 ^ k)) else (ok_or (ends_of text) WrongType >>= processors_between k)

-- the processors of an array of their numbers
abbrev pub is_whole : Data → Bool
is_whole d = is_some (as_integer d)

abbrev pub with_processor : ℕ → List ℕ → Data → Result (List ℕ) ProjectFault
with_processor k ps d = do
  p ← number_in 0 (2 ^ k - 1) d
  Ok (ps ++ p ∷ [])

abbrev pub processors_listed : ℕ → Data → Result (List ℕ) ProjectFault
processors_listed k d = do
  ds ← array_in d
  _ ← check (all_items is_whole ds) WrongType
  walk (with_processor k) [] ds

-- the processors of the key `processors`: of a text, or else of an array
abbrev pub named_or_listed : ℕ → Data → Option (List ℕ) → Result (List ℕ) ProjectFault
named_or_listed k d (Some text) = processors_named k text
named_or_listed k d None = processors_listed k d

abbrev pub processors_in : ℕ → Data → Result (List ℕ) ProjectFault
processors_in k d = named_or_listed k d (as_str d)

-- an item with short forms is for several processors where it has no key `processor`
abbrev pub is_for_several : FileFormat → Members → Bool
is_for_several f ms = has_short_forms f && is_none (get_member (codes "processor") ms)

abbrev pub script_keys : Bool → List (List ℕ)
script_keys several = (if several then codes "processors" else codes "processor") ∷ codes "entries" ∷ []

-- the processors that an item is for
abbrev pub processors_of : Bool → ℕ → Members → Result (List ℕ) ProjectFault
processors_of several k ms =
    if several then (required (codes "processors") ms >>= processors_in k)
    else (number_at (codes "processor") 0 (2 ^ k - 1) ms >>= (λ p. Ok (p ∷ [])))

-- which processors were given, after these, each of which may be given once
abbrev pub each_given : List Bool → List ℕ → Result (List Bool) ProjectFault
each_given given [] = Ok given
each_given given (p ∷ ps) = if slice_index_or given p false then Err Twice else each_given (slice_set given p true) ps

-- the scripts where each of these processors has this one
abbrev pub each_set : List (List ScriptEntry) → List ℕ → List ScriptEntry → List (List ScriptEntry)
each_set scripts [] es = scripts
each_set scripts (p ∷ ps) es = each_set (slice_set scripts p es) ps es
