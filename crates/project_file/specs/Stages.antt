-- The key `combine`: which stages of the combining network combine.
use Rattle.std.specs.Prelude.{ℕ, ◌==◌, Bool, false, List, [], ◌∷◌, Result, Ok, is_some, option_and_then, unwrap_or}
use Rattle.toml.specs.Data.{Data, at, as_bool}
use Rattle.project_file.specs.declared.fault.ProjectFault.{ProjectFault}
use Rattle.project_file.specs.declared.fault.ProjectFault.TheVariants.{WrongType, Range}
use Rattle.project_file.specs.Fields.{◌>>=◌, check, all_items, count, array_in}

abbrev pub is_flag : Data → Bool
is_flag d = is_some (as_bool d)

-- the truth value of a stage, false where there is none
abbrev pub flag_at : Data → ℕ → Bool
flag_at d stage = unwrap_or (option_and_then as_bool (at stage d)) false

-- one truth value for each of the k stages; the others don't combine
abbrev pub combine_in : ℕ → Data → Result (List Bool) ProjectFault
combine_in k d = do
  ds ← array_in d
  _ ← check (all_items is_flag ds) WrongType
  _ ← check (count ds == k) Range
  Ok (flag_at d 0 ∷ flag_at d 1 ∷ flag_at d 2 ∷ flag_at d 3 ∷ flag_at d 4 ∷ flag_at d 5 ∷ [])
