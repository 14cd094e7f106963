-- Entries that are repeated where there are none, or no room.
use Rattle.std.proofs.Common.{◌≡◌, ℕ, zero, suc, Bool, true, false, cond, List, [], ◌∷◌, ◌++◌, length, arith, refl, append-nil}
use Rattle.std.specs.Prelude.{nat_le}
use Rattle.omega_net.specs.declared.script.ScriptEntry.{ScriptEntry}
use Rattle.project_book.specs.Limits.{script_entries}
use Rattle.project_file.specs.Expanding.{repeated}

behind_nothing : (room : Bool) (es : List ScriptEntry) → cond room (es ++ []) es ≡ es
behind_nothing true es = append-nil es
behind_nothing false es = refl

repeated_nothing : (n : ℕ) (es : List ScriptEntry) → repeated n [] es ≡ es
repeated_nothing zero es = refl
repeated_nothing (suc n) es = rw (repeated_nothing n es) (behind_nothing (nat_le (length es) script_entries) es)

pub repeated_none : (n : ℕ) (more es : List ScriptEntry) → length more ≡ 0 → repeated n more es ≡ es
repeated_none n [] es none = repeated_nothing n es
repeated_none n (m ∷ more) es none = absurd (omega arith)

pub repeated_full : (n : ℕ) (more es : List ScriptEntry) → nat_le (length es) script_entries ≡ false → repeated n more es ≡ es
repeated_full zero more es full = refl
repeated_full (suc n) more es full = rw (repeated_full n more es full, full)
