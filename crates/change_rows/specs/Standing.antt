-- What stands at a cycle, by what begins at each.
use Rattle.std.specs.Prelude.{ℕ, zero, suc, Option, unwrap_or, List, []}

-- the words that began last; none where none began
abbrev pub standing : (ℕ → Option (List ℕ)) → ℕ → List ℕ
standing begins zero = unwrap_or (begins zero) []
standing begins (suc t) = unwrap_or (begins (suc t)) (standing begins t)

-- what stands before a cycle
abbrev pub standing_before : (ℕ → Option (List ℕ)) → ℕ → List ℕ
standing_before begins zero = []
standing_before begins (suc t) = standing begins t
