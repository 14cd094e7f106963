-- The columns of a map: one for each cycle of a window, or for several.
use Rattle.std.specs.Prelude.{ℕ, zero, suc, ◌+◌, ◌-◌, ◌/◌, min, max, nat_lt, if◌then◌else◌, Bool, List, [], ◌∷◌, length, take, drop}
use Rattle.std.specs.List.{fold, list_any}
use Rattle.experiments.specs.declared.map.Window.{Window}

-- how many cycles a column is of, so that there are at most 600 columns; how many columns there are
abbrev pub cycles_a_column : Window → ℕ
cycles_a_column w = (w.to - w.from) / 600 + 1

abbrev pub columns_in : Window → ℕ
columns_in w = (w.to - w.from) / cycles_a_column w + 1

-- what f says of each so many elements of a list, for n columns
unfoldable pub columns_of : {A B : Type 0} → (List A → B) → ℕ → ℕ → List A → List B
columns_of f each zero xs = []
columns_of f each (suc n) xs = f (take (min (length xs) each) xs) ∷ columns_of f each n (drop (min (length xs) each) xs)

-- the greatest number; whether one is so
abbrev pub greatest_of : List ℕ → ℕ
greatest_of ns = fold (λ most n. max most n) 0 ns

abbrev pub any_of : List Bool → Bool
any_of flags = list_any (λ flag. flag) flags

-- the columns of a window, of what there is at each of its cycles
abbrev pub greatest_columns : Window → List ℕ → List ℕ
greatest_columns w numbers = columns_of greatest_of (cycles_a_column w) (columns_in w) numbers

abbrev pub any_columns : Window → List Bool → List Bool
any_columns w flags = columns_of any_of (cycles_a_column w) (columns_in w) flags

-- how far a number is from the one in the middle; the first of those that are farthest from it, itself of none
abbrev pub distance : ℕ → ℕ → ℕ
distance middle n = (n - middle) + (middle - n)

abbrev pub farther : ℕ → ℕ → ℕ → ℕ
farther middle far n = if nat_lt (distance middle far) (distance middle n) then n else far

abbrev pub farthest_of : ℕ → List ℕ → ℕ
farthest_of middle ns = fold (farther middle) middle ns

abbrev pub farthest_columns : ℕ → Window → List ℕ → List ℕ
farthest_columns middle w numbers = columns_of (farthest_of middle) (cycles_a_column w) (columns_in w) numbers
