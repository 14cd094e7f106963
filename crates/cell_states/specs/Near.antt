-- Which components are near which, as a list for each.
use Rattle.std.specs.Prelude.{◌≡◌, ℕ, ◌<◌, ◌==◌, Bool, List, [], slice_index_or}
use Rattle.std.specs.List.{list_any}
use Rattle.grid_law.specs.Rules.{Rules}

-- some of the numbers is c
abbrev pub has : List ℕ → ℕ → Bool
has ms c = list_any (λ m. m == c) ms

-- the list of the components near one
abbrev pub near_at : List (List ℕ) → ℕ → List ℕ
near_at lists c = slice_index_or lists c []

module _ {State Slots Slot : Type 0} (R : Rules State Slots Slot) where
  -- for each component, the list has its near ones
  abbrev pub AreNear : Slots → List (List ℕ) → Type 0
  AreNear s lists = (c : ℕ) → c < R.components s → near_at lists c ≡ R.near s c

  -- a component, and those near it
  pub record IsNearOne (s : Slots) (c : ℕ) (near : List ℕ) : Type 0 where
    pub there : c < R.components s
    pub list : near ≡ R.near s c
