-- The versions of the cells of a cycle: those that stand, or that follow from which components changed one cycle earlier.
use Rattle.std.specs.Prelude.{◌≡◌, ℕ, zero, suc, ◌+◌, ◌&&◌, ◌||◌, if◌then◌else◌, Bool, false, Option, None, Some, List, [], ◌∷◌, length, map, take, replicate, slice_index_or}
use Rattle.std.specs.List.{range_with_len}
use Rattle.cell_marks.specs.Marked.{count_in}
use Rattle.cell_states.specs.Near.{has, near_at}
use Rattle.cell_states.specs.Filling.{is_awake}

-- the versions of so many components: one each, or one that all of them have
abbrev pub versions_of : ℕ → ℕ → List ℕ → List ℕ
versions_of count all [] = replicate count all
versions_of count all (first ∷ others) = first ∷ others

-- those of one each are as many as there are components; there may be none, and then all have one version
abbrev pub IsEach : ℕ → List ℕ → Type 0
IsEach count [] = Unit {0}
IsEach count (first ∷ others) = length (first ∷ others) ≡ count

-- the versions of the components at one cycle, and for how many of them there is room to have one each
pub record VersionRow : Type 0 where
  pub at : List ℕ
  pub room : ℕ

-- the versions, row by row
abbrev pub lists : List VersionRow → List (List ℕ)
lists rows = map (λ (row : VersionRow). row.at) rows

-- for how many components there is room at a cycle
abbrev pub room_at : List VersionRow → ℕ → ℕ
room_at rows t = (slice_index_or rows t (record { at = []; room = 0 })).room

-- the version of a cell
abbrev pub version_at : List (List ℕ) → ℕ → ℕ → ℕ
version_at versions t c = slice_index_or (slice_index_or versions t []) c 0

-- some of the first n components changes, and is one of these
abbrev pub any_changes : List Bool → List ℕ → ℕ → Bool
any_changes changes near zero = false
any_changes changes near (suc n) = (is_awake changes n && has near n) || any_changes changes near n

-- the version of a cell near these, of whose components the first n that changed were stored in turn, the clock being `clock` before
abbrev pub version_by : List Bool → List ℕ → ℕ → ℕ → ℕ → ℕ
version_by changes near clock was zero = was
version_by changes near clock was (suc n) =
    if is_awake changes n && has near n then clock + (count_in (take n changes) + 1) else version_by changes near clock was n

-- the versions of a cycle: those that stand, or, where the near components of each are known, those that follow from the changes
abbrev pub shown : Option (List (List ℕ)) → List Bool → ℕ → List ℕ → List ℕ
shown None changes clock standing = standing
shown (Some near) changes clock standing =
    map (λ c. version_by changes (near_at near c) clock (slice_index_or standing c 0) (length changes)) (range_with_len 0 (length standing))

-- at the other cycles stands what stood there, and at each as much
pub record IsOtherRow (olds news : List VersionRow) (t : ℕ) : Type 0 where
  pub len : length (lists news) ≡ length (lists olds)
  pub lens : (u : ℕ) → length (slice_index_or (lists news) u []) ≡ length (slice_index_or (lists olds) u [])
  pub others : (u c : ℕ) → (u ≡ t → ⊥) → version_at (lists news) u c ≡ version_at (lists olds) u c
  pub rooms : (u : ℕ) → (u ≡ t → ⊥) → room_at news u ≡ room_at olds u
