-- What begins, and what stands by it.
use Rattle.std.specs.Prelude.{◌≡◌, ℕ, zero, suc, ◌+◌, ◌-◌, ◌<◌, ◌≤◌, min, cond, nat_le, nat_eq, ◌||◌, Bool, true, false, Option, None, List, [], ◌∷◌, length, slice_index_or}
use Rattle.change_lists.specs.declared.begun.Begun.{Begun}

-- what begins for a component, and how many changes more there is memory for
pub record Changes (V : Type 0) : Type 0 where
  pub begun : List (Begun V)
  pub room : ℕ

module _ {V : Type 0} where
  -- the value of the last of them that begins at cycle t or before, else o
  abbrev pub standing : List (Begun V) → ℕ → Option V → Option V
  standing [] t o = o
  standing (b ∷ rest) t o = standing rest t (cond (nat_le b.from t) b.value o)

  -- what stands before a cycle
  abbrev pub standing_before : List (Begun V) → ℕ → Option V
  standing_before begun zero = None
  standing_before begun (suc t) = standing begun t None

  -- whether one of them begins at a cycle
  abbrev pub begins : List (Begun V) → ℕ → Bool
  begins [] t = false
  begins (b ∷ rest) t = nat_eq b.from t || begins rest t

  -- whether the first of them does
  abbrev pub starts : List (Begun V) → ℕ → Bool
  starts [] t = false
  starts (b ∷ rest) t = nat_eq b.from t

  -- where the first of them begins, if before `to`, else that
  abbrev pub first_or : List (Begun V) → ℕ → ℕ
  first_or [] to = to
  first_or (b ∷ rest) to = min b.from to

  -- each begins later than the one before it, all from cycle `low` on and before `high`
  abbrev pub Rises : ℕ → List (Begun V) → ℕ → Type 0
  Rises low [] high = low ≤ high
  Rises low (b ∷ rest) high = (low ≤ b.from) × Rises (b.from + 1) rest high

  -- the first n of them begin before cycle t, and the others don't
  pub record IsPlace (begun : List (Begun V)) (t n : ℕ) : Type 0 where
    pub within : n ≤ length begun
    pub before : (k : ℕ) (d : Begun V) → k < n → (slice_index_or begun k d).from < t
    pub behind : (k : ℕ) (d : Begun V) → n ≤ k → k < length begun → t ≤ (slice_index_or begun k d).from

  -- from cycle `from` on and before `to` this value stands, and else what stood, but for the cycles from `end` on; and whether what stood
  -- begins at `to` again
  pub record IsWritten (old new : List (Begun V)) (from to end : ℕ) (value : Option V) (again : Bool) : Type 0 where
    pub here : (t : ℕ) → from ≤ t → t < to → standing new t None ≡ value
    pub earlier : (t : ℕ) → t < from → standing new t None ≡ standing old t None
    pub later : (t : ℕ) → to ≤ t → t < end → standing new t None ≡ standing old t None
    pub begin_again : begins new to ≡ (begins old to || again)
    pub begin_earlier : (t : ℕ) → t < from → begins new t ≡ begins old t
    pub begin_within : (t : ℕ) → from < t → t < to → begins new t ≡ false
    pub begin_later : (t : ℕ) → to < t → begins new t ≡ begins old t
    pub goes_on : again ≡ true → (to < end) × (begins old to ≡ false) × (standing new to None ≡ standing old (to - 1) None)

  -- nothing begins from cycle n on, and before it all stands as it stood
  pub record IsCut (old new : List (Begun V)) (n : ℕ) : Type 0 where
    pub earlier : (t : ℕ) → t < n → standing new t None ≡ standing old t None
    pub begin_earlier : (t : ℕ) → t < n → begins new t ≡ begins old t
    pub begin_later : (t : ℕ) → n ≤ t → begins new t ≡ false

  -- what there is of a component; nothing where there is no such one
  abbrev pub changes_at : List (Changes V) → ℕ → Changes V
  changes_at lists c = slice_index_or lists c (record { begun = []; room = 0 })

  abbrev pub list_at : List (Changes V) → ℕ → List (Begun V)
  list_at lists c = (changes_at lists c).begun

  abbrev pub room_at : List (Changes V) → ℕ → ℕ
  room_at lists c = (changes_at lists c).room

  -- the value that a cell holds, and what the cell a cycle before it holds
  abbrev pub held_at : List (Changes V) → ℕ → ℕ → Option V
  held_at lists c t = standing (list_at lists c) t None

  abbrev pub held_before : List (Changes V) → ℕ → ℕ → Option V
  held_before lists c t = standing_before (list_at lists c) t

  -- whether something begins at a cell
  abbrev pub begins_at : List (Changes V) → ℕ → ℕ → Bool
  begins_at lists c t = begins (list_at lists c) t
