-- A row that is put from a source: what each step finds, and what it leaves.
use Rattle.std.specs.Prelude.{◌≡◌, ℕ, ◌+◌, ◌<◌, ◌≤◌, Bool, true, false, unwrap_or, List, length, slice_index_or}
use Rattle.change_rows.specs.declared.changes.Changes.{Changes}
use Rattle.change_rows.specs.declared.kinds.Kinds.{Kinds}
use Rattle.change_rows.specs.declared.notes.Notes.{Notes}
use Rattle.change_rows.specs.Cells.{Held, found, end_of}
use Rattle.change_rows.specs.Marks.{is_in}
use Rattle.change_rows.specs.Standing.{standing, standing_before}
use Rattle.change_rows.specs.Changes.{begins_at}
use Rattle.change_rows.specs.Laid.{IsOver, IsTold}
use Rattle.change_rows.specs.Kinds.{HasRoom, IsSorted, IsNoted, IsRowLaid, GoOn}

-- the notes have room for all components, and are true at row `at`
pub record AreNotes (s : Changes) (n : Notes) : Type 0 where
  pub room : HasRoom s.width n
  pub noted : IsNoted s.rows.items s.seam s.at s.width n

-- one of so many components, and of a set
pub record IsMember (width : ℕ) (set : List ℕ) (c : ℕ) : Type 0 where
  pub component : c < width
  pub member : is_in set c ≡ true

-- a step from one component to a later one, no further than behind the last
pub record IsFurther (width c next : ℕ) : Type 0 where
  pub further : c < next
  pub within : next ≤ width

-- row t can be put from a source: it has the words of a set's components, and of those that are still what stands before the row
pub record CanPut (s : Changes) (t : ℕ) (set : List ℕ) (gives : ℕ → Type 0) (rests : ℕ → Bool) (words : ℕ → List ℕ) : Type 0 where
  pub row : t < length s.rows.items
  pub has : (c : ℕ) → c < s.width → is_in set c ≡ true → gives c
  pub still : (c : ℕ) → c < s.width → is_in set c ≡ true → rests c ≡ true → words c ≡ standing_before (begins_at s.rows.items s.seam s.at c) t

-- a source has the words of a component, and they stand before row `at`
pub record IsStill (s : Changes) (c : ℕ) (gives : ℕ → Type 0) (words : ℕ → List ℕ) : Type 0 where
  pub component : c < s.width
  pub has : gives c
  pub still : words c ≡ standing_before (begins_at s.rows.items s.seam s.at c) s.at

-- row `at` can be laid of a set's components: those that may have moved are among them, and a source has their words
pub record CanLay (s : Changes) (k : Kinds) (laid : List ℕ) (gives : ℕ → Type 0) : Type 0 where
  pub sorted : IsSorted s k
  pub among : (d : ℕ) → d < s.width → is_in k.moved.items d ≡ true → is_in laid d ≡ true
  pub has : (d : ℕ) → d < s.width → is_in k.moved.items d ≡ true → gives d

-- the next cell of a row: behind all others, and its first word has a place
pub record IsNext (width c : ℕ) (row : List Held) (heads : List ℕ) : Type 0 where
  pub component : c < width
  pub ascending : end_of row ≤ c
  pub room : c < length heads

-- tells whether a component holds other words at row `at`
pub record TellsOther (s : Changes) (c : ℕ) (words : List ℕ) (told : Bool) : Type 0 where
  pub other : told ≡ true → standing (begins_at s.rows.items s.seam s.at c) s.at ≡ words → ⊥
  pub same : told ≡ false → standing (begins_at s.rows.items s.seam s.at c) s.at ≡ words

-- tells whether a component may have moved, and holds other words at row `at`
pub record TellsMoved (s : Changes) (moved : List ℕ) (c : ℕ) (words : List ℕ) (told : Bool) : Type 0 where
  pub other : told ≡ true → (is_in moved c ≡ true) × (standing (begins_at s.rows.items s.seam s.at c) s.at ≡ words → ⊥)
  pub same : told ≡ false → is_in moved c ≡ true → standing (begins_at s.rows.items s.seam s.at c) s.at ≡ words

-- a cell is laid behind all others of a row: its words where it may have moved, else what begins there
pub record IsOneLaid (s : Changes) (moved : List ℕ) (c : ℕ) (words : List ℕ) (row row1 : List Held) : Type 0 where
  pub kept : is_in moved c ≡ true → unwrap_or (found row1 c) (standing_before (begins_at s.rows.items s.seam s.at c) s.at) ≡ words
  pub begun : is_in moved c ≡ false → found row1 c ≡ begins_at s.rows.items s.seam s.at c s.at
  pub others : (d : ℕ) → (d ≡ c → ⊥) → found row1 d ≡ found row d
  pub end : end_of row1 ≤ c + 1

-- a row is laid of the components of a set below p, and those of them are told that moved and hold other words
pub record IsLaidTo (s : Changes) (moved laid : List ℕ) (words : ℕ → List ℕ) (p : ℕ) (cells : List Held) (other : List ℕ) : Type 0 where
  pub row : IsRowLaid s.rows.items s.seam s.at moved laid words p cells
  pub told : IsTold s.rows.items s.seam s.at s.at moved words p other

-- a row is laid from a source, with the seam behind it, and what is to be noted of both
pub record IsLaidFrom (s : Changes) (set : List ℕ) (words : ℕ → List ℕ) (moved changed : List ℕ) (row seam : List Held) (n : Notes) : Type 0 where
  pub over : IsOver s.rows.items s.seam s.at s.at s.width set words row seam
  pub heads : (c : ℕ) → c < s.width → is_in moved c ≡ true → slice_index_or n.heads.items c 0 ≡ slice_index_or (words c) 0 0
  pub kept : GoOn s.rows.items s.at s.width changed n.kept.items

-- the first word of a component is kept, and all else that is noted stays
pub record IsHeadKept (c : ℕ) (words : List ℕ) (n n1 : Notes) : Type 0 where
  pub kept : slice_index_or n1.heads.items c 0 ≡ slice_index_or words 0 0
  pub others : (d : ℕ) → (d ≡ c → ⊥) → (is_in n1.known.items d ≡ is_in n.known.items d) × (slice_index_or n1.heads.items d 0 ≡ slice_index_or n.heads.items d 0)
  pub apart : n1.apart.items ≡ n.apart.items
  pub other : n1.other.items ≡ n.other.items
  pub room : (width : ℕ) → HasRoom width n → HasRoom width n1

-- of what is noted only first words of components that may have moved are others
pub record StaysNoted (width : ℕ) (moved : List ℕ) (n n1 : Notes) : Type 0 where
  pub room : HasRoom width n1
  pub apart : n1.apart.items ≡ n.apart.items
  pub known : n1.known.items ≡ n.known.items
  pub others : (c : ℕ) → is_in moved c ≡ false → slice_index_or n1.heads.items c 0 ≡ slice_index_or n.heads.items c 0

-- all that is noted stays
pub record IsNotedAs (n n1 : Notes) : Type 0 where
  pub apart : n1.apart.items ≡ n.apart.items
  pub known : n1.known.items ≡ n.known.items
  pub heads : n1.heads.items ≡ n.heads.items
