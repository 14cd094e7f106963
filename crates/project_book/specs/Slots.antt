-- What two projects have in common, slot by slot.
use Rattle.std.specs.Prelude.{◌≡◌, ◌≢◌, ◌⊎◌, ℕ, ◌+◌, ◌-◌, ◌<◌, List, length, slice_get, Some, AllPairs}
use Rattle.std.specs.List.{Contains}
use Rattle.project_book.specs.declared.slot.Slot.{Slot}
use Rattle.project_book.specs.declared.slot.Slot.TheVariants.{Shape, Entry, Word, Page, Depth, Wait, Combine, Window}
use Rattle.project_book.specs.Project.{Project, entry_at, word_of, page_of, depth_of, combines_at}

-- a slot has the same value in both
abbrev pub SameAt : Project → Project → Slot → Type 0
SameAt P Q Shape = P.k ≡ Q.k
SameAt P Q (Entry p i) = entry_at P p i ≡ entry_at Q p i
SameAt P Q (Word a) = word_of P a ≡ word_of Q a
SameAt P Q (Page g) = page_of P g ≡ page_of Q g
SameAt P Q (Depth q) = depth_of P q ≡ depth_of Q q
SameAt P Q Wait = P.wait ≡ Q.wait
SameAt P Q (Combine s) = combines_at P s ≡ combines_at Q s
SameAt P Q Window = P.window ≡ Q.window

-- `touched`: both are of one shape, and the slots listed are those whose values differ, each once
pub record Touches (P Q : Project) (slots : List Slot) : Type 0 where
  pub shape : P.k ≡ Q.k
  pub complete : (slot : Slot) → (Contains slots slot → ⊥) → SameAt P Q slot
  pub exact : (slot : Slot) → Contains slots slot → SameAt P Q slot → ⊥
  pub once : AllPairs (λ a b. a ≢ b) slots

-- both are of one shape, and each slot but this one has the same value in both
pub record DifferAtMost (P Q : Project) (slot : Slot) : Type 0 where
  pub shape : P.k ≡ Q.k
  pub others : (other : Slot) → (other ≡ slot) ⊎ SameAt P Q other

-- the entries of a processor's script from one index to another
pub record AreEntries (proc from to : ℕ) (slots : List Slot) : Type 0 where
  pub count : length slots ≡ to - from
  pub each : (i : ℕ) → i < to - from → slice_get slots i ≡ Some (Entry proc (from + i))
