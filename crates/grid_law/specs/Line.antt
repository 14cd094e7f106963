-- What the cells of a line read, and how they start and step.
use Rattle.std.specs.Prelude.{◌≡◌, ℕ, ◌+◌, ◌-◌, ◌%◌, ◌^◌, ◌==◌, ◌&&◌, nat_lt, if◌then◌else◌, Bool, true, false, List, [], ◌∷◌, ◌++◌, length, slice_get, slice_index, sum, Option, None, Some, not, ◌||◌}
use Rattle.grid_law.specs.declared.numbers.Number.{Number}
use Rattle.grid_law.specs.declared.numbers.LineSlot.{LineSlot}
use Rattle.grid_law.specs.declared.numbers.LineSlot.TheVariants.{Seed, Add}
use Rattle.grid_law.specs.Numbers.{number_at, place_of, slot_value}
use Rattle.grid_law.specs.Rules.{Rules, reader_at}
use Rattle.grid_law.specs.Codec.{Codec}
use Rattle.grid_law.specs.declared.reader.Reader.{Reader}

-- the neighbours of c among n places, where there are any
abbrev pub left_of : ℕ → List ℕ
left_of c = if c == 0 then [] else (c - 1) ∷ []

abbrev pub right_of : ℕ → ℕ → List ℕ
right_of n c = if nat_lt (c + 1) n then (c + 1) ∷ [] else []

abbrev pub line_near : ℕ → ℕ → List ℕ
line_near n c = c ∷ (left_of c ++ right_of n c)

abbrev pub is_odd : ℕ → Bool
is_odd x = x % 2 == 1

-- which slot c reads: its seed at first, when it has no state yet, and later its addend where its state is odd
abbrev pub line_reads : Option ℕ → ℕ → LineSlot → Bool
line_reads None c (Seed k) = k == c
line_reads (Some own) c (Add k) = (k == c) && is_odd own
line_reads _ c slot = Bool.false

-- a seed may be read by its place at cycle 0, an addend by its place later
abbrev pub reader_of : LineSlot → Reader
reader_of (Seed k) = reader_at k true
reader_of (Add k) = reader_at k false

abbrev pub line_readers : ℕ → LineSlot → List Reader
line_readers n slot = if nat_lt (place_of slot) n then reader_of slot ∷ [] else []

-- an odd state takes its addend; an even one becomes the sum of the states nearby, its own among them
abbrev pub line_step : List Number → List ℕ → ℕ → ℕ
line_step numbers near c =
    if is_odd (slice_index near 0) then (slice_index near 0 + (number_at numbers c).add) % 2 ^ 32 else sum near % 2 ^ 32

-- whether what a place reads is the same in both, where its own state is that
abbrev pub same_read : Number → Number → Option ℕ → Bool
same_read a b None = a.seed == b.seed
same_read a b (Some own) = not (is_odd own) || (a.add == b.add)

abbrev pub line_rules : Rules ℕ (List Number) LineSlot
line_rules = record {
  components = length;
  near = λ s c. line_near (length s) c;
  reads = λ s near c slot. line_reads (slice_get near 0) c slot;
  always_reads = λ s c slot. Bool.false;
  readers = λ s slot. line_readers (length s) slot;
  start = λ s c. (number_at s c).seed;
  step = line_step;
  SameShape = λ a b. length a ≡ length b;
  SameAt = λ a b slot. slot_value a slot ≡ slot_value b slot;
}

-- a number is one word, and there is no memory
abbrev pub number_from : List ℕ → ℕ
number_from ws = slice_index ws 0 % 2 ^ 32

abbrev pub line_codec : Codec ℕ (Unit {0})
line_codec = record { words = λ x. x ∷ []; memory = λ x. None; state = λ ws memory. number_from ws }
