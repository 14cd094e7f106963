-- States as words of 64 bits and a memory, which is what isn't in the words.
use Rattle.std.specs.Prelude.{◌≡◌, ◌≢◌, ℕ, List, [], Option, None}

pub record Codec (State Memory : Type 0) : Type 0 where
  -- the words of a state, and its memory, where it has any
  pub words : State → List ℕ
  pub memory : State → Option Memory
  -- the state that has these words and this memory; where none has them, some state
  pub state : List ℕ → Option Memory → State

module _ {State Memory : Type 0} (C : Codec State Memory) where
  -- its words and its memory tell the state, so no other one has the same; each state that a program has is told
  abbrev pub IsTold : State → Type 0
  IsTold x = C.state (C.words x) (C.memory x) ≡ x

  -- what every grid proves
  pub record CodecLaws : Type 0 where
    -- no state has no words
    pub some : (x : State) → C.words x ≢ []
    -- a state without a memory is told by its words alone, beside whatever memory they stand
    pub alone : (ws : List ℕ) (m n : Option Memory) → C.memory (C.state ws m) ≡ None → C.state ws m ≡ C.state ws n
