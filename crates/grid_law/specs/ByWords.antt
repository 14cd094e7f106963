-- Next states by words.
use Rattle.std.specs.Prelude.{◌≡◌, ℕ, ◌<◌, All, map}
use Rattle.grid_law.specs.Rules.{Rules}
use Rattle.grid_law.specs.Codec.{Codec, IsTold}

module _ {State Memory : Type 0} (C : Codec State Memory) where
  -- two states that are told and have the same words
  pub record AreOfWords (x y : State) : Type 0 where
    pub told : IsTold C x
    pub other_told : IsTold C y
    pub words : C.words x ≡ C.words y

module _ {State Slots Slot Memory : Type 0} (R : Rules State Slots Slot) (C : Codec State Memory) where
  -- a component's next state hangs on the words of the states near it and, of their memories, on that of its own state alone
  abbrev pub IsByWords : Slots → Type 0
  IsByWords s = (xs ys : ℕ → State) (c : ℕ) → c < R.components s → All (λ d. AreOfWords C (xs d) (ys d)) (R.near s c)
      → C.memory (xs c) ≡ C.memory (ys c) → R.step s (map xs (R.near s c)) c ≡ R.step s (map ys (R.near s c)) c
