-- The words of messages behind one another.
use Rattle.std.proofs.Common.{◌≡◌, ℕ, List, [], ◌∷◌, ◌++◌, refl, ap, ◌∙◌, All, Option, None, Some}
use Rattle.std.specs.Prelude.{option_to_list}
use Rattle.std.proofs.lemmas.List.Elements.{All-nil, All-cons, All-append}
use Rattle.state_words.specs.Fits.{IfThere}
use Rattle.state_words.specs.Messages.{message_words}

module _ {T : Type 0} (first second : T → ℕ) where
  words_behind : (xs ys : List T) (rest : List ℕ) → message_words first second (xs ++ ys) rest ≡ message_words first second xs (message_words first second ys rest)
  words_behind [] ys rest = refl
  words_behind (x ∷ xs) ys rest = ap (λ ws. first x ∷ second x ∷ ws) (words_behind xs ys rest)

  pub words_after : (xs ys zs : List T) (rest : List ℕ) → message_words first second (xs ++ ys ++ zs) rest ≡ message_words first second xs (message_words first second ys (message_words first second zs rest))
  words_after xs ys zs rest = words_behind (xs ++ ys) zs rest ∙ words_behind xs ys (message_words first second zs rest)

-- those that stay and those that come fit
module _ {T : Type 0} (Is : T → Type 0) where
  one_fits : (o : Option T) → IfThere Is o → All Is (option_to_list o)
  one_fits None h = All-nil Is
  one_fits (Some m) h = All-cons Is m [] h (All-nil Is)

  pub waiting_fit : (xs : List T) (first second : Option T) → All Is xs → IfThere Is first → IfThere Is second → All Is (xs ++ option_to_list first ++ option_to_list second)
  waiting_fit xs first second all one two =
      All-append Is (xs ++ option_to_list first) (option_to_list second) (All-append Is xs (option_to_list first) all (one_fits first one)) (one_fits second two)
