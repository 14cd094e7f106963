-- All values, one after another.
use Rattle.std.proofs.Common.{◌≡◌, ℕ, ◌+◌, ◌<◌, ◌≤◌, List, [], ◌∷◌, ◌++◌, length, map, get_or, drop, refl, sym, ap, ◌∙◌, append_assoc, append-nil}
use Rattle.std.specs.Prelude.{Option, Some, None, option_map}
use Rattle.std.proofs.lemmas.List.{drop_more, at_drop_all}
use Rattle.edit_templates.specs.Templates.{all_of}

module _ {A B : Type 0} (f : A → Option B) where
  -- what was made, with what is made of the rest
  abbrev pub with_rest : List B → List A → Option (List B)
  with_rest made rest = option_map (λ more. made ++ more) (all_of (map f rest))

  at_head : (x : A) (o : Option B) (rest : List A) → f x ≡ o → all_of (map f (x ∷ rest)) ≡ all_of (o ∷ map f rest)
  at_head x o rest e = ap (λ (p : Option B). all_of (p ∷ map f rest)) e

  pub none-next : (xs : List A) (i : ℕ) (d : A) (made : List B) (t : Option (List B)) → i < length xs → f (get_or xs i d) ≡ None → t ≡ with_rest made (drop i xs) → t ≡ None
  none-next xs i d made t lt none so =
      so ∙ ap (with_rest made) (drop_more xs i d lt) ∙ ap (option_map (λ more. made ++ more)) (at_head (get_or xs i d) None (drop (i + 1) xs) none)

  pushed : (made : List B) (b : B) (o : Option (List B)) → option_map (λ more. made ++ more) (option_map (λ more. b ∷ more) o) ≡ option_map (λ more. (made ++ b ∷ []) ++ more) o
  pushed made b None = refl
  pushed made b (Some more) = ap Some (sym (append_assoc made (b ∷ []) more))

  pub some-next : (xs : List A) (i : ℕ) (d : A) (b : B) (made : List B) (t : Option (List B)) → i < length xs → f (get_or xs i d) ≡ Some b → t ≡ with_rest made (drop i xs)
      → t ≡ with_rest (made ++ b ∷ []) (drop (i + 1) xs)
  some-next xs i d b made t lt some so =
      so ∙ ap (with_rest made) (drop_more xs i d lt) ∙ ap (option_map (λ more. made ++ more)) (at_head (get_or xs i d) (Some b) (drop (i + 1) xs) some)
      ∙ pushed made b (all_of (map f (drop (i + 1) xs)))

  pub none-left : (xs : List A) (i : ℕ) (made : List B) (t : Option (List B)) → length xs ≤ i → t ≡ with_rest made (drop i xs) → t ≡ Some made
  none-left xs i made t le so = so ∙ at_drop_all (with_rest made) xs i le ∙ ap Some (append-nil made)
