-- One element more of a list, with its place.
use Rattle.std.proofs.Common.{◌≡◌, ℕ, zero, suc, ◌+◌, ◌<◌, List, [], ◌∷◌, ◌++◌, length, get_or, take, ap, sym, ◌∙◌, append_assoc, add-one, arith}
use Rattle.std.proofs.lemmas.List.{append-nil}
use Rattle.svg_plots.specs.Lists.{each_from}

module _ {A B : Type 0} (f : ℕ → A → List B) where
  each_cut : (xs : List A) (i n j : ℕ) (d : A) → i < length xs → j ≡ n + i → each_from f n (take i xs) ++ f j (get_or xs i d) ≡ each_from f n (take (suc i) xs)
  each_cut [] i n j d l e = absurd (omega arith)
  each_cut (x ∷ xs) zero n j d l e =
      let same : j ≡ n = omega arith in
      ap (λ k. f k x) same ∙ sym (append-nil (f n x))
  each_cut (x ∷ xs) (suc i) n j d l e =
      append_assoc (f n x) (each_from f (n + 1) (take i xs)) (f j (get_or xs i d)) ∙ ap (λ ys. f n x ++ ys) (each_cut xs i (n + 1) j d (omega arith) (omega arith))

  -- a loop's step: the list so far, and what one element more adds to it
  pub each_kept : (bs : List B) (xs : List A) (i n j : ℕ) (d : A) (before after : List B) → i < length xs → j ≡ n + i
      → before ≡ bs ++ each_from f n (take i xs) → after ≡ before ++ f j (get_or xs i d) → after ≡ bs ++ each_from f n (take (i + 1) xs)
  each_kept bs xs i n j d before after l e so_far more =
      more ∙ ap (λ ys. ys ++ f j (get_or xs i d)) so_far ∙ append_assoc bs (each_from f n (take i xs)) (f j (get_or xs i d))
      ∙ ap (λ ys. bs ++ ys) (rw add-one (each_cut xs i n j d l e))

  -- the same for an element that owns memory
  pub each_item : (bs : List B) (xs : List A) (i n j : ℕ) (x : A) (before after : List B) → i < length xs → j ≡ n + i → x ≡ get_or xs i x
      → before ≡ bs ++ each_from f n (take i xs) → after ≡ before ++ f j x → after ≡ bs ++ each_from f n (take (i + 1) xs)
  each_item bs xs i n j x before after l e is so_far more =
      each_kept bs xs i n j x before after l e so_far (more ∙ ap (λ y. before ++ f j y) is)
