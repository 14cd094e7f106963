-- One column more of a list.
use Rattle.std.proofs.Common.{◌≡◌, ℕ, zero, suc, ◌+◌, ◌-◌, ◌<◌, ◌≤◌, min, List, [], ◌∷◌, ◌++◌, length, take, drop, refl, ap, sym, ◌∙◌, append_assoc, arith}
use Rattle.std.proofs.lemmas.List.{append-nil}
use Rattle.lab_tasks.specs.Columns.{columns_of}

module _ {A B : Type 0} (f : List A → B) (each : ℕ) where
  column_next : (n : ℕ) (xs : List A) → columns_of f each (suc n) xs ≡ f (take (min (length xs) each) xs) ∷ columns_of f each n (drop (min (length xs) each) xs)
  unfolding columns_of
  column_next n xs = refl

  no_columns : (xs : List A) → columns_of f each zero xs ≡ []
  unfolding columns_of
  no_columns xs = refl

  pub column_kept : (all out : List B) (i n «end» : ℕ) (rest : List A) (made : B) → i < n → «end» ≡ min (length rest) each → made ≡ f (take «end» rest)
      → all ≡ out ++ columns_of f each (n - i) rest → all ≡ (out ++ made ∷ []) ++ columns_of f each (n - (i + 1)) (drop «end» rest)
  column_kept all out i n «end» rest made l e is so_far =
      let left : n - i ≡ suc (n - (i + 1)) = omega arith in
      rw (is, e)
      (so_far ∙ ap (λ j. out ++ columns_of f each j rest) left ∙ ap (λ more. out ++ more) (column_next (n - (i + 1)) rest)
      ∙ sym (append_assoc out (f (take (min (length rest) each) rest) ∷ []) (columns_of f each (n - (i + 1)) (drop (min (length rest) each) rest))))

  pub columns_end : (all out : List B) (i n : ℕ) (rest : List A) → n ≤ i → all ≡ out ++ columns_of f each (n - i) rest → out ≡ all
  columns_end all out i n rest l so_far =
      let none : n - i ≡ 0 = omega arith in
      sym (so_far ∙ ap (λ j. out ++ columns_of f each j rest) none ∙ ap (λ more. out ++ more) (no_columns rest) ∙ append-nil out)
