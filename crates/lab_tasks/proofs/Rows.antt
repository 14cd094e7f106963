-- The rows behind a setting.
use Rattle.std.proofs.Common.{◌≡◌, List, [], ◌∷◌, map, refl, ap, ◌∙◌}
use Rattle.std.specs.List.{flat_map}

module _ {R S : Type 0} (items : R → List S) where
  map_behind : (s : S) (rows : List R) → map (λ row. s ∷ items row) rows ≡ map (λ row. s ∷ row) (map items rows)
  map_behind s [] = refl
  map_behind s (row ∷ rows) = ap (λ more. (s ∷ items row) ∷ more) (map_behind s rows)

  -- each setting before each row, by the rows' items
  pub all_behind : (settings : List S) (rows : List R) → flat_map (λ s. map (λ row. s ∷ items row) rows) settings ≡ flat_map (λ s. map (λ row. s ∷ row) (map items rows)) settings
  all_behind [] rows = refl
  all_behind (s ∷ settings) rows = rw (map_behind s rows, all_behind settings rows) refl

  -- the rows by those of the queues behind
  pub rows_by : (settings : List S) (rows : List R) (below : List (List S)) → map items rows ≡ below
      → flat_map (λ s. map (λ row. s ∷ items row) rows) settings ≡ flat_map (λ s. map (λ row. s ∷ row) below) settings
  rows_by settings rows below e = all_behind settings rows ∙ ap (λ (b : List (List S)). flat_map (λ s. map (λ row. s ∷ row) b) settings) e
