-- Rows with the cells that each has, from one list of all cells.
use Rattle.std.proofs.Common.{◌≡◌, ◌⊎◌, inl, inr, ℕ, ◌+◌, ◌-◌, List, [], ◌∷◌, ◌++◌, length, take, drop, min, map, refl, sym, ap, ap₂, ◌∙◌, arith}
use Rattle.std.specs.List.{flat_map}
use Rattle.std.proofs.lemmas.List.{append-nil, length-append, length-map}
use Rattle.svg_plots.specs.declared.map.CellGroup.{CellGroup}
use Rattle.svg_plots.specs.declared.map.CellRow.{CellRow}
use Rattle.run_reports.specs.declared.full_queues.PartQueue.{PartQueue}
use Rattle.lab_tasks.specs.declared.map_rows.MapRow.{MapRow}
use Rattle.lab_tasks.specs.declared.map_rows.RowGroup.{RowGroup}
use Rattle.lab_tasks.specs.MapRows.{cell_group, cell_row, group_label, queues_in, queues_of, row_label}
use Rattle.lab_tasks.specs.RowCells.{groups_with, rows_with}

-- what is made is all, once there are no rows left, or no cells
no_cells : (rs : List MapRow) → rows_with rs [] ≡ []
unfolding rows_with
no_cells [] = refl
no_cells (r ∷ rs) = refl

no_rows : (cs : List (List ℕ)) → rows_with [] cs ≡ []
unfolding rows_with
no_rows cs = refl

pub rows_end : (all made : List CellRow) (rs : List MapRow) (cs : List (List ℕ)) → (rs ≡ []) ⊎ (cs ≡ []) → all ≡ made ++ rows_with rs cs → made ≡ all
rows_end all made rs cs (inl none) is =
    sym (is ∙ ap (λ (xs : List MapRow). made ++ rows_with xs cs) none ∙ ap (λ (xs : List CellRow). made ++ xs) (no_rows cs) ∙ append-nil made)
rows_end all made rs cs (inr none) is =
    sym (is ∙ ap (λ (xs : List (List ℕ)). made ++ rows_with rs xs) none ∙ ap (λ (xs : List CellRow). made ++ xs) (no_cells rs) ∙ append-nil made)

module _ (cells : PartQueue → List ℕ) where
  of_row : MapRow → List ℕ
  of_row r = cells r.queue

  -- the cells of a group's rows stand first
  rows_are : (rs : List MapRow) (rest : List (List ℕ)) → rows_with rs (map cells (map (λ (r : MapRow). r.queue) rs) ++ rest) ≡ map (cell_row (λ r. cells r.queue)) rs
  unfolding rows_with
  rows_are [] rest = refl
  rows_are (r ∷ rs) rest = ap (λ (made : List CellRow). record { label = row_label r; cells = cells r.queue } ∷ made) (rows_are rs rest)

  -- and are dropped behind it
  abbrev shown : List MapRow → List (List ℕ) → List (List ℕ)
  shown rs rest = map cells (map (λ (r : MapRow). r.queue) rs) ++ rest

  long : (rs : List MapRow) (rest : List (List ℕ)) → length (shown rs rest) ≡ length rs + length rest
  long rs rest =
      length-append (map cells (map (λ (r : MapRow). r.queue) rs)) rest
      ∙ ap (λ (n : ℕ). n + length rest) (length-map (map (λ (r : MapRow). r.queue) rs) cells ∙ length-map rs (λ (r : MapRow). r.queue))

  dropped : (rs : List MapRow) (rest : List (List ℕ)) → drop (length rs) (shown rs rest) ≡ rest
  dropped [] rest = refl
  dropped (r ∷ rs) rest = dropped rs rest

  behind : (rs : List MapRow) (rest : List (List ℕ)) → drop (min (length (shown rs rest)) (length rs)) (shown rs rest) ≡ rest
  behind rs rest =
      let all : min (length (shown rs rest)) (length rs) ≡ length rs = omega (arith, long rs rest) in
      ap (λ (n : ℕ). drop n (shown rs rest)) all ∙ dropped rs rest

  split : (g : RowGroup) (gs : List RowGroup) → map cells (queues_in (g ∷ gs)) ≡ map cells (queues_of g) ++ map cells (queues_in gs)
  split g gs = spread (queues_of g) (queues_in gs)
    where
      spread : (xs ys : List PartQueue) → map cells (xs ++ ys) ≡ map cells xs ++ map cells ys
      spread [] ys = refl
      spread (x ∷ xs) ys = ap (λ (zs : List (List ℕ)). cells x ∷ zs) (spread xs ys)

  pub groups_are : (gs : List RowGroup) → groups_with gs (map cells (queues_in gs)) ≡ map (cell_group (λ r. cells r.queue)) gs
  unfolding groups_with
  groups_are [] = refl
  groups_are (g ∷ gs) =
      ap (λ (cs : List (List ℕ)). groups_with (g ∷ gs) cs) (split g gs)
      ∙ ap₂ (λ (rows : List CellRow) (made : List CellGroup). record { label = group_label g.stage; rows = rows } ∷ made)
      (rows_are g.rows (map cells (queues_in gs)))
      (ap (groups_with gs) (behind g.rows (map cells (queues_in gs))) ∙ groups_are gs)

-- the rows of a list of groups as they are drawn, where their cells are columns of their queues' lengths
pub drawn_rows : (length_of : PartQueue → List ℕ) (column : List ℕ → List ℕ) (wanted gs : List RowGroup) (qs : List PartQueue) (ls cs : List (List ℕ))
    (drawn : List CellGroup) → gs ≡ wanted → qs ≡ queues_in gs → ls ≡ map length_of qs → cs ≡ map column ls → drawn ≡ groups_with gs cs
    → drawn ≡ map (cell_group (λ r. column (length_of r.queue))) wanted
drawn_rows length_of column wanted gs qs ls cs drawn groups queues lengths cells is =
    is ∙ ap (groups_with gs) (cells ∙ ap (map column) (lengths ∙ ap (map length_of) queues) ∙ both (queues_in gs))
    ∙ groups_are (λ q. column (length_of q)) gs ∙ ap (map (cell_group (λ r. column (length_of r.queue)))) groups
  where
    both : (qs : List PartQueue) → map column (map length_of qs) ≡ map (λ q. column (length_of q)) qs
    both [] = refl
    both (q ∷ qs) = ap (λ (rest : List (List ℕ)). column (length_of q) ∷ rest) (both qs)
