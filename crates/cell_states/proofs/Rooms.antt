-- A list of versions and rooms, one row of which is another.
use Rattle.std.proofs.Common.{◌≡◌, ℕ, zero, suc, ◌<◌, ◌≤◌, ◌∙◌, sym, ap, refl, arith, ◌⊎◌, inl, inr, List, [], ◌∷◌, ◌++◌, length, take, drop, get_or}
use Rattle.std.proofs.Math.ListN.{set, length-set}
use Rattle.std.proofs.lemmas.Bool.{cases_lt, cases_eq}
use Rattle.std.proofs.lemmas.List.{get_or-map, length-map, get_or_past, take_all, drop_all, append-nil, get_or-set_same, get_or-set_other}
use Rattle.cell_states.specs.Versions.{VersionRow, lists, room_at, version_at, IsOtherRow}

-- of a place that is there, whatever stands for one that isn't
pub same_get : {X : Type 0} (xs : List X) (i : ℕ) (d e : X) → i < length xs → get_or xs i d ≡ get_or xs i e
same_get [] i d e h = absurd (omega (arith, h))
same_get (x ∷ xs) zero d e h = refl
same_get (x ∷ xs) (suc i) d e h = same_get xs i d e (omega (arith, h))

-- what a write through a slice leaves of a list, of which it keeps the length
pub written_back : {X : Type 0} (items news : List X) (len : ℕ) → length items ≡ len → length news ≡ len → take len (news ++ drop (length news) items) ≡ news
written_back items news len e f =
    ap (λ xs. take len (news ++ xs)) (drop_all (length news) items (omega (arith, e, f)))
    ∙ ap (take len) (append-nil news)
    ∙ take_all len news (omega (arith, f))

abbrev pub no_row : VersionRow
no_row = record { at = []; room = 0 }

pub length_lists : (rows : List VersionRow) → length (lists rows) ≡ length rows
length_lists rows = length-map rows (λ (row : VersionRow). row.at)

-- the versions of a row are those of the list
pub list_at : (rows : List VersionRow) (u : ℕ) → get_or (lists rows) u [] ≡ (get_or rows u no_row).at
list_at rows u = by_place (cases_lt u (length rows))
  where
    by_place : (u < length rows) ⊎ (length rows ≤ u) → get_or (lists rows) u [] ≡ (get_or rows u no_row).at
    by_place (inl h) = get_or-map (λ (row : VersionRow). row.at) rows u no_row [] h
    by_place (inr h) =
        get_or_past (lists rows) u [] (omega (arith, h, length_lists rows)) ∙ sym (ap (λ (row : VersionRow). row.at) (get_or_past rows u no_row h))

module _ (rows : List VersionRow) (t : ℕ) (there : t < length rows) where
  -- what stands in a row that was lent
  pub lent_at : (was d : VersionRow) → was ≡ get_or rows t d → was.at ≡ get_or (lists rows) t []
  lent_at was d e = ap (λ (row : VersionRow). row.at) (e ∙ same_get rows t d no_row there) ∙ sym (list_at rows t)

  pub lent_room : (was d : VersionRow) → was ≡ get_or rows t d → was.room ≡ room_at rows t
  lent_room was d e = ap (λ (row : VersionRow). row.room) (e ∙ same_get rows t d no_row there)

  module _ (row : VersionRow) where
    pub list_here : get_or (lists (set rows t row)) t [] ≡ row.at
    list_here = list_at (set rows t row) t ∙ ap (λ (r : VersionRow). r.at) (get_or-set_same rows t row no_row there)

    list_there : (u : ℕ) → (u ≡ t → ⊥) → get_or (lists (set rows t row)) u [] ≡ get_or (lists rows) u []
    list_there u ne =
        list_at (set rows t row) u ∙ ap (λ (r : VersionRow). r.at) (get_or-set_other rows t u row no_row ne) ∙ sym (list_at rows u)

    -- it has as many versions as the one before
    pub other_row : length row.at ≡ length (get_or (lists rows) t []) → IsOtherRow rows (set rows t row) t
    other_row wide = record {
      len = length_lists (set rows t row) ∙ length-set rows t row ∙ sym (length_lists rows);
      lens = λ u. lens u (cases_eq u t);
      others = λ u c ne. ap (λ vs. get_or vs c 0) (list_there u ne);
      rooms = λ u ne. ap (λ (r : VersionRow). r.room) (get_or-set_other rows t u row no_row ne);
    }
      where
        lens : (u : ℕ) → (u ≡ t) ⊎ (u ≡ t → ⊥) → length (get_or (lists (set rows t row)) u []) ≡ length (get_or (lists rows) u [])
        lens u (inl e) = ap (λ i. length (get_or (lists (set rows t row)) i [])) e ∙ ap length list_here ∙ wide ∙ ap (λ i. length (get_or (lists rows) i [])) (sym e)
        lens u (inr ne) = ap length (list_there u ne)
