-- Versions of a table's cells that follow from what is noted, or are let go.
use Rattle.std.proofs.Common.{◌≡◌, ℕ, ◌<◌, ◌≤◌, ◌∙◌, sym, ap, refl, arith, Bool, true, false, eq-eqb, ◌&&◌, ◌||◌, ◌⊎◌, inl, inr, Option, List, [], length, get_or}
use Rattle.std.proofs.Math.Bool.{or-false}
use Rattle.std.proofs.Math.ListN.{set}
use Rattle.std.proofs.lemmas.Bool.{cases_eq, ne_eqb, true≢false}
use Rattle.cell_marks.specs.Marked.{Marked, is_set, union, count_in, row_at as marks_at, has as has_mark}
use Rattle.due_cells.specs.Seen.{Held, held_at}
use Rattle.cell_states.specs.Versions.{version_at, any_changes, version_by}
use Rattle.due_cells.specs.Layout.{kept, rows_of, IsLayout, IsBounded}
use Rattle.cell_states.specs.Filling.{is_awake}
use Rattle.due_cells.specs.Noted.{noted}
use Rattle.due_cells.proofs.Keeping.{seen, same_cells}
use Rattle.due_cells.proofs.MarkedRow.{joined_row}
use Rattle.cell_states.proofs.Since.{version_none, version_some}
use Rattle.due_cells.proofs.Noted.{none_counted}

-- where no cell of a cycle is due, no version counts there
pub idle_versions : (rows : List (List Bool)) (versions versions1 : List (List ℕ)) (t n : ℕ) → n ≡ count_in (marks_at rows t) → n ≤ 0 → ((u c : ℕ) → (u ≡ t → ⊥) → version_at versions1 u c ≡ version_at versions u c) → (u c : ℕ) → has_mark rows u c ≡ true → version_at versions1 u c ≡ version_at versions u c
idle_versions rows versions versions1 t n counted none others u c due = by_cycle (cases_eq u t)
  where
    by_cycle : (u ≡ t) ⊎ (u ≡ t → ⊥) → version_at versions1 u c ≡ version_at versions u c
    by_cycle (inl p) =
        absurd (true≢false (sym due ∙ ap (λ i. has_mark rows i c) p ∙ none_counted (marks_at rows t) c (omega (arith, counted, none))))
    by_cycle (inr p) = others u c p

module _ {State : Type 0} where
  kept_same : (s : Option State) (m : Bool) (v v1 : ℕ) → (m ≡ true → v1 ≡ v) → ◌≡◌ {A = Held State} (kept s m v1) (kept s m v)
  kept_same s true v v1 same = ap (λ (x : ℕ). kept s true x) (same refl)
  kept_same s false v v1 same = refl

  noted_kept : (changes : List Bool) (near : List ℕ) (clock : ℕ) (s : Option State) (m r : Bool) (v v1 n : ℕ) → r ≡ any_changes changes near n → (m ≡ true → v1 ≡ v) → ◌≡◌ {A = Held State} (kept s (m || r) (version_by changes near clock v1 n)) (noted (kept s m v) changes near clock n)
  noted_kept changes near clock s true r v v1 n e same =
      ap (λ (x : ℕ). kept s true (version_by changes near clock x n)) (same refl)
  noted_kept changes near clock s false true v v1 n e same =
      ap (λ (x : ℕ). kept s true x) (version_some changes near clock v1 0 n (sym e))
      ∙ ap (λ b. record { state = s; is_due = b; version = version_by changes near clock 0 n }) e
  noted_kept changes near clock s false false v v1 n e same =
      ap (λ (x : ℕ). record { state = s; is_due = false; version = x }) (sym (version_none changes near clock 0 n (sym e)))
      ∙ ap (λ b. record { state = s; is_due = b; version = version_by changes near clock 0 n }) e

  module _ (states : ℕ → ℕ → Option State) (due : Marked) (versions versions1 : List (List ℕ)) (bounded : IsBounded states due.width (length due.rows)) (layout : IsLayout due versions) (len : length versions1 ≡ length versions) (lens : (u : ℕ) → length (get_or versions1 u []) ≡ length (get_or versions u [])) where
    -- other versions, as many
    pub layout_versions : IsLayout due versions1
    layout_versions = record {
      marks = layout.marks;
      rows = len ∙ layout.rows;
      numbers = λ u h. lens u ∙ layout.numbers u h;
      few = layout.few;
      short = layout.short;
    }

    -- where those of the due cells are the same, the same is held
    pub same_versions : (rows : List (List (Held State))) → rows_of states due versions ≡ rows → ((u c : ℕ) → has_mark due.rows u c ≡ true → version_at versions1 u c ≡ version_at versions u c) → rows_of states due versions1 ≡ rows
    same_versions rows e same =
        same_cells states due versions rows e states due versions1 bounded layout refl refl (λ u d. kept_same (states u d) (has_mark due.rows u d) (version_at versions u d) (version_at versions1 u d) (same u d))

  module _ (states : ℕ → ℕ → Option State) (due due1 : Marked) (versions versions1 versions2 : List (List ℕ)) (bounded : IsBounded states due.width (length due.rows)) (layout : IsLayout due versions) (rows : List (List (Held State))) (e : rows_of states due versions ≡ rows) (t : ℕ) (row : List Bool) (there : t < length due.rows) (wide : length row ≡ length (marks_at due.rows t)) (joins : due1 ≡ record { width = due.width; rows = set due.rows t (union (marks_at due.rows t) row) }) (len : length versions2 ≡ length versions) (lens : (u : ℕ) → length (get_or versions2 u []) ≡ length (get_or versions u [])) (same : (u c : ℕ) → has_mark due.rows u c ≡ true → version_at versions1 u c ≡ version_at versions u c) where
    pub noted_others : ((u c : ℕ) → (u ≡ t → ⊥) → version_at versions2 u c ≡ version_at versions1 u c) → (u c : ℕ) → (u ≡ t → ⊥) → held_at (rows_of states due1 versions2) u c ≡ held_at rows u c
    noted_others others u c ne =
        joined_row states due due1 versions versions2 bounded layout rows e t row 0 there wide joins len lens u c
        ∙ ap (λ b. kept (states u c) (has_mark due.rows u c || (b && is_set row c)) (version_at versions2 u c)) (ne_eqb u t ne)
        ∙ ap (λ b. kept (states u c) b (version_at versions2 u c)) (or-false (has_mark due.rows u c))
        ∙ kept_same (states u c) (has_mark due.rows u c) (version_at versions u c) (version_at versions2 u c) (λ m. others u c ne ∙ same u c m)
        ∙ sym (seen states due versions rows e bounded layout u c)

    pub noted_row : (changes : List Bool) (near : List ℕ) (clock n c : ℕ) → is_awake row c ≡ any_changes changes near n → version_at versions2 t c ≡ version_by changes near clock (version_at versions1 t c) n → held_at (rows_of states due1 versions2) t c ≡ noted (held_at rows t c) changes near clock n
    noted_row changes near clock n c reached at =
        joined_row states due due1 versions versions2 bounded layout rows e t row 0 there wide joins len lens t c
        ∙ ap (λ b. kept (states t c) (has_mark due.rows t c || (b && is_set row c)) (version_at versions2 t c)) (eq-eqb t t refl)
        ∙ ap (λ (v : ℕ). kept (states t c) (has_mark due.rows t c || is_set row c) v) at
        ∙ noted_kept changes near clock (states t c) (has_mark due.rows t c) (is_set row c) (version_at versions t c) (version_at versions1 t c) n reached (same t c)
        ∙ ap (λ k. noted k changes near clock n) (sym (seen states due versions rows e bounded layout t c))
