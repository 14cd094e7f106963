-- States that were put or go on, with the marks of their cycles taken away, as rows of cells.
use Rattle.std.proofs.Common.{◌≡◌, ℕ, ◌<◌, ◌≤◌, ◌∙◌, ◌⊎◌, inl, inr, sym, ap, arith, Bool, false, Option, List, length, replicate, get_or}
use Rattle.std.proofs.lemmas.Bool.{cases_lt}
use Rattle.std.proofs.lemmas.List.{get_or-replicate, length-replicate}
use Rattle.cell_marks.specs.Marked.{Marked, row_at as marks_at, has as has_mark}
use Rattle.due_cells.specs.Seen.{Held, held_at}
use Rattle.cell_states.specs.Versions.{version_at}
use Rattle.due_cells.specs.Layout.{kept, kept_at, rows_of, cleared, IsLayout, IsBounded}
use Rattle.due_cells.proofs.Keeping.{seen, held_kept, bounded_along}

-- the rows that were cleared are as long as before
pub marks_filled : (due due1 : Marked) (from to : ℕ) → ((t : ℕ) → t < length due.rows → length (marks_at due.rows t) ≡ due.width) → ((t : ℕ) → from ≤ t → t < to → marks_at due1.rows t ≡ replicate due.width false) → ((t : ℕ) → t < from → marks_at due1.rows t ≡ marks_at due.rows t) → ((t : ℕ) → to ≤ t → marks_at due1.rows t ≡ marks_at due.rows t) → (t : ℕ) → t < length due.rows → length (marks_at due1.rows t) ≡ due.width
marks_filled due due1 from to whole cleared earlier later t h = by_cycle (cases_lt t from) (cases_lt t to)
  where
    by_cycle : (t < from) ⊎ (from ≤ t) → (t < to) ⊎ (to ≤ t) → length (marks_at due1.rows t) ≡ due.width
    by_cycle (inl k) l = ap length (earlier t k) ∙ whole t h
    by_cycle (inr k) (inl l) = ap length (cleared t k l) ∙ length-replicate due.width false
    by_cycle (inr k) (inr l) = ap length (later t l) ∙ whole t h

module _ {State : Type 0} (states states1 : ℕ → ℕ → Option State) (due due1 : Marked) (versions : List (List ℕ)) (rows : List (List (Held State))) (bounded : IsBounded states due.width (length due.rows)) (layout : IsLayout due versions) (e : rows_of states due versions ≡ rows) (bounded1 : IsBounded states1 due.width (length due.rows)) (width : due1.width ≡ due.width) (cycles : length due1.rows ≡ length due.rows) (marks : (t : ℕ) → t < length due.rows → length (marks_at due1.rows t) ≡ due.width) where
  pub layout_filled : IsLayout due1 versions
  layout_filled = record {
    marks = λ t h. marks t (omega (arith, h, cycles)) ∙ sym width;
    rows = layout.rows ∙ sym cycles;
    numbers = λ t h. layout.numbers t (omega (arith, h, cycles)) ∙ sym width;
    few = omega (arith, layout.few, width);
    short = omega (arith, layout.short, cycles);
  }

  pub filled_cell : (t c : ℕ) → held_at (rows_of states1 due1 versions) t c ≡ kept_at states1 due1 versions t c
  filled_cell t c = held_kept states1 due1 versions (bounded_along states1 width cycles bounded1) layout_filled t c

  -- a cell whose state and mark stay is the same
  pub same_cell : (t c : ℕ) → states1 t c ≡ states t c → marks_at due1.rows t ≡ marks_at due.rows t → held_at (rows_of states1 due1 versions) t c ≡ held_at rows t c
  same_cell t c s m =
      filled_cell t c
      ∙ ap (λ (o : Option State). kept o (has_mark due1.rows t c) (version_at versions t c)) s
      ∙ ap (λ (row : List Bool). kept (states t c) (get_or row c false) (version_at versions t c)) m
      ∙ sym (seen states due versions rows e bounded layout t c)

  -- a cell that isn't due then
  pub cleared_cell : (t c : ℕ) (o : Option State) → c < due.width → marks_at due1.rows t ≡ replicate due.width false → states1 t c ≡ o → held_at (rows_of states1 due1 versions) t c ≡ cleared o
  cleared_cell t c o h m s =
      filled_cell t c
      ∙ ap (λ (o : Option State). kept o (has_mark due1.rows t c) (version_at versions t c)) s
      ∙ ap (λ (b : Bool). kept o b (version_at versions t c)) (ap (λ row. get_or row c false) m ∙ get_or-replicate due.width c false false h)
