-- Runs of equal numbers, one number more at a time.
use Rattle.std.proofs.Common.{◌≡◌, ℕ, ◌+◌, ◌<◌, List, [], ◌∷◌, ◌++◌, length, get_or, drop, refl, ap, sym, ◌∙◌, append_assoc, arith}
use Rattle.std.proofs.lemmas.List.{drop_more}
use Rattle.std.proofs.lemmas.Bool.{eq-eqb, ne_eqb}
use Rattle.svg_plots.specs.CellMaps.{runs, runs_from}
use Rattle.svg_plots.specs.declared.map.Run.{Run}

pub runs_none : (row : List ℕ) → length row ≡ 0 → runs row ≡ []
unfolding runs
runs_none [] e = refl
runs_none (n ∷ ns) e = absurd (omega arith)

pub runs_begin : (row : List ℕ) → 0 < length row → runs row ≡ runs_from 0 (get_or row 0 0) 0 row
unfolding runs
runs_begin [] l = absurd (omega arith)
runs_begin (n ∷ ns) l = refl

abbrev run : ℕ → ℕ → ℕ → Run
run from to number = record { from = from; to = to; number = number }

same_next : (b n at x : ℕ) (xs : List ℕ) → x ≡ n → runs_from b n at (x ∷ xs) ≡ runs_from b n (at + 1) xs
unfolding runs_from
same_next b n at x xs e = rw (eq-eqb x n e) refl

other_next : (b n at x : ℕ) (xs : List ℕ) → (x ≡ n → ⊥) → runs_from b n at (x ∷ xs) ≡ run b at n ∷ runs_from at x (at + 1) xs
unfolding runs_from
other_next b n at x xs e = rw (ne_eqb x n e) refl

none_next : (b n at : ℕ) → runs_from b n at [] ≡ run b at n ∷ []
unfolding runs_from
none_next b n at = refl

-- the same number once more; another one; the end
pub run_kept : (b n at : ℕ) (row : List ℕ) (rs : List Run) → at < length row → get_or row at 0 ≡ n → runs row ≡ rs ++ runs_from b n at (drop at row)
    → runs row ≡ rs ++ runs_from b n (at + 1) (drop (at + 1) row)
run_kept b n at row rs l e so_far =
    so_far ∙ ap (λ ns. rs ++ runs_from b n at ns) (drop_more row at 0 l) ∙ ap (λ more. rs ++ more) (same_next b n at (get_or row at 0) (drop (at + 1) row) e)

pub run_added : (b n at : ℕ) (row : List ℕ) (rs : List Run) → at < length row → (get_or row at 0 ≡ n → ⊥) → runs row ≡ rs ++ runs_from b n at (drop at row)
    → runs row ≡ (rs ++ run b at n ∷ []) ++ runs_from at (get_or row at 0) (at + 1) (drop (at + 1) row)
run_added b n at row rs l e so_far =
    so_far ∙ ap (λ ns. rs ++ runs_from b n at ns) (drop_more row at 0 l) ∙ ap (λ more. rs ++ more) (other_next b n at (get_or row at 0) (drop (at + 1) row) e)
    ∙ sym (append_assoc rs (run b at n ∷ []) (runs_from at (get_or row at 0) (at + 1) (drop (at + 1) row)))

pub run_last : (b n at : ℕ) (row : List ℕ) (rs : List Run) → drop at row ≡ [] → runs row ≡ rs ++ runs_from b n at (drop at row) → runs row ≡ rs ++ run b at n ∷ []
run_last b n at row rs e so_far = so_far ∙ ap (λ ns. rs ++ runs_from b n at ns) e ∙ ap (λ more. rs ++ more) (none_next b n at)
