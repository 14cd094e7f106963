-- The order of cells.
use Rattle.std.proofs.Common.{◌≡◌, ℕ, ◌+◌, ◌<◌, ◌≤◌, arith, ◌⊎◌, inl, inr}
use Rattle.std.proofs.lemmas.Bool.{cases_lt}
use Rattle.cell_table.specs.Cells.{AtOrAfter, Before}

-- a cell comes before another one, or it doesn't
pub before_or_after : (t0 c0 t c : ℕ) → Before t c t0 c0 ⊎ AtOrAfter t0 c0 t c
before_or_after t0 c0 t c = by_cycle (cases_lt t t0) (cases_lt t0 t) (cases_lt c c0)
  where
    by_cycle : (t < t0) ⊎ (t0 ≤ t) → (t0 < t) ⊎ (t ≤ t0) → (c < c0) ⊎ (c0 ≤ c) → Before t c t0 c0 ⊎ AtOrAfter t0 c0 t c
    by_cycle (inl h) k l = inl (omega arith, λ e. absurd (omega arith))
    by_cycle (inr h) (inl k) l = inr (h, λ e. absurd (omega arith))
    by_cycle (inr h) (inr k) (inl l) = inl (k, λ e. l)
    by_cycle (inr h) (inr k) (inr l) = inr (h, λ e. l)

-- of two cells in order, what comes before the first comes before the second
pub before_along : (t c t1 c1 t2 c2 : ℕ) → Before t c t1 c1 → AtOrAfter t1 c1 t2 c2 → Before t c t2 c2
before_along t c t1 c1 t2 c2 p q = by_cycle (cases_lt t t1)
  where
    by_cycle : (t < t1) ⊎ (t1 ≤ t) → Before t c t2 c2
    by_cycle (inl h) = (omega (arith, q.0), λ e. absurd (omega (arith, q.0)))
    by_cycle (inr h) =
        let same : t ≡ t1 = omega (arith, p.0) in
        (omega (arith, q.0), λ e. let k = p.1 same in let l = q.1 (omega arith) in omega arith)

-- the next cell of a cycle comes after what the cell comes at or after
pub after_next : (t0 c0 t c : ℕ) → AtOrAfter t0 c0 t c → AtOrAfter t0 c0 t (c + 1)
after_next t0 c0 t c p = (p.0, λ e. let k = p.1 e in omega arith)

pub before_next : (t c : ℕ) → Before t c t (c + 1)
before_next t c = (omega arith, λ e. omega arith)
