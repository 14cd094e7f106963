-- How many components differ at a cycle.
use Rattle.std.proofs.Common.{ℕ, zero, suc, ◌+◌, ◌≤◌, arith, Bool, true, false, cond}
use Rattle.due_cells.specs.Woken.{differing}

cond_le : (b : Bool) (n m : ℕ) → n ≤ m → cond b (n + 1) n ≤ m + 1
cond_le true n m h = omega arith
cond_le false n m h = omega arith

-- no more than there are
pub differing_le : (differs : ℕ → ℕ → Bool) (t n : ℕ) → differing differs t n ≤ n
differing_le differs t zero = omega arith
differing_le differs t (suc n) = let few = cond_le (differs t n) (differing differs t n) n (differing_le differs t n) in omega (arith, few)
