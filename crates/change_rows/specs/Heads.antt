-- Heads: a component, and where its words begin, in one number.
use Rattle.std.specs.Prelude.{◌≡◌, ℕ, ◌+◌, ◌*◌, ◌/◌, ◌%◌, ◌^◌}
use Rattle.std.proofs.Common.{ap}
use Rattle.std.proofs.lemmas.Nat.{div-add-mod'}

-- what a head names
pub record Named : Type 0 where
  pub component : ℕ
  pub from : ℕ

-- both tell the number
pub packed_back : {S : Type 0} → (f : ℕ → S) → (n : ℕ) → f (n / 2 ^ 20 * 2 ^ 20 + n % 2 ^ 20) ≡ f n
packed_back f n = ap f (div-add-mod' n (2 ^ 20))
