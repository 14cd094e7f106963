-- The bound on the rate of references under a hot spot (Pfister and Norton 1985).
use Rattle.std.specs.Prelude.{ℕ, ◌+◌, ◌-◌, ◌*◌, ◌==◌, ◌||◌, nat_lt, if◌then◌else◌, Option, None, Some}

-- with h the fraction a/b of hot references and p processors, 1 / (1 + h (p - 1)) as b over b + a (p - 1); none where
-- b or p is 0, or a is above b
abbrev pub bound : ℕ → ℕ → ℕ → Option (ℕ × ℕ)
bound a b p = if (b == 0) || (p == 0) || nat_lt b a then None else Some (b, b + a * (p - 1))
