-- THE BINARY LOGARITHM of a fraction, in hundredths, rounded down.
use Rattle.std.specs.Prelude.{ℕ, zero, suc, ◌+◌, ◌*◌, ◌/◌, ◌^◌, ◌||◌, ◌==◌, nat_le, nat_lt, if◌then◌else◌}

-- how often a fraction n / d can be halved before it is less than 2, up to so often
unfoldable pub halvings_of : ℕ → ℕ → ℕ → ℕ
halvings_of zero n d = 0
halvings_of (suc most) n d = if nat_le (d * 2) n then suc (halvings_of most n (d * 2)) else 0

-- a number from 1 to 2 with 30 binary places is squared, which doubles its logarithm
abbrev pub squared : ℕ → ℕ
squared x = x * x / 2 ^ 30

-- the first binary places of its logarithm, so many: the next one is 1 where the square is at least 2
unfoldable pub log_places : ℕ → ℕ → ℕ
log_places zero x = 0
log_places (suc n) x = if nat_le (2 ^ 31) (squared x) then 2 ^ n + log_places n (squared x / 2) else log_places n (squared x)

abbrev pub hundredths_of : ℕ → ℕ
hundredths_of x = log_places 10 x * 100 / 1024

-- the logarithm of a fraction from 1 on: its halvings, and the hundredths of what is left; 0 of one below 1 and of none
abbrev pub whole_of : ℕ → ℕ → ℕ
whole_of n d = halvings_of 31 n d

abbrev pub log2_of : ℕ → ℕ → ℕ
log2_of n d = if (d == 0) || nat_lt n d then 0 else whole_of n d * 100 + hundredths_of (n * 2 ^ 30 / d / 2 ^ whole_of n d)
