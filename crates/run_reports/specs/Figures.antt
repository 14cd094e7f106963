-- Figures of a histogram: how many references have each latency, from 0 on.
use Rattle.std.specs.Prelude.{ℕ, zero, suc, ◌+◌, ◌*◌, ◌/◌, ◌==◌, ◌&&◌, nat_le, nat_lt, Bool, if◌then◌else◌, List, Option, None, Some, length, slice_index, sum, take}
use Rattle.monitor_sums.specs.Adding.{sum_below}
use Rattle.run_queries.specs.Answers.{first_of}

-- all latencies added up
abbrev pub total : List ℕ → ℕ
total h = sum_below (λ d. d * slice_index h d) (length h)

-- the mean of number latencies in hundredths of a cycle, to the nearest one, half ones upwards; none where there are none
abbrev pub hundredths : ℕ → ℕ → Option ℕ
hundredths total number = if number == 0 then None else Some ((200 * total + number) / (2 * number))

abbrev pub mean : List ℕ → Option ℕ
mean h = hundredths (total h) (sum h)

-- the first of the numbers below n that passes, and the last one
abbrev pub first_that : (ℕ → Bool) → ℕ → Option ℕ
first_that passes zero = None
first_that passes (suc n) = first_of (first_that passes n) (if passes n then Some n else None)

abbrev pub last_that : (ℕ → Bool) → ℕ → Option ℕ
last_that passes zero = None
last_that passes (suc n) = if passes n then Some n else last_that passes n

-- whether some reference took d cycles
abbrev pub is_taken : List ℕ → ℕ → Bool
is_taken h d = nat_lt 0 (slice_index h d)

-- the least latency, and the greatest
abbrev pub least : List ℕ → Option ℕ
least h = first_that (is_taken h) (length h)

abbrev pub greatest : List ℕ → Option ℕ
greatest h = last_that (is_taken h) (length h)

-- whether some reference took d cycles, and at least so many in a hundred of them d or fewer
abbrev pub covers : ℕ → List ℕ → ℕ → Bool
covers share h d = is_taken h d && nat_le (share * sum h) (100 * sum (take (d + 1) h))

-- a percentile by the nearest rank: the least latency within which at least that share is
abbrev pub percentile : ℕ → List ℕ → Option ℕ
percentile share h = first_that (covers share h) (length h)
