-- Figures of a histogram, latency by latency.
use Rattle.std.proofs.Common.{◌≡◌, ℕ, zero, suc, ◌+◌, ◌-◌, ◌*◌, ◌<◌, ◌≤◌, Bool, true, false, List, length, take, refl, sym, ap, ◌∙◌, None, Some, arith, add-one}
use Rattle.std.specs.Prelude.{if◌then◌else◌, nat_le, sum, slice_index}
use Rattle.std.proofs.lemmas.Nat.{mul-le}
use Rattle.std.proofs.lemmas.Bool.Decides.{nat_tests}
use Rattle.std.proofs.lemmas.List.Sums.{sum_by_more}
use Rattle.monitor_sums.specs.Adding.{sum_below}
use Rattle.monitor_sums.proofs.Adding.{sum_more}
use Rattle.run_queries.specs.Answers.{first_of}
use Rattle.run_reports.specs.Figures.{covers, first_that, is_taken, last_that}

-- one number more is tried
pub last_more : (f : ℕ → Bool) (n : ℕ) → last_that f (n + 1) ≡ (if f n then Some n else last_that f n)
last_more f n = rw add-one refl

-- none of the first passes, and the next does not; or it does
pub first_more : (f : ℕ → Bool) (n : ℕ) → first_that f n ≡ None → f n ≡ false → first_that f (n + 1) ≡ None
first_more f n none fails = rw (add-one, none, fails) refl

pub first_here : (f : ℕ → Bool) (n : ℕ) → first_that f n ≡ None → f n ≡ true → first_that f (n + 1) ≡ Some n
first_here f n none passes = rw (add-one, none, passes) refl

-- what was found first stays
pub first_kept : (f : ℕ → Bool) (n x m : ℕ) → first_that f n ≡ Some x → first_that f (n + m) ≡ Some x
first_kept f n x zero is =
    let e : n + 0 ≡ n = omega arith in
    ap (first_that f) e ∙ is
first_kept f n x (suc m) is =
    let e : n + suc m ≡ suc (n + m) = omega arith in
    ap (first_that f) e ∙ ap (λ o. first_of o (if f (n + m) then Some (n + m) else None)) (first_kept f n x m is)

pub first_on : (f : ℕ → Bool) (n size : ℕ) → n < size → first_that f n ≡ None → f n ≡ true → first_that f size ≡ Some n
first_on f n size less none passes =
    let e : size ≡ (n + 1) + (size - (n + 1)) = omega (arith, less) in
    ap (first_that f) e ∙ first_kept f (n + 1) n (size - (n + 1)) (first_here f n none passes)

-- a latency covers a share, where enough references have it or a less one
pub covers_here : (share n all within : ℕ) (h : List ℕ) → n < length h → is_taken h n ≡ true → all ≡ sum h → within ≡ sum (take n h)
    → share * all ≤ 100 * (within + slice_index h n) → covers share h n ≡ true
covers_here share n all within h less taken full before enough = rw (taken, test) refl
  where
    more : sum (take (n + 1) h) ≡ within + slice_index h n
    more = sum_by_more (λ x. x) h n 0 less ∙ ap (λ (m : ℕ). m + slice_index h n) (sym before)

    test : nat_le (share * sum h) (100 * sum (take (n + 1) h)) ≡ true
    test =
        let le : share * sum h ≤ 100 * sum (take (n + 1) h) = rw (more, sym full) enough in
        grind (arith, nat_tests, le)

-- the sum of all latencies, one latency more
pub total_more : (n total : ℕ) (h : List ℕ) → n < length h → total ≡ sum_below (λ d. d * slice_index h d) n
    → total + n * slice_index h n ≡ sum_below (λ d. d * slice_index h d) (n + 1)
total_more n total h less is = ap (λ (m : ℕ). m + n * slice_index h n) is ∙ sym (sum_more (λ d. d * slice_index h d) n)

pub total_few : (n total : ℕ) (h : List ℕ) → n < length h → n ≤ 65536 → total ≤ 65536 * sum (take n h) → total + n * slice_index h n ≤ 65536 * sum (take (n + 1) h)
total_few n total h less short few =
    let more : sum (take (n + 1) h) ≡ sum (take n h) + slice_index h n = sum_by_more (λ x. x) h n 0 less in
    let part : n * slice_index h n ≤ 65536 * slice_index h n = mul-le n (slice_index h n) 65536 (slice_index h n) short (omega arith) in
    omega (arith, more, part, few)
