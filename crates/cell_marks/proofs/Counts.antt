-- How many bits are set.
use Rattle.std.proofs.Common.{◌≡◌, ℕ, zero, suc, ◌+◌, ◌-◌, ◌*◌, ◌/◌, ◌%◌, ◌^◌, ◌<◌, ◌≤◌, ◌∙◌, sym, ap, refl, subst, arith, min, Bool, cond, eqb, ◌⊎◌, inl, inr, map}
use Rattle.std.specs.List.{range_with_len}
use Rattle.std.specs.Int.{bit_at}
use Rattle.std.specs.Int.Count.{ones, ones-ones}
use Rattle.std.proofs.lemmas.Bool.{cases_lt}
use Rattle.std.proofs.lemmas.Nat.{ones-le, ones_cat, div-add-mod', mod_below, pow_pos, shr_below}
use Rattle.std.proofs.lemmas.Nat.Bits.{bit_at-lt, bit_at_cat_low}
use Rattle.std.proofs.lemmas.List.FromFn.{sum_by-map-range_with_len_more}
use Rattle.cell_marks.specs.Marked.{count_in}
use Rattle.cell_marks.proofs.Unions.{is_one, bit, of_bit}

-- how many of the first n places a test holds at
abbrev pub count : (ℕ → Bool) → ℕ → ℕ
count f n = count_in (map f (range_with_len 0 n))

pub count_more : (f : ℕ → Bool) (n : ℕ) → count f (suc n) ≡ count f n + bit (f n)
count_more f n =
    let next : suc n ≡ n + 1 = omega arith in
    ap (count f) next ∙ sum_by-map-range_with_len_more (λ b. cond b 1 0) f 0 n n (omega arith)

-- a count that is by d more than another, place by place
count_by_steps : (f g : ℕ → Bool) (d : ℕ → ℕ) (n : ℕ) → d 0 ≡ 0 → ((c : ℕ) → c < n → bit (g c) + d c ≡ bit (f c) + d (suc c)) → count g n ≡ count f n + d n
count_by_steps f g d zero none each = omega (arith, none)
count_by_steps f g d (suc n) none each =
    omega (arith, count_more f n, count_more g n, each n (omega arith), count_by_steps f g d n none (λ c h. each c (omega arith)))

-- from a on m places hold what others hold there, and h beside it
pub count_added : (f g h : ℕ → Bool) (a m n : ℕ) → a + m ≤ n → ((c : ℕ) → c < a → g c ≡ f c) → ((i : ℕ) → i < m → bit (g (a + i)) ≡ bit (f (a + i)) + bit (h i)) → ((c : ℕ) → a + m ≤ c → c < n → g c ≡ f c) → count g n ≡ count f n + count h m
count_added f g h a m n room before within after =
    let start : min m (0 - a) ≡ 0 = omega arith in
    let end : min m (n - a) ≡ m = omega arith in
    count_by_steps f g more n (ap (count h) start) each ∙ ap (λ k. count f n + count h k) end
  where
    more : ℕ → ℕ
    more c = count h (min m (c - a))

    each : (c : ℕ) → c < n → bit (g c) + more c ≡ bit (f c) + more (suc c)
    each c low = by_start (cases_lt c a)
      where
        same : g c ≡ f c → min m (c - a) ≡ min m (suc c - a) → bit (g c) + more c ≡ bit (f c) + more (suc c)
        same e k = ap (λ b. bit b + more c) e ∙ ap (λ j. bit (f c) + count h j) k

        one_more : (i : ℕ) → i < m → a + i ≡ c → bit (g c) + more c ≡ bit (f c) + more (suc c)
        one_more i l e =
            let here : min m (c - a) ≡ i = omega (arith, l, e) in
            let next : min m (suc c - a) ≡ suc i = omega (arith, l, e) in
            omega (arith, ap (count h) here, ap (count h) next, count_more h i, within i l, ap (λ k. bit (g k)) e, ap (λ k. bit (f k)) e)

        by_end : a ≤ c → (c - a < m) ⊎ (m ≤ c - a) → bit (g c) + more c ≡ bit (f c) + more (suc c)
        by_end high (inl l) = one_more (c - a) l (omega (arith, high))
        by_end high (inr l) = same (after c (omega (arith, high, l)) low) (omega (arith, high, l))

        by_start : (c < a) ⊎ (a ≤ c) → bit (g c) + more c ≡ bit (f c) + more (suc c)
        by_start (inl l) = same (before c l) (omega (arith, l))
        by_start (inr high) = by_end high (cases_lt (c - a) m)

-- places that are alike hold as many
pub count_alike : (f g : ℕ → Bool) (n : ℕ) → ((c : ℕ) → c < n → g c ≡ f c) → count g n ≡ count f n
count_alike f g zero each = refl
count_alike f g (suc n) each =
    omega (arith, count_more f n, count_more g n, ap bit (each n (omega arith)), count_alike f g n (λ c h. each c (omega arith)))

ones_of_bit : (x : ℕ) → x < 2 → ones x ≡ x
ones_of_bit zero h = omega (arith, ones-le 0 0 (omega arith))
ones_of_bit (suc zero) h = ones-ones 1
ones_of_bit (suc (suc x)) h = absurd (omega arith)

-- a number of m bits has as many ones as there are places at which its bit is set
pub ones_counted : (m n : ℕ) → n < 2 ^ m → count (is_one n) m ≡ ones n
ones_counted zero n h = sym (let none : ones n ≤ 0 = ones-le 0 n h in omega (arith, none))
ones_counted (suc m) n h =
    let high = n / 2 ^ m in
    let low = n % 2 ^ m in
    let whole : high * 2 ^ m + low ≡ n = div-add-mod' n (2 ^ m) in
    let small : low < 2 ^ m = mod_below n (2 ^ m) (pow_pos m) in
    let next : suc m ≡ 1 + m = omega arith in
    let top : high < 2 = shr_below n 1 m (subst (λ k. n < 2 ^ k) next h) in
    let parts : ones n ≡ ones high + ones low = ap ones (sym whole) ∙ ones_cat m high low small in
    let rest : count (is_one n) m ≡ count (is_one low) m = count_alike (is_one low) (is_one n) m (λ i k. ap (λ v. is_one v i) (sym whole) ∙ ap (λ b. eqb b 1) (bit_at_cat_low high m low i k)) in
    let last : bit_at n m ≡ bit (is_one n m) = of_bit (bit_at n m) (bit_at-lt n m) in
    let bit_is : bit_at n m ≡ high = omega (arith, top) in
    omega (arith, count_more (is_one n) m, parts, rest, last, bit_is, ones_of_bit high top, ones_counted m low small)

-- places behind others are counted apart
pub count_joined : (f h : ℕ → Bool) (a m : ℕ) → ((i : ℕ) → i < m → f (a + i) ≡ h i) → count f (a + m) ≡ count f a + count h m
count_joined f h a zero same = let e : a + 0 ≡ a = omega arith in ap (count f) e ∙ omega arith
count_joined f h a (suc m) same =
    let next : a + suc m ≡ suc (a + m) = omega arith in
    ap (count f) next ∙ omega (arith, count_more f (a + m), count_more h m, ap bit (same m (omega arith)), count_joined f h a m (λ i k. same i (omega arith)))
