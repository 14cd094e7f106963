-- References counted by latency, one by one.
use Rattle.std.proofs.Common.{◌≡◌, ℕ, ◌+◌, ◌<◌, ◌≤◌, Bool, true, false, List, length, get_or, take, refl, sym, ap, ◌∙◌, None, Some, Option, arith, ◌⊎◌, inl, inr, ◌*◌}
use Rattle.std.specs.Prelude.{if◌then◌else◌, is_none, replicate, sum, slice_index}
use Rattle.std.specs.List.{count_by}
use Rattle.std.proofs.Math.ListN.{get_or-eq_default}
use Rattle.std.proofs.Math.Nat.{mul-zero}
use Rattle.std.proofs.lemmas.Bool.{cases_lt}
use Rattle.std.proofs.lemmas.List.{get_or-replicate, length-replicate, length-take-le, take_all}
use Rattle.std.proofs.lemmas.List.Folds.{sum_by-replicate}
use Rattle.std.proofs.lemmas.List.Sums.{count_by-le-length, sum_by_more}
use Rattle.run_reports.specs.declared.condition.Condition.{Condition}
use Rattle.run_reports.specs.declared.latency.Latencies.{Latencies}
use Rattle.run_reports.specs.declared.reference.Reference.{Reference}
use Rattle.run_reports.specs.Conditions.{meets}
use Rattle.run_reports.specs.Latencies.{cycles_to, has_no_reply, is_latency, latency, one_if, took, AreCounted}

-- the first i references are counted
pub record SoFar (c : Condition) (longest i : ℕ) (refs : List Reference) (l : Latencies) : Type 0 where
  pub many : length l.histogram.items ≡ longest + 1
  pub each : (d : ℕ) → d ≤ longest → slice_index l.histogram.items d ≡ count_by (took c d) (take i refs)
  pub unanswered : l.unanswered ≡ count_by (has_no_reply c) (take i refs)
  pub all : sum l.histogram.items + l.unanswered ≡ count_by (meets c) (take i refs)

count_next : (p : Reference → Bool) (xs : List Reference) (i : ℕ) (d : Reference) → i < length xs
    → count_by p (take (i + 1) xs) ≡ count_by p (take i xs) + one_if (p (get_or xs i d))
count_next p xs i d less = sum_by_more (λ x. if p x then 1 else 0) xs i d less

-- a reference counts as its own test says
here : (p : Reference → Bool) (xs : List Reference) (i : ℕ) (r d : Reference) (b : Bool) → i < length xs → r ≡ get_or xs i d → p r ≡ b
    → count_by p (take i xs) + one_if b ≡ count_by p (take (i + 1) xs)
here p xs i r d b less is test =
    ap (λ (a : Bool). count_by p (take i xs) + one_if a) (sym test ∙ ap p is) ∙ sym (count_next p xs i d less)

zeros_at : (n d : ℕ) → slice_index (replicate n 0) d ≡ 0
zeros_at n d = by_place (cases_lt d n)
  where
    by_place : (d < n) ⊎ (n ≤ d) → slice_index (replicate n 0) d ≡ 0
    by_place (inl h) = get_or-replicate n d 0 0 h
    by_place (inr h) =
        let zero_number : ℕ = 0 in
        let long : length (replicate n zero_number) ≡ n = length-replicate n zero_number in
        get_or-eq_default (replicate n 0) 0 {n = d} (omega (arith, long, h))

pub none_yet : (c : Condition) (longest : ℕ) (refs : List Reference) (l : Latencies) → l.histogram.items ≡ replicate (longest + 1) 0 → l.unanswered ≡ 0 → SoFar c longest 0 refs l
none_yet c longest refs l zeros none = record {
  many = ap length zeros ∙ length-replicate (longest + 1) 0;
  each = λ d le. ap (λ xs. slice_index xs d) zeros ∙ zeros_at (longest + 1) d;
  unanswered = none;
  all =
      let empty : sum l.histogram.items ≡ (longest + 1) * 0 = ap sum zeros ∙ sum_by-replicate (λ x. x) (longest + 1) 0 in
      omega (arith, empty, none, mul-zero (longest + 1));
}

module _ (c : Condition) (longest i : ℕ) (refs : List Reference) (l : Latencies) (r e : Reference) (so : SoFar c longest i refs l) (less : i < length refs) (is : r ≡ get_or refs i e) where
  -- one that doesn't meet the condition
  pub passed_over : meets c r ≡ false → SoFar c longest (i + 1) refs l
  passed_over fails = record {
    many = so.many;
    each = λ d le. so.each d le ∙ omega (arith, here (took c d) refs i r e false less is (rw fails refl));
    unanswered = so.unanswered ∙ omega (arith, here (has_no_reply c) refs i r e false less is (rw fails refl));
    all = so.all ∙ omega (arith, here (meets c) refs i r e false less is fails);
  }

  -- one that does
  pub counted_in : (new : Latencies) → meets c r ≡ true → length new.histogram.items ≡ length l.histogram.items
      → ((d : ℕ) → d < length l.histogram.items → slice_index new.histogram.items d ≡ slice_index l.histogram.items d + one_if (is_latency d (latency r)))
      → new.unanswered ≡ l.unanswered + one_if (is_none (latency r))
      → sum new.histogram.items + new.unanswered ≡ sum l.histogram.items + l.unanswered + 1 → SoFar c longest (i + 1) refs new
  counted_in new holds many each unanswered all = record {
    many = many ∙ so.many;
    each = λ d le.
        each d (omega (arith, so.many, le))
        ∙ ap (λ (n : ℕ). n + one_if (is_latency d (latency r))) (so.each d le)
        ∙ here (took c d) refs i r e (is_latency d (latency r)) less is (rw holds refl);
    unanswered =
        unanswered
        ∙ ap (λ (n : ℕ). n + one_if (is_none (latency r))) so.unanswered
        ∙ here (has_no_reply c) refs i r e (is_none (latency r)) less is (rw holds (no_reply r.issued r.answered));
    all = all ∙ ap (λ (n : ℕ). n + 1) so.all ∙ here (meets c) refs i r e true less is holds;
  }
    where
      no_reply : (u : ℕ) (o : Option ℕ) → is_none o ≡ is_none (cycles_to u o)
      no_reply u None = refl
      no_reply u (Some t) = refl

pub all_counted : (c : Condition) (longest i : ℕ) (refs : List Reference) (l : Latencies) → SoFar c longest i refs l → length refs ≤ i → AreCounted c longest refs l
all_counted c longest i refs l so all = record {
  many = so.many;
  each = λ d le. so.each d le ∙ ap (count_by (took c d)) (take_all i refs all);
  unanswered = so.unanswered ∙ ap (count_by (has_no_reply c)) (take_all i refs all);
  all = so.all ∙ ap (count_by (meets c)) (take_all i refs all);
}

-- so many are counted that one more fits
pub fits : (c : Condition) (longest i : ℕ) (refs : List Reference) (l : Latencies) → SoFar c longest i refs l → i < length refs → sum l.histogram.items + l.unanswered ≤ i
fits c longest i refs l so less = omega (arith, so.all, count_by-le-length (meets c) (take i refs), length-take-le i refs (omega (arith, less)))
