-- How many references a run has at most.
use Rattle.std.proofs.Common.{◌<◌, ◌++◌, ◌≡◌, ℕ, zero, suc, ◌+◌, ◌*◌, ◌-◌, ◌≤◌, ◌^◌, Bool, true, false, List, [], ◌∷◌, length, refl, ap, ◌∙◌, None, Some, Option, arith}
use Rattle.std.specs.Prelude.{if◌then◌else◌, option_to_list, ◌&&◌, nat_lt, is_some}
use Rattle.std.specs.List.{All, flat_map}
use Rattle.std.proofs.Math.Nat.{mul-suc, pow-le-pow_right}
use Rattle.std.proofs.lemmas.List.{length-append}
use Rattle.std.proofs.lemmas.List.Elements.{All-append, All-cons, All-nil, All-same}
use Rattle.std.proofs.lemmas.Nat.{mul-le}
use Rattle.omega_net.specs.Wires.{below}
use Rattle.machine_cells.specs.declared.state.MachineState.{MachineState}
use Rattle.project_book.specs.Limits.{max_horizon}
use Rattle.project_book.specs.Project.{Project}
use Rattle.run_queries.specs.Answers.{first_of, has_sent, word_got}
use Rattle.run_reports.specs.declared.reference.Reference.{Reference}
use Rattle.run_reports.specs.Latencies.{cycles_to, IsWithin}
use Rattle.run_reports.specs.References.{entry_of, first_got, issue_at, issues, references, references_of, with_replies}
use Rattle.run_reports.proofs.Below.{flat-next}

-- where each number has so many at most
listed_few : (f : ℕ → List Reference) (m n : ℕ) → ((i : ℕ) → length (f i) ≤ m) → length (flat_map f (below n)) ≤ m * n
listed_few f m zero few = omega arith
listed_few f m (suc n) few =
    let e : suc n ≡ n + 1 = omega arith in
    let long : length (flat_map f (below (suc n))) ≡ length (flat_map f (below n)) + length (f n) =
    ap (λ i. length (flat_map f (below i))) e ∙ ap length (flat-next f n) ∙ length-append (flat_map f (below n)) (f n) in
    let before : length (flat_map f (below n)) ≤ m * n = listed_few f m n few in
    omega (arith, long, before, few n, mul-suc m n)

one_issue : (P : Project) (at : ℕ → ℕ → Option MachineState) (p u : ℕ) → length (option_to_list (issue_at P at p u)) ≤ 1
one_issue P at p u = by_test (has_sent (at u p))
  where
    issue : Reference
    issue = record { proc = p; issued = u; entry = entry_of P p (at (u - 1) p); answered = None }

    by_test : (b : Bool) → length (option_to_list (if b then Some issue else None)) ≤ 1
    by_test true = omega arith
    by_test false = omega arith

replied_long : (at : ℕ → Option MachineState) (t n : ℕ) (xs : List Reference) → length (with_replies at t n xs) ≡ length xs
replied_long at t n [] = refl
replied_long at t n (x ∷ xs) = ap suc (replied_long at t (n + 1) xs)

-- a processor issues one in a cycle at most
pub few_references : (P : Project) (at : ℕ → ℕ → Option MachineState) → P.k ≤ 6 → P.horizon ≤ max_horizon → length (references P at) ≤ (max_horizon + 1) * 64
few_references P at small short =
    let own : (p : ℕ) → length (references_of P at (suc P.horizon) p) ≤ 1 * suc P.horizon = λ p.
    let long = replied_long (λ u. at u p) (suc P.horizon) 0 (issues P at p (suc P.horizon)) in
    let few = listed_few (λ u. option_to_list (issue_at P at p u)) 1 (suc P.horizon) (one_issue P at p) in
    omega (arith, long, few) in
    let all = listed_few (references_of P at (suc P.horizon)) (1 * suc P.horizon) (2 ^ P.k) own in
    let lines : 2 ^ P.k ≤ 64 = pow-le-pow_right {n = 2} (omega arith) {i = P.k} {j = 6} small in
    let most : 1 * suc P.horizon * 2 ^ P.k ≤ (max_horizon + 1) * 64 = mul-le (1 * suc P.horizon) (2 ^ P.k) (max_horizon + 1) 64 (omega (arith, short)) lines in
    omega (arith, all, most)

-- a reply is shown before the cycles end
got_before : (at : ℕ → Option MachineState) (n u t x : ℕ) → first_got at n u t ≡ Some x → x < t
got_before at n u zero x is = cc
got_before at n u (suc t) x is = by_first (first_got at n u t) (nat_lt u t && is_some (word_got n (at t))) (got_before at n u t) is
  where
    by_first : (o : Option ℕ) (b : Bool) → ((y : ℕ) → o ≡ Some y → y < t) → first_of o (if b then Some t else None) ≡ Some x → x < suc t
    by_first (Some y) b before found =
        let same : y ≡ x = cc in
        omega (arith, before y refl, same)
    by_first None true before found =
        let same : t ≡ x = cc in
        omega (arith, same)
    by_first None false before found = cc

replied_within : (at : ℕ → Option MachineState) (longest n : ℕ) (xs : List Reference) → All (IsWithin longest) (with_replies at (suc longest) n xs)
replied_within at longest n [] = All-nil (IsWithin longest)
replied_within at longest n (x ∷ xs) =
    All-cons (IsWithin longest) (record x { answered = first_got at n x.issued (suc longest) }) (with_replies at (suc longest) (n + 1) xs)
    (by_reply (first_got at n x.issued (suc longest)) refl) (replied_within at longest (n + 1) xs)
  where
    by_reply : (o : Option ℕ) → first_got at n x.issued (suc longest) ≡ o → (d : ℕ) → cycles_to x.issued o ≡ Some d → d ≤ longest
    by_reply None got d is = cc
    by_reply (Some t) got d is =
        let same : t - x.issued ≡ d = cc in
        omega (arith, same, got_before at n x.issued (suc longest) t got)

pub within_horizon : (P : Project) (at : ℕ → ℕ → Option MachineState) → All (IsWithin P.horizon) (references P at)
within_horizon P at = listed (2 ^ P.k)
  where
    listed : (n : ℕ) → All (IsWithin P.horizon) (flat_map (references_of P at (suc P.horizon)) (below n))
    listed zero = All-nil (IsWithin P.horizon)
    listed (suc n) =
        let e : suc n ≡ n + 1 = omega arith in
        All-same (IsWithin P.horizon) (flat_map (references_of P at (suc P.horizon)) (below (suc n)))
        (flat_map (references_of P at (suc P.horizon)) (below n) ++ references_of P at (suc P.horizon) n)
        (ap (λ i. flat_map (references_of P at (suc P.horizon)) (below i)) e ∙ flat-next (references_of P at (suc P.horizon)) n)
        (All-append (IsWithin P.horizon) (flat_map (references_of P at (suc P.horizon)) (below n)) (references_of P at (suc P.horizon) n)
        (listed n) (replied_within (λ u. at u n) P.horizon 0 (issues P at n (suc P.horizon))))
