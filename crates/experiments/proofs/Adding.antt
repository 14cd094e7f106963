-- What the cycles of a run count adds up to what the workbench answers.
use Rattle.std.proofs.Common.{◌≡◌, ℕ, zero, suc, ◌+◌, ◌-◌, ◌*◌, ◌<◌, ◌≤◌, true, List, length, map, get_or, None, Some, Ok, sym, ap, ◌∙◌, arith}
use Rattle.std.specs.Prelude.{nat_le, slice_index, slice_get, option_map, Result}
use Rattle.std.proofs.lemmas.Bool.Decides.{nat_tests}
use Rattle.std.proofs.lemmas.List.{length-map}
use Rattle.std.proofs.lemmas.Option.{slice_get-map, slice_get-get_or}
use Rattle.omega_net.specs.Numbers.{components}
use Rattle.omega_net.specs.Wires.{below}
use Rattle.machine_cells.specs.Run.{run}
use Rattle.machine_cells.specs.Runs.{state_in}
use Rattle.machine_cells.proofs.Runs.{length-below, below-get}
use Rattle.project_book.specs.Project.{Project}
use Rattle.monitor_sums.specs.Adding.{sum_below}
use Rattle.monitor_sums.specs.Counts.{count}
use Rattle.monitor_sums.specs.declared.counter.Counter.{Counter}
use Rattle.monitor_sums.proofs.Adding.{sum_none, sum_more, sum_below-same, sum_below-plus, sum_below-all}
use Rattle.run_queries.specs.Answers.{answer}
use Rattle.run_queries.specs.declared.query.Query.TheVariants.{Counter as CountOf}
use Rattle.run_queries.specs.declared.body.Body.{Body}
use Rattle.run_queries.specs.declared.body.Body.TheVariants.{Count as Counts}
use Rattle.experiments.specs.Flows.{counted_at, sum_between, IsFlow}

-- one number more
pub sum_next : (f : ℕ → ℕ) (n : ℕ) → sum_below f (n + 1) ≡ sum_below f n + f n
sum_next f n = sum_more f n

-- a table is added up by its rows or by its columns
swap : (f : ℕ → ℕ → ℕ) (m n : ℕ) → sum_below (λ c. sum_below (λ i. f i c) n) m ≡ sum_below (λ i. sum_below (λ c. f i c) m) n
unfolding sum_below
swap f m zero =
    let none : sum_below (λ c. sum_below (λ i. f i c) 0) m ≡ 0 * m = sum_below-all (λ c. sum_below (λ i. f i c) 0) 0 m (λ c b. sum_none (λ i. f i c)) in
    omega (arith, none)
swap f m (suc n) =
    sum_below-plus (λ c. sum_below (λ i. f i c) n) (λ c. f n c) m ∙ ap (λ x. x + sum_below (λ c. f n c) m) (swap f m n)

-- the number at a place
at_place : (g : ℕ → ℕ) (n i : ℕ) → i < n → slice_index (map g (below n)) i ≡ g i
at_place g n i lt =
    let there : i < length (map g (below n)) = omega (arith, length-map (below n) g, length-below n) in
    let found : slice_get (map g (below n)) i ≡ Some (get_or (map g (below n)) i 0) = slice_get-get_or (map g (below n)) i 0 there in
    let is : slice_get (map g (below n)) i ≡ Some (g i) = slice_get-map g (below n) i ∙ ap (option_map g) (below-get n i lt) in
    cc

-- what each cycle counts is a flow
pub flow_is : (P : Project) (counter : Counter) (flow : List ℕ) → flow ≡ map (counted_at counter (state_in (run P)) (components P.k)) (below (P.horizon + 1)) → IsFlow P counter flow
flow_is P counter flow is = (ap length is ∙ length-map (below (P.horizon + 1)) g ∙ length-below (P.horizon + 1), window)
  where
    g : ℕ → ℕ
    g = counted_at counter (state_in (run P)) (components P.k)

    window : (from to : ℕ) → from ≤ to → to ≤ P.horizon → answer P (CountOf counter None from to) ≡ Ok (Counts (sum_between flow from to))
    window from to order within =
        let a : nat_le from P.horizon ≡ true = grind (arith, nat_tests) in
        let b : nat_le to P.horizon ≡ true = grind (arith, nat_tests) in
        let c : nat_le from to ≡ true = grind (arith, nat_tests) in
        let says : ℕ → Result Body ℕ = λ n. Ok (Counts n) in
        rw (a, b, c) (ap says (swap (λ i d. count counter (state_in (run P) (i + from) d)) (components P.k) (to + 1 - from)
        ∙ sum_below-same (λ i. g (i + from)) (λ i. slice_index flow (i + from)) (to + 1 - from)
        (λ i lt. sym (ap (λ xs. slice_index xs (i + from)) is ∙ at_place g (P.horizon + 1) (i + from) (omega arith)))))
