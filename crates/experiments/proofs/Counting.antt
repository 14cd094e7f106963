-- What the components of a run count at a cycle.
use Rattle.std.proofs.Common.{◌≡◌, ℕ, ◌+◌, ◌-◌, ◌*◌, ◌<◌, ◌≤◌, Bool, true, false, cond, List, [], ◌∷◌, ◌++◌, map, Option, refl, sym, ap, ap₂, ◌∙◌, None, Some, arith}
use Rattle.std.specs.Prelude.{is_some}
use Rattle.std.proofs.lemmas.Bool.{le-ltb}
use Rattle.omega_net.specs.declared.component.Net.TheVariants.{Low as LowNet, Comb as CombNet}
use Rattle.omega_net.specs.declared.component.Component.TheVariants.{Proc as ProcAt, Module as ModuleAt}
use Rattle.omega_net.specs.declared.message.Reply.{Reply}
use Rattle.omega_net.specs.Numbers.{lines, components, first_switch, component_of, switch_at}
use Rattle.omega_net.specs.Ports.{message_at}
use Rattle.omega_net.specs.Wires.{below}
use Rattle.project_book.specs.Project.{Project}
use Rattle.machine_cells.specs.Run.{run}
use Rattle.machine_cells.specs.Runs.{state_in}
use Rattle.monitor_sums.specs.Adding.{sum_below}
use Rattle.monitor_sums.specs.Counts.{answered, count, one, served}
use Rattle.monitor_sums.specs.declared.counter.Counter.TheVariants.{Answered, Served}
use Rattle.monitor_sums.proofs.Adding.{sum_more, sum_below-all, sum_below-cut, sum_below-split}
use Rattle.saturation.proofs.Below.{map-next}
use Rattle.flat_row.specs.Row.{Arrays, state_of, proc_of, module_of}
use Rattle.run_reports.specs.declared.runner.Runner.{Runner}
use Rattle.experiments.specs.Flows.{counted_at}
use Rattle.run_reports.specs.Runners.{IsAt}
use Rattle.run_reports.proofs.Runners.{shows_at, proc_shows, module_shows}

-- no component but a processor receives replies, and none but a module serves
none_answered : (R : Arrays) (k n : ℕ) → lines k ≤ n → answered (state_of R (component_of k n)) ≡ 0
none_answered R k n behind = by_tests _ _ _ _ (le-ltb n (lines k) behind)
  where
    by_tests : (a b c d : Bool) → a ≡ false → answered (state_of R (cond a (Some (ProcAt n)) (cond b (Some (ModuleAt (n - lines k)))
        (cond c (Some (switch_at k LowNet (n - first_switch k LowNet))) (cond d (Some (switch_at k CombNet (n - first_switch k CombNet))) None))))) ≡ 0
    by_tests true b c d e = cc
    by_tests false true c d e = refl
    by_tests false false true d e = refl
    by_tests false false false true e = refl
    by_tests false false false false e = refl

none_served : (R : Arrays) (k n : ℕ) → 2 * lines k ≤ n → served (state_of R (component_of k n)) ≡ 0
none_served R k n behind = by_tests _ _ _ _ (le-ltb n (2 * lines k) behind)
  where
    by_tests : (a b c d : Bool) → b ≡ false → served (state_of R (cond a (Some (ProcAt n)) (cond b (Some (ModuleAt (n - lines k)))
        (cond c (Some (switch_at k LowNet (n - first_switch k LowNet))) (cond d (Some (switch_at k CombNet (n - first_switch k CombNet))) None))))) ≡ 0
    by_tests true b c d e = refl
    by_tests false true c d e = cc
    by_tests false false true d e = refl
    by_tests false false false true e = refl
    by_tests false false false false e = refl

module _ (P : Project) (r : Runner) (at : IsAt P r) where
  abbrev answers : ℕ → ℕ
  answers c = count Answered (state_in (run P) r.cycle c)

  abbrev serves : ℕ → ℕ
  serves c = count Served (state_in (run P) r.cycle c)

  -- what a processor, and a module, count
  pub proc_answers : (p : ℕ) → p < lines P.k → count Answered (state_in (run P) r.cycle p)
      ≡ one (is_some (message_at (proc_of r.row p).got 0)) + one (is_some (message_at (proc_of r.row p).got 1))
  proc_answers p there = ap (count Answered) (proc_shows P r at p there)

  pub module_serves : (m : ℕ) → m < lines P.k → count Served (state_in (run P) r.cycle (m + lines P.k)) ≡ one (module_of r.row m).served
  module_serves m there =
      let turned : m + lines P.k ≡ lines P.k + m = omega arith in
      ap serves turned ∙ ap (count Served) (module_shows P r at m there)

  -- all components count what the processors, and what the modules do
  pub procs_answer : sum_below answers (components P.k) ≡ sum_below answers (lines P.k)
  procs_answer = sum_below-cut answers (lines P.k) (components P.k) (omega arith)
      (λ c low high. ap (count Answered) (shows_at P r at c high) ∙ none_answered r.row P.k c low)

  pub modules_serve : sum_below serves (components P.k) ≡ sum_below (λ m. serves (m + lines P.k)) (lines P.k)
  modules_serve =
      let rest : components P.k ≡ lines P.k + (components P.k - lines P.k) = omega arith in
      let procs : sum_below serves (lines P.k) ≡ 0 * lines P.k = sum_below-all serves 0 (lines P.k) (λ p there. ap (count Served) (proc_shows P r at p there)) in
      let split : sum_below serves (lines P.k + (components P.k - lines P.k)) ≡ sum_below serves (lines P.k) + sum_below (λ m. serves (m + lines P.k)) (components P.k - lines P.k) =
      sum_below-split serves (lines P.k) (components P.k - lines P.k) in
      let cut : sum_below (λ m. serves (m + lines P.k)) (components P.k - lines P.k) ≡ sum_below (λ m. serves (m + lines P.k)) (lines P.k) =
      sum_below-cut (λ m. serves (m + lines P.k)) (lines P.k) (components P.k - lines P.k) (omega arith)
      (λ m low high. ap (count Served) (shows_at P r at (m + lines P.k) (omega (arith, high))) ∙ none_served r.row P.k (m + lines P.k) (omega (arith, low))) in
      ap (sum_below serves) rest ∙ split ∙ omega (arith, procs, cut)

-- what the first modules count
abbrev pub served_by : Project → ℕ → ℕ → ℕ
served_by P t n = sum_below (λ m. count Served (state_in (run P) t (m + lines P.k))) n

module _ (P : Project) (r : Runner) (at : IsAt P r) where
  -- one processor more, and all of them
  pub answer_next : (p sum more : ℕ) → p < lines P.k → sum ≡ counted_at Answered (state_in (run P)) p r.cycle → (got : List (Option Reply)) → got ≡ (proc_of r.row p).got
      → more ≡ one (is_some (message_at got 0)) + one (is_some (message_at got 1)) → sum + more ≡ counted_at Answered (state_in (run P)) (p + 1) r.cycle
  answer_next p sum more there so_far got is count_is =
      let own : more ≡ count Answered (state_in (run P) r.cycle p) =
      count_is ∙ ap (λ (g : List (Option Reply)). one (is_some (message_at g 0)) + one (is_some (message_at g 1))) is ∙ sym (proc_answers P r at p there) in
      ap₂ (λ (a b : ℕ). a + b) so_far own ∙ sym (sum_more (λ c. count Answered (state_in (run P) r.cycle c)) p)

  pub answers_all : (p sum : ℕ) → p ≡ lines P.k → sum ≡ counted_at Answered (state_in (run P)) p r.cycle → sum ≡ counted_at Answered (state_in (run P)) (components P.k) r.cycle
  answers_all p sum all is = is ∙ ap (λ n. counted_at Answered (state_in (run P)) n r.cycle) all ∙ sym (procs_answer P r at)

  -- one module more, and all of them
  pub serve_next : (m sum : ℕ) (b : Bool) → m < lines P.k → sum ≡ served_by P r.cycle m → b ≡ (module_of r.row m).served → sum + one b ≡ served_by P r.cycle (m + 1)
  serve_next m sum b there so_far is =
      ap₂ (λ (a n : ℕ). a + n) so_far (ap one is ∙ sym (module_serves P r at m there)) ∙ sym (sum_more (λ c. count Served (state_in (run P) r.cycle (c + lines P.k))) m)

  pub serves_all : (m sum : ℕ) → m ≡ lines P.k → sum ≡ served_by P r.cycle m → sum ≡ counted_at Served (state_in (run P)) (components P.k) r.cycle
  serves_all m sum all is = is ∙ ap (served_by P r.cycle) all ∙ sym (modules_serve P r at)

-- what the first cycle counts, and what one more does
pub first_counted : (g : ℕ → ℕ) (t : ℕ) (old new : List ℕ) → t ≡ 0 → old ≡ [] → new ≡ old ++ g t ∷ [] → new ≡ map g (below (0 + 1))
first_counted g t old new first empty pushed = pushed ∙ ap₂ (λ (xs : List ℕ) (u : ℕ). xs ++ g u ∷ []) empty first

pub next_counted : (g : ℕ → ℕ) (i t : ℕ) (xs new : List ℕ) → t ≡ i + 1 → xs ≡ map g (below (i + 1)) → new ≡ xs ++ g t ∷ [] → new ≡ map g (below (i + 1 + 1))
next_counted g i t xs new later so_far pushed =
    pushed ∙ ap₂ (λ (ys : List ℕ) (u : ℕ). ys ++ g u ∷ []) so_far later ∙ sym (map-next g (i + 1))
