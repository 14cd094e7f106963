-- A list with a value for each number, changed one by one; and completions, cycle by cycle.
use Rattle.std.proofs.Common.{◌≡◌, ℕ, ◌+◌, ◌<◌, ◌≤◌, Bool, true, false, List, [], ◌∷◌, ◌++◌, length, get_or, set, map, refl, sym, ap, ap₂, ◌∙◌, Option, None, Some, arith, add-one}
use Rattle.std.specs.Prelude.{◌==◌, if◌then◌else◌, slice_get, option_map}
use Rattle.std.proofs.Math.ListN.{length-set}
use Rattle.std.proofs.lemmas.Bool.{eqb-true}
use Rattle.std.proofs.lemmas.Bool.Decides.{nat_tests}
use Rattle.std.proofs.lemmas.List.{get_or-set_same, length-map, same_lists}
use Rattle.std.proofs.lemmas.Option.{slice_get-get_or, slice_get-map}
use Rattle.omega_net.specs.Numbers.{lines}
use Rattle.omega_net.specs.Wires.{below}
use Rattle.project_book.specs.Project.{Project, length_at}
use Rattle.project_book.proofs.Leaving.{set_other}
use Rattle.machine_cells.specs.declared.state.MachineState.{MachineState}
use Rattle.machine_cells.specs.declared.state.MachineState.TheVariants.{Proc}
use Rattle.machine_cells.specs.Run.{run}
use Rattle.machine_cells.specs.Runs.{state_in}
use Rattle.machine_cells.proofs.Runs.{below-get, length-below}
use Rattle.flat_row.specs.Row.{proc_of}
use Rattle.run_queries.specs.Answers.{first_of}
use Rattle.run_reports.specs.declared.completion.Completion.{Completion}
use Rattle.run_reports.specs.declared.runner.Runner.{Runner}
use Rattle.run_reports.specs.Completions.{completion_of, has_ended, has_reply}
use Rattle.run_reports.specs.Figures.{first_that, last_that}
use Rattle.run_reports.specs.Runners.{IsAt}
use Rattle.run_reports.proofs.Figuring.{last_more}
use Rattle.run_reports.proofs.Runners.{proc_shows}

-- before a place the values of f, from it on those of g
pub record Partly {X : Type 0} (f g : ℕ → X) (i n : ℕ) (xs : List X) : Type 0 where
  pub many : length xs ≡ n
  pub done : (p : ℕ) → p < i → p < n → slice_get xs p ≡ Some (f p)
  pub rest : (p : ℕ) → i ≤ p → p < n → slice_get xs p ≡ Some (g p)

some_is : {X : Type 0} {x y : X} → Some x ≡ Some y → x ≡ y
some_is h = cc

module _ {X : Type 0} (f g : ℕ → X) (n : ℕ) where
  listed : (h : ℕ → X) (p : ℕ) → p < n → slice_get (map h (below n)) p ≡ Some (h p)
  listed h p less = slice_get-map h (below n) p ∙ ap (option_map h) (below-get n p less)

  many_listed : (h : ℕ → X) → length (map h (below n)) ≡ n
  many_listed h = length-map (below n) h ∙ length-below n

  pub none_done : (xs : List X) → xs ≡ map g (below n) → Partly f g 0 n xs
  none_done xs are = record {
    many = ap length are ∙ many_listed g;
    done = λ p less within. absurd (omega arith);
    rest = λ p le within. ap (λ v. slice_get v p) are ∙ listed g p within;
  }

  pub value_there : (i : ℕ) (xs : List X) (x : X) → Partly f g i n xs → i < n → x ≡ get_or xs i x → x ≡ g i
  value_there i xs x are less is =
      let within : i < length xs = omega (arith, are.many) in
      some_is (ap Some is ∙ sym (slice_get-get_or xs i x within) ∙ are.rest i (omega arith) less)

  pub one_done : (i : ℕ) (xs new : List X) (x : X) → Partly f g i n xs → i < n → new ≡ set xs i x → x ≡ f i → Partly f g (i + 1) n new
  one_done i xs new x are less put is = record {
    many = ap length put ∙ length-set xs i x ∙ are.many;
    done = λ p before within. ap (λ v. slice_get v p) put ∙ by_place p before within (p == i) refl;
    rest = λ p behind within.
        let other : p ≡ i → ⊥ = λ e. omega (arith, e) in
        ap (λ v. slice_get v p) put ∙ set_other xs i p x other ∙ are.rest p (omega arith) within;
  }
    where
      longer : i < length (set xs i x)
      longer = omega (arith, less, are.many, length-set xs i x)

      by_place : (p : ℕ) → p < i + 1 → p < n → (t : Bool) → (p == i) ≡ t → slice_get (set xs i x) p ≡ Some (f p)
      by_place p before within true e =
          let same : p ≡ i = eqb-true p i e in
          let own : i < length xs = omega (arith, less, are.many) in
          ap (slice_get (set xs i x)) same
          ∙ slice_get-get_or (set xs i x) i x longer
          ∙ ap Some (get_or-set_same xs i x x own ∙ is)
          ∙ ap (λ q. Some (f q)) (sym same)
      by_place p before within false e =
          let earlier : p < i = grind (arith, nat_tests) in
          let other : p ≡ i → ⊥ = λ h. omega (arith, h, earlier) in
          set_other xs i p x other ∙ are.done p earlier within

  pub all_done : (i : ℕ) (xs : List X) → Partly f g i n xs → n ≤ i → xs ≡ map f (below n)
  all_done i xs are all = same_lists xs (map f (below n)) (are.many ∙ sym (many_listed f)) (λ p d less.
      let within : p < n = omega (arith, less, are.many) in
      let long : p < length (map f (below n)) = omega (arith, within, many_listed f) in
      some_is (sym (slice_get-get_or xs p d less) ∙ are.done p (omega (arith, within, all)) within ∙ sym (listed f p within) ∙ slice_get-get_or (map f (below n)) p d long))

-- one value more
pub one_more_value : {X : Type 0} (f : ℕ → X) (n : ℕ) → map f (below (n + 1)) ≡ map f (below n) ++ f n ∷ []
one_more_value f n = rw add-one (behind (below n))
  where
    behind : (xs : List ℕ) → map f (xs ++ n ∷ []) ≡ map f xs ++ f n ∷ []
    behind [] = refl
    behind (x ∷ xs) = ap (λ ys. f x ∷ ys) (behind xs)

-- the state of one cycle more is seen
pub seen : (P : Project) (r : Runner) (p : ℕ) (before new : Completion) → IsAt P r → p < lines P.k → before ≡ completion_of P (state_in (run P)) r.cycle p
    → new.proc ≡ p → new.last_reply ≡ (if has_reply (Some (Proc (proc_of r.row p))) then Some r.cycle else before.last_reply)
    → new.script_end ≡ first_of before.script_end (if has_ended (length_at P p) (Some (Proc (proc_of r.row p))) then Some r.cycle else None)
    → new ≡ completion_of P (state_in (run P)) (r.cycle + 1) p
seen P r p before new at there is proc reply end = rw (proc, replied, ended) refl
  where
    shown : Option MachineState
    shown = Some (Proc (proc_of r.row p))

    now : state_in (run P) r.cycle p ≡ shown
    now = proc_shows P r at p there

    answers : ℕ → Bool
    answers u = has_reply (state_in (run P) u p)

    ends : ℕ → Bool
    ends u = has_ended (length_at P p) (state_in (run P) u p)

    replied : new.last_reply ≡ last_that answers (r.cycle + 1)
    replied =
        reply
        ∙ ap₂ (λ (b : Bool) (o : Option ℕ). if b then Some r.cycle else o) (ap has_reply (sym now)) (ap (λ (c : Completion). c.last_reply) is)
        ∙ sym (last_more answers r.cycle)

    first_more : first_that ends (r.cycle + 1) ≡ first_of (first_that ends r.cycle) (if ends r.cycle then Some r.cycle else None)
    first_more = rw add-one refl

    ended : new.script_end ≡ first_that ends (r.cycle + 1)
    ended =
        end
        ∙ ap₂ (λ (o : Option ℕ) (b : Bool). first_of o (if b then Some r.cycle else None)) (ap (λ (c : Completion). c.script_end) is) (ap (has_ended (length_at P p)) (sym now))
        ∙ sym first_more
