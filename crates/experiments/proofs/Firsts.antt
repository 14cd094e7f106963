-- The first issue of a number stays the first.
use Rattle.std.proofs.Common.{◌≡◌, ℕ, zero, suc, ◌+◌, ◌-◌, ◌<◌, refl, sym, ◌∙◌, ap, arith, Option, None, Some}
use Rattle.machine_cells.specs.declared.state.MachineState.{MachineState}
use Rattle.project_book.specs.Project.{Project}
use Rattle.experiments.specs.declared.order.Issue.{Issue}
use Rattle.experiments.specs.Orders.{first_issue, issued_in}

module _ (P : Project) (at : ℕ → Option MachineState) (n : ℕ) where
  -- one cycle without it more
  pub no_issue : (t : ℕ) → first_issue P at n t ≡ None → issued_in P n t (at t) ≡ None → first_issue P at n (t + 1) ≡ None
  no_issue t none is = let e : t + 1 ≡ suc t = omega arith in rw (e, none, is) refl

  stays : (t d : ℕ) (i : Issue) → first_issue P at n t ≡ None → issued_in P n t (at t) ≡ Some i → first_issue P at n (suc t + d) ≡ Some i
  stays t zero i none is = let e : suc t + 0 ≡ suc t = omega arith in rw (e, none, is) refl
  stays t (suc d) i none is = let e : suc t + suc d ≡ suc (suc t + d) = omega arith in rw (e, stays t d i none is) refl

  pub issue_stays : (t end : ℕ) (i : Issue) → first_issue P at n t ≡ None → issued_in P n t (at t) ≡ Some i → t < end → first_issue P at n end ≡ Some i
  issue_stays t end i none is lt =
      let e : suc t + (end - suc t) ≡ end = omega arith in
      ap (first_issue P at n) (sym e) ∙ stays t (end - suc t) i none is
