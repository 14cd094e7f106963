-- The first value that is there, and spans cycle by cycle.
use Rattle.std.proofs.Common.{◌≡◌, ℕ, zero, suc, ◌+◌, ◌-◌, ◌<◌, refl, ap, ◌∙◌, Option, None, Some, arith, add-one}
use Rattle.omega_net.specs.declared.message.Tag.{Tag}
use Rattle.project_book.specs.Project.{Project}
use Rattle.machine_cells.specs.declared.state.MachineState.{MachineState}
use Rattle.run_queries.specs.Answers.{first_of}
use Rattle.run_reports.specs.Traces.{carried_by, carrier_after, first_there, spans_before, spot_of, with_spot}

-- none of the first is there, and the next is not
pub none_more : {T : Type 0} (f : ℕ → Option T) (n : ℕ) → first_there f n ≡ None → f n ≡ None → first_there f (n + 1) ≡ None
none_more f n none next = rw (add-one, none, next) refl

-- what was found first stays
kept : {T : Type 0} (f : ℕ → Option T) (n m : ℕ) (x : T) → first_there f n ≡ Some x → first_there f (n + m) ≡ Some x
kept f n zero x is =
    let e : n + 0 ≡ n = omega arith in
    ap (first_there f) e ∙ is
kept f n (suc m) x is =
    let e : n + suc m ≡ suc (n + m) = omega arith in
    ap (first_there f) e ∙ ap (λ o. first_of o (f (n + m))) (kept f n m x is)

pub there_at : {T : Type 0} (f : ℕ → Option T) (n size : ℕ) (x : T) → n < size → first_there f n ≡ None → f n ≡ Some x → first_there f size ≡ Some x
there_at f n size x less none is =
    let e : size ≡ (n + 1) + (size - (n + 1)) = omega (arith, less) in
    let here : first_there f (n + 1) ≡ Some x = rw (add-one, none, is) refl in
    ap (first_there f) e ∙ kept f (n + 1) (size - (n + 1)) x here

-- one stage more, and one cycle more
pub stage_more : (k : ℕ) (S : ℕ → Option MachineState) (x : Tag) (n : ℕ) → carrier_after k S x (n + 1) ≡ carried_by k S (carrier_after k S x n)
stage_more k S x n = rw add-one refl

pub cycle_more : (P : Project) (at : ℕ → ℕ → Option MachineState) (x : Tag) (t : ℕ) → spans_before P at x (t + 1) ≡ with_spot t (spot_of P.k (at t) x) (spans_before P at x t)
cycle_more P at x t = rw add-one refl
