-- The tags of numbered rows are those of the one order.
use Rattle.std.proofs.Common.{◌≡◌, ℕ, zero, suc, ◌+◌, ◌<◌, ◌≤◌, List, [], ◌∷◌, ◌++◌, length, map, drop, get_or, refl, sym, ap, ◌∙◌, arith, append_assoc, Option}
use Rattle.std.specs.Prelude.{slice_get, option_and_then}
use Rattle.std.specs.List.{flat_map}
use Rattle.std.proofs.lemmas.List.{map-append, append-nil}
use Rattle.std.proofs.Math.Seq.{drop-cons, drop-length}
use Rattle.omega_net.specs.declared.message.Tag.{Tag}
use Rattle.omega_net.specs.Wires.{below}
use Rattle.machine_cells.specs.declared.state.MachineState.{MachineState}
use Rattle.machine_cells.specs.Run.{run}
use Rattle.machine_cells.specs.Runs.{state_in}
use Rattle.project_book.specs.Project.{Project}
use Rattle.serial_order.specs.OneOrder.{all_now, one_order}
use Rattle.serial_order.proofs.Always.{states_at}
use Rattle.serial_order.proofs.Explaining.{row}
use Rattle.serial_order.proofs.OneList.{one_before, one_read}
use Rattle.experiments.specs.declared.order.OrderRow.{OrderRow}
use Rattle.experiments.specs.declared.order.Service.{Service}
use Rattle.experiments.specs.Orders.{order_rows, row_of, rows_from, service_at, services, step_services}
use Rattle.experiments.proofs.Waits.{flat-next}

abbrev row_tags : List OrderRow → List Tag
row_tags rows = map (λ r. r.tag) rows

abbrev service_tags : List Service → List Tag
service_tags ss = map (λ s. s.tag) ss

module _ (P : Project) where
  abbrev at : ℕ → ℕ → Option MachineState
  at = state_in (run P)

  tags_from : (n : ℕ) (ss : List Service) → row_tags (rows_from P at n ss) ≡ service_tags ss
  tags_from n [] = refl
  tags_from n (s ∷ ss) = ap (λ rest. s.tag ∷ rest) (tags_from (n + 1) ss)

  step_tags : (t : ℕ) (tags : List Tag) → service_tags (map (service_at t) tags) ≡ tags
  step_tags t [] = refl
  step_tags t (tag ∷ rest) = ap (λ more. tag ∷ more) (step_tags t rest)

  -- what is served in the step from a cycle of the run
  step_is : (t : ℕ) → t ≤ P.horizon → all_now P (at t) ≡ all_now P (slice_get (states_at P t))
  step_is t h = ap (λ (o : Option (List MachineState)). all_now P (λ c. option_and_then (λ S. slice_get S c) o)) (row P t h)

  tags_before : (t : ℕ) → t ≤ P.horizon → service_tags (flat_map (step_services P at) (below t)) ≡ one_before P t
  tags_before zero h = refl
  tags_before (suc t) h =
      let e : suc t ≡ t + 1 = omega arith in
      ap (λ n. service_tags (flat_map (step_services P at) (below n))) e
      ∙ ap service_tags (flat-next (step_services P at) t)
      ∙ map-append (λ (s : Service). s.tag) (flat_map (step_services P at) (below t)) (step_services P at t)
      ∙ ap (λ (before : List Tag). before ++ service_tags (step_services P at t)) (tags_before t (omega arith))
      ∙ ap (λ (now : List Tag). one_before P t ++ now) (step_tags (t + 1) (all_now P (at t)) ∙ step_is t (omega arith))

  pub order_tags : row_tags (order_rows P at) ≡ one_order P
  order_tags = tags_from 1 (services P at) ∙ tags_before P.horizon (omega arith) ∙ one_read P

-- one row more
pub row_next : (P : Project) (at : ℕ → ℕ → Option MachineState) (n i : ℕ) (ss : List Service) (d : Service) (xs ys all : List OrderRow) (r : OrderRow) → i < length ss
    → r ≡ row_of P at n (get_or ss i d) → ys ≡ xs ++ r ∷ [] → xs ++ rows_from P at n (drop i ss) ≡ all → ys ++ rows_from P at (n + 1) (drop (i + 1) ss) ≡ all
row_next P at n i ss d xs ys all r lt is pushed before =
    let e : i + 1 ≡ suc i = omega arith in
    ap (λ (z : List OrderRow). z ++ rows_from P at (n + 1) (drop (i + 1) ss)) pushed
    ∙ append_assoc xs (r ∷ []) (rows_from P at (n + 1) (drop (i + 1) ss))
    ∙ ap (λ (x : OrderRow). xs ++ x ∷ rows_from P at (n + 1) (drop (i + 1) ss)) is
    ∙ ap (λ j. xs ++ row_of P at n (get_or ss i d) ∷ rows_from P at (n + 1) (drop j ss)) e
    ∙ ap (λ (rest : List Service). xs ++ rows_from P at n rest) (sym (drop-cons ss i d lt))
    ∙ before

-- all rows
pub rows_listed : (P : Project) (R : List (List MachineState)) (ss : List Service) (listed : List OrderRow) (n i : ℕ) → R ≡ run P
    → ss ≡ services P (state_in (run P)) → i ≡ length ss → listed ++ rows_from P (state_in R) n (drop i ss) ≡ rows_from P (state_in R) 1 ss
    → listed ≡ order_rows P (state_in (run P))
rows_listed P R ss listed n i runs served end is =
    sym (append-nil listed)
    ∙ ap (λ (rest : List Service). listed ++ rows_from P (state_in R) n rest) (sym (ap (λ j. drop j ss) end ∙ drop-length ss))
    ∙ is
    ∙ ap (λ (S : List (List MachineState)). rows_from P (state_in S) 1 ss) runs
    ∙ ap (rows_from P (state_in (run P)) 1) served
