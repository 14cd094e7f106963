-- A cell's state is that of the cell before it.
use Rattle.std.proofs.Common.{◌≡◌, ℕ, ◌-◌, ◌<◌, ◌∙◌, sym, ap, arith, false, Some, unwrap_or, List, [], ◌∷◌, All, Result, Ok, Err, IfOk}
use Rattle.grid_law.specs.Rules.{Rules, Laws, result_of}
use Rattle.due_cells.specs.Seen.{Seen, row_at, held_in, held_at}
use Rattle.cell_table.specs.Cells.{IsThere}
use Rattle.due_cells.specs.Inputs.{states_of, inputs_of}
use Rattle.cell_table.specs.Consistent.{IsTable, IsCurrent, current_of}
use Rattle.cell_table.specs.Settling.{IsAsBefore}
use Rattle.due_cells.proofs.States.{Parts, parts_of}
use Rattle.cell_table.proofs.Tables.{inputs_later}
use Rattle.cell_table.proofs.Asking.{same_next}

module _ {State Slots Slot : Type 0} (R : Rules State Slots Slot) (v : Seen State Slots) (t c : ℕ) where
  -- the near cells held one cycle earlier what they held two cycles earlier, and the cell before isn't due
  pub as_before : IsTable R v.slots v.horizon v.rows → IsThere R v t c → 1 < t → (held_at v.rows (t - 1) c).is_due ≡ false → All (λ m. (held_at v.rows (t - 1 - 1) m).state ≡ (held_at v.rows (t - 1) m).state) (R.near v.slots c) → IsAsBefore R v t c
  as_before table there h due stay =
      let k : IsCurrent R v.slots v.rows (t - 1) c = table.consistent (t - 1) c (omega (arith, there.cycle)) there.component due in
      let same : inputs_of R v.slots v.rows t c ≡ Some k.is_current.inputs = same_next R v.slots v.rows c t h stay ∙ k.is_current.are_held in
      record {
        later = omega (arith, h);
        holds = k.holds ∙ ap Some (k.is_current.computed ∙ sym (ap (λ o. result_of R v.slots (unwrap_or o []) c) same));
      }

  -- what is stepped from the near states is current
  pub steps_current : Laws R → 0 < t → (xs : List State) → inputs_of R v.slots v.rows t c ≡ Some xs → R.step v.slots xs c ≡ current_of R v.slots v.rows t c
  steps_current laws h xs whole =
      let own : (rest : List ℕ) × (R.near v.slots c ≡ c ∷ rest) = laws.near_first v.slots c in
      let near : states_of (row_at v.rows (t - 1)) (R.near v.slots c) ≡ Some xs = sym (inputs_later R v.slots v.rows t c (λ e. absurd (omega (arith, h, e)))) ∙ whole in
      let parts : Parts (held_in (row_at v.rows (t - 1)) c).state (states_of (row_at v.rows (t - 1)) own.0) xs = parts_of (held_in (row_at v.rows (t - 1)) c).state (states_of (row_at v.rows (t - 1)) own.0) xs (ap (states_of (row_at v.rows (t - 1))) (sym own.1) ∙ near) in
      ap (λ ys. R.step v.slots ys c) parts.whole ∙ sym (ap (λ ys. result_of R v.slots ys c) parts.whole) ∙ sym (ap (λ o. result_of R v.slots (unwrap_or o []) c) whole)

-- of an answer
pub ok_along : {X E : Type 0} {P Q : X → Type 0} → ((x : X) → P x → Q x) → (r : Result X E) → IfOk r P → IfOk r Q
ok_along f (Ok x) h = f x h
ok_along f (Err e) h = h
