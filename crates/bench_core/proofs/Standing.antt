-- A bench stands for its events.
use Rattle.std.proofs.Common.{◌≡◌, ◌↔◌, ℕ, ◌<◌, ◌∙◌, sym, ap, subst, refl, List, [], ◌∷◌, ◌++◌, length, Result, Ok, Err}
use Rattle.std.specs.Prelude.{OnOk}
use Rattle.grid_law.specs.Rules.{Differ}
use Rattle.due_cells.specs.Seen.{Seen}
use Rattle.cell_table.specs.Touches.{IsAfterTouch}
use Rattle.cell_table.specs.Cells.{IsThere}
use Rattle.cell_table.specs.Cost.{Costs as CostsOnTable, CostsAnEdit}
use Rattle.cell_table.specs.Settling.{IsSettled}
use Rattle.cell_table.specs.Events.{Edits, slots_of, horizon_of}
use Rattle.cell_table.proofs.EditCosting.{costs_edit, edit_costs}
use Rattle.bench_core.specs.Answers.{Costs}
use Rattle.cell_table.specs.Stands.{Stands as TableStands}
use Rattle.cell_table.proofs.Standing.{stands_touched}
use Rattle.machine_cells.specs.declared.state.MachineState.{MachineState}
use Rattle.machine_cells.specs.GridRules.{rp3_rules}
use Rattle.machine_cells.specs.GridLaws.{rp3_laws}
use Rattle.project_book.specs.Project.{Project}
use Rattle.project_book.specs.Slots.{Touches}
use Rattle.project_book.specs.Edits.{accepts, edited}
use Rattle.project_book.specs.declared.edit.Edit.{Edit}
use Rattle.project_book.specs.declared.slot.Slot.{Slot}
use Rattle.bench_core.specs.Shown.{Shown, project_of, version_of}
use Rattle.bench_core.specs.Events.{Event, Edited, Opening, version_after, project_after, on_table, table_start}
use Rattle.bench_core.specs.Stands.{Stands}
use Rattle.bench_core.specs.Edits.{admits, IsAfterEdit}
use Rattle.bench_core.proofs.Admitting.{admitted}
use Rattle.bench_core.proofs.Touching.{differ}

pub stands_new : (o : Opening) (table : Seen MachineState Project) → TableStands rp3_rules (table_start o) table [] → Stands o (record { table = table; journal = [] }) []
stands_new o table stands = record { accepted = tt; journal = refl; table = stands }

-- the table's slots are the project after the events, and its horizon that of the project
slots_are : (o : Opening) (h : List Event) → (slots_of (table_start o) (on_table o h) ≡ project_after o h) × (horizon_of (table_start o) (on_table o h) ≡ (project_after o h).horizon)
slots_are o [] = (refl, refl)
slots_are o (Edited author e listed ∷ h) = (refl, refl)
slots_are o (_ ∷ h) = slots_are o h

module _ (o : Opening) (b : Shown) (h : List Event) (stands : Stands o b h) where
  pub project_is : project_of b ≡ project_after o h
  project_is = stands.table.slots ∙ (slots_are o h).0

  pub horizon_now : b.table.horizon ≡ (project_of b).horizon
  horizon_now = stands.table.horizon ∙ (slots_are o h).1 ∙ ap (λ (P : Project). P.horizon) (sym project_is)

  pub version_is : version_of b ≡ version_after h
  version_is = ap length stands.journal

  -- an edit
  pub stands_edited : (new : Shown) (author : ℕ) (e : Edit) → admits b e ≡ Ok tt → (after : IsAfterEdit b new author e) → Stands o new (Edited author e after.listed ∷ h)
  stands_edited new author e ok after = record {
    accepted = (
      subst (λ v. accepts (project_after o h) v e ≡ Ok tt) version_is (subst (λ P. accepts P (version_of b) e ≡ Ok tt) project_is (admitted b e ok)),
      subst (λ P. Touches P (edited P e) after.listed) project_is after.touches,
      stands.accepted,
    );
    journal = after.journal ∙ ap (λ noted. noted ++ record { author = author; edit = e } ∷ []) stands.journal;
    table = stands_touched rp3_rules rp3_laws (table_start o) b.table new.table (on_table o h) stands.table (edited (project_after o h) e) after.listed (edited (project_after o h) e).horizon
        (subst (λ P. Differ rp3_rules (project_of b) (edited P e) after.listed) project_is (differ (project_of b) (edited (project_of b) e) after.listed after.touches))
        (subst (λ P. IsAfterTouch rp3_rules b.table new.table (edited P e) after.listed (edited P e).horizon) project_is after.table);
  }

-- the same, as it comes from a call
pub edit_stands : (old new : Shown) (author : ℕ) (e : Edit) {E : Type 0} (r : Result ℕ E) → OnOk r (admits old e ≡ Ok tt) → OnOk r (IsAfterEdit old new author e)
    → OnOk r ((listed : List Slot) × ((o : Opening) (h : List Event) → Stands o old h → Stands o new (Edited author e listed ∷ h)))
edit_stands old new author e (Ok v) ok after = (after.listed, λ o h stands. stands_edited o old h stands new author e ok after)
edit_stands old new author e (Err fault) ok after = tt

-- what an edit of a settled bench costs
pub edit_costed : (old new : Shown) (author : ℕ) (e : Edit) {E : Type 0} (r : Result ℕ E) → OnOk r (IsAfterEdit old new author e)
    → OnOk r ((o : Opening) (h : List Event) (listed : List Slot) → Stands o old h → Touches (project_of old) (edited (project_of old) e) listed → IsSettled rp3_rules old.table → (t c : ℕ) → IsThere rp3_rules new.table t c
    → Costs o (Edited author e listed ∷ h) t c ↔ CostsAnEdit rp3_rules (project_of old) (edited (project_of old) e) listed (project_of old).horizon t c)
edit_costed old new author e (Err fault) after = tt
edit_costed old new author e (Ok v) after = λ o h listed stands touches settled t c there.
    let next = edited (project_of old) e in
    let differ = differ (project_of old) next listed touches in
    let inside : c < rp3_rules.components (project_of old) = subst (λ n. c < n) (ap rp3_rules.components after.table.slots ∙ sym (rp3_laws.shape_components (project_of old) next differ.shape)) there.component in
    subst (λ n. Costs o (Edited author e listed ∷ h) t c ↔ CostsAnEdit rp3_rules (project_of old) next listed n t c) (horizon_now o old h stands)
    (subst (λ (P : Project). CostsOnTable rp3_rules (table_start o) (Edits (edited P e) listed (edited P e).horizon ∷ on_table o h) t c ↔ CostsAnEdit rp3_rules (project_of old) next listed old.table.horizon t c) (project_is o old h stands) (
      costs_edit rp3_rules rp3_laws (table_start o) old.table (on_table o h) stands.table settled next listed next.horizon differ t c inside,
      edit_costs rp3_rules rp3_laws (table_start o) old.table (on_table o h) stands.table settled next listed next.horizon differ t c inside,
    ))
