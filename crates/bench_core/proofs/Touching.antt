-- An edit touches the table.
use Rattle.std.proofs.Common.{◌≡◌, ℕ, ◌<◌, ◌≤◌, ◌∙◌, sym, ap, subst, refl, arith, Option, List, [], ◌∷◌, ◌++◌, length}
use Rattle.std.specs.Option.{unwrap_or}
use Rattle.std.proofs.lemmas.Bool.Decides.{nat_tests}
use Rattle.std.proofs.lemmas.List.{length_push}
use Rattle.grid_law.specs.Rules.{Differ}
use Rattle.due_cells.specs.Seen.{Seen}
use Rattle.cell_table.specs.Touches.{IsAfterTouch}
use Rattle.machine_cells.specs.declared.state.MachineState.{MachineState}
use Rattle.machine_cells.specs.GridRules.{rp3_rules}
use Rattle.project_book.specs.Project.{Project}
use Rattle.project_book.specs.Slots.{Touches}
use Rattle.project_book.specs.Edits.{edited, new_horizon}
use Rattle.project_book.specs.Limits.{max_edits}
use Rattle.project_book.specs.declared.edit.Edit.{Edit}
use Rattle.project_book.specs.declared.slot.Slot.{Slot}
use Rattle.bench_core.specs.declared.noted.Noted.{Noted}
use Rattle.bench_core.specs.Shown.{last_counted, IsBench}
use Rattle.bench_core.specs.Edits.{IsAfterEdit}

-- the slots touched are those that the grid wants to know
pub differ : (P Q : Project) (slots : List Slot) → Touches P Q slots → Differ rp3_rules P Q slots
differ P Q slots touches = record { shape = touches.shape; complete = touches.complete; exact = touches.exact }

-- the horizon that an edit leaves
pub to_horizon : (P Q : Project) (horizon : ℕ) → horizon ≡ P.horizon → unwrap_or (new_horizon P Q) horizon ≡ Q.horizon
to_horizon P Q horizon h = grind (arith, nat_tests)

module _ (old new : Seen MachineState Project) (journal : List Noted) (author : ℕ) (e : Edit) (next : Project) (listed : List Slot) (horizon : Option ℕ) (bench : IsBench old journal) (is : next ≡ edited old.slots e) (touches : Touches old.slots next listed) (moved : horizon ≡ new_horizon old.slots next) (touched : IsAfterTouch rp3_rules old new next listed (unwrap_or horizon old.horizon)) where
  pub to : unwrap_or horizon old.horizon ≡ next.horizon
  to = ap (λ m. unwrap_or m old.horizon) moved ∙ to_horizon old.slots next old.horizon bench.horizon

  pub after_edit : IsAfterEdit (record { table = old; journal = journal }) (record { table = new; journal = journal ++ record { author = author; edit = e } ∷ [] }) author e
  after_edit = record {
    journal = refl;
    listed = listed;
    touches = subst (λ Q. Touches old.slots Q listed) is touches;
    table = subst (λ Q. IsAfterTouch rp3_rules old new Q listed Q.horizon) is (subst (λ n. IsAfterTouch rp3_rules old new next listed n) to touched);
  }

  pub bench_edited : next.horizon ≤ last_counted next → length journal < max_edits → IsBench new (journal ++ record { author = author; edit = e } ∷ [])
  bench_edited short room = record {
    horizon = touched.horizon ∙ to ∙ sym (ap (λ (Q : Project). Q.horizon) touched.slots);
    short = subst (λ (P : Project). new.horizon ≤ last_counted P) (sym touched.slots) (omega (arith, short, touched.horizon, to));
    few = omega (arith, length_push journal (record { author = author; edit = e }));
  }
