-- One edit after another.
use Rattle.std.proofs.Common.{◌≡◌, ◌⊎◌, inl, inr, ℕ, ◌+◌, ◌<◌, List, length, get_or, drop, refl, sym, ap, subst, ◌∙◌}
use Rattle.std.specs.Prelude.{Result, Ok, Err, IsOkUnless}
use Rattle.std.proofs.lemmas.List.{drop_more}
use Rattle.project_book.specs.declared.edit.Edit.{Edit}
use Rattle.project_book.specs.declared.fault.EditFault.{EditFault}
use Rattle.project_book.specs.declared.fault.EditFault.TheVariants.{Memory}
use Rattle.project_book.specs.Project.{Project}
use Rattle.project_book.specs.Edits.{accepts, edited}
use Rattle.edit_templates.specs.Edited.{after_edits, if_accepted}

-- what is left begins with the next edit
begins : (after : Project) (edits : List Edit) (i : ℕ) (d : Edit) (t : Result Project EditFault) → i < length edits → after_edits after (drop i edits) ≡ t
    → if_accepted (accepts after 0 (get_or edits i d)) (after_edits (edited after (get_or edits i d)) (drop (i + 1) edits)) ≡ t
begins after edits i d t lt so = ap (after_edits after) (sym (drop_more edits i d lt)) ∙ so

-- the next edit is refused
pub edit-refused : {M : Type 0} (after : Project) (edits : List Edit) (i : ℕ) (d : Edit) (fault : EditFault) (r : Result M EditFault) (t : Result Project EditFault)
    → i < length edits → after_edits after (drop i edits) ≡ t → r ≡ Err fault
    → ((g : EditFault) → accepts after 0 (get_or edits i d) ≡ Err g → r ≡ Err g)
    → (accepts after 0 (get_or edits i d) ≡ Ok tt → IsOkUnless r Memory)
    → (fault ≡ Memory) ⊎ (t ≡ Err fault)
edit-refused {M} after edits i d fault r t lt so is refused accepted = by (accepts after 0 (get_or edits i d)) refl
  where
    same : (g : EditFault) → r ≡ Err g → g ≡ fault
    same g e = let both : Err fault ≡ Err g = sym is ∙ e in cc

    by : (v : Result (Unit {0}) EditFault) → accepts after 0 (get_or edits i d) ≡ v → (fault ≡ Memory) ⊎ (t ≡ Err fault)
    by (Ok tt) e = inl (subst (λ (q : Result M EditFault). IsOkUnless q Memory) is (accepted e))
    by (Err g) e =
        inr (sym (begins after edits i d t lt so) ∙ ap (λ v. if_accepted v (after_edits (edited after (get_or edits i d)) (drop (i + 1) edits))) e ∙ ap Err (same g (refused g e)))

-- the next edit is done
pub edit-done : {M : Type 0} (after next : Project) (edits : List Edit) (i : ℕ) (d : Edit) (r : Result M EditFault) (made : M) (t : Result Project EditFault)
    → i < length edits → after_edits after (drop i edits) ≡ t → r ≡ Ok made
    → ((g : EditFault) → accepts after 0 (get_or edits i d) ≡ Err g → r ≡ Err g)
    → next ≡ edited after (get_or edits i d) → after_edits next (drop (i + 1) edits) ≡ t
edit-done after next edits i d r made t lt so is refused done = by (accepts after 0 (get_or edits i d)) refl
  where
    by : (v : Result (Unit {0}) EditFault) → accepts after 0 (get_or edits i d) ≡ v → after_edits next (drop (i + 1) edits) ≡ t
    by (Ok tt) e =
        ap (λ (P : Project). after_edits P (drop (i + 1) edits)) done
        ∙ sym (ap (λ v. if_accepted v (after_edits (edited after (get_or edits i d)) (drop (i + 1) edits))) e)
        ∙ begins after edits i d t lt so
    by (Err g) e = let both : Ok made ≡ Err g = sym is ∙ refused g e in cc
