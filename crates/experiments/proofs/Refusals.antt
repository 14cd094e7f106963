-- Why an edit of a bench is refused.
use Rattle.std.proofs.Common.{◌≡◌, ◌⊎◌, inl, inr, ◌∙◌, ℕ, Result, Ok, Err, refl, sym}
use Rattle.std.specs.Prelude.{IsOkUnless}
use Rattle.project_book.specs.declared.fault.EditFault.{EditFault}
use Rattle.project_book.specs.declared.fault.EditFault.TheVariants.{Memory}

-- by the verdict on the edit, or for want of memory where that is good
pub refused_by : (a : Result (Unit {0}) EditFault) (r : Result ℕ EditFault) (f : EditFault)
    → ((g : EditFault) → a ≡ Err g → r ≡ Err g) → (a ≡ Ok tt → IsOkUnless r Memory) → r ≡ Err f → (a ≡ Err f) ⊎ ((f ≡ Memory) × (a ≡ Ok tt))
refused_by (Err g) r f refused accepted is =
    let given : r ≡ Err g = refused g refl in
    let same : g ≡ f = cc in
    inl (rw same refl)
refused_by (Ok u) (Ok v) f refused accepted is = cc
refused_by (Ok u) (Err h) f refused accepted is =
    let memory : h ≡ Memory = accepted refl in
    let same : h ≡ f = cc in
    inr (sym same ∙ memory, refl)
