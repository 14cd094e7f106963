-- An entry of a script is read by the processor's index alone.
use Rattle.std.proofs.Common.{◌≡◌, ℕ, zero, suc, ◌∙◌, ap, refl, Bool, true, false, ◌||◌, ◌++◌, Option, None, Some}
use Rattle.std.proofs.lemmas.List.Folds.{list_any-append}
use Rattle.omega_net.specs.declared.script.ScriptEntry.{ScriptEntry}
use Rattle.omega_net.specs.declared.script.ScriptEntry.TheVariants.{Reference, Until, Fence, Idle}
use Rattle.ref_proc.specs.declared.state.Outgoing.{Outgoing}
use Rattle.project_book.specs.declared.slot.Slot.TheVariants.{Entry}
use Rattle.machine_cells.specs.Reads.{is_listed, same_slot, index_reads, entry_reads, out_reads}

pub or_false : (b : Bool) → (b || false) ≡ b
or_false true = refl
or_false false = refl

not_in_out : (k : ℕ) (o : Option Outgoing) (a b : ℕ) → is_listed (out_reads k o) (Entry a b) ≡ false
not_in_out k None a b = refl
not_in_out zero (Some o) a b = refl
not_in_out (suc k) (Some o) a b = refl

not_in_entry : (e : Option ScriptEntry) (a b : ℕ) → is_listed (entry_reads e) (Entry a b) ≡ false
not_in_entry None a b = refl
not_in_entry (Some (Reference sync op address times)) a b = refl
not_in_entry (Some (Until sync op address value times)) a b = refl
not_in_entry (Some Fence) a b = refl
not_in_entry (Some (Idle turns)) a b = refl

pub by_index : (p i k a b : ℕ) (e : Option ScriptEntry) (o : Option Outgoing) → is_listed (index_reads p i ++ (entry_reads e ++ out_reads k o)) (Entry a b) ≡ is_listed (index_reads p i) (Entry a b)
by_index p i k a b e o =
    list_any-append (same_slot (Entry a b)) (index_reads p i) (entry_reads e ++ out_reads k o)
    ∙ ap (λ x. is_listed (index_reads p i) (Entry a b) || x) (list_any-append (same_slot (Entry a b)) (entry_reads e) (out_reads k o) ∙ ap (λ x. x || is_listed (out_reads k o) (Entry a b)) (not_in_entry e a b) ∙ not_in_out k o a b)
    ∙ or_false (is_listed (index_reads p i) (Entry a b))
