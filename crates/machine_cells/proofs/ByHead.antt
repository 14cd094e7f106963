-- What a processor reads, by the head of its words.
use Rattle.std.proofs.Common.{◌≡◌, ◌⊎◌, inl, inr, ℕ, zero, suc, ◌%◌, ◌∙◌, ap, sym, refl, Bool, true, false, cond, ◌||◌, List, [], ◌∷◌, ◌++◌, drop, slice_index, Option, None, Some, is_some}
use Rattle.std.proofs.lemmas.List.Folds.{list_any-append}
use Rattle.omega_net.specs.declared.component.Component.TheVariants.{Proc as ProcAt}
use Rattle.omega_net.specs.declared.script.ScriptEntry.{ScriptEntry}
use Rattle.omega_net.specs.declared.script.ScriptEntry.TheVariants.{Reference, Until, Fence, Idle}
use Rattle.mem_module.specs.declared.words.Stored.{Stored}
use Rattle.ref_proc.specs.declared.state.Outgoing.{Outgoing}
use Rattle.state_words.specs.Reading.{proc_from}
use Rattle.project_book.specs.Project.{Project, entry_at}
use Rattle.project_book.specs.declared.edit.Depths.{Depths}
use Rattle.project_book.specs.declared.slot.Slot.{Slot}
use Rattle.project_book.specs.declared.slot.Slot.TheVariants.{Entry, Page as PageAt, Depth, Window}
use Rattle.machine_cells.specs.declared.state.MachineState.TheVariants.{Proc}
use Rattle.machine_cells.specs.Words.{state_with, state_from}
use Rattle.machine_cells.specs.Reads.{is_listed, same_slot, index_reads, entry_reads, out_reads, later_reads}
use Rattle.machine_cells.proofs.Entries.{by_index, or_false}
use Rattle.machine_cells.proofs.Telling.{chosen}

-- slots of three lists, of which two don't have this one
in_middle : (slot : Slot) (xs ys zs : List Slot) → is_listed xs slot ≡ false → is_listed zs slot ≡ false → is_listed (xs ++ (ys ++ zs)) slot ≡ is_listed ys slot
in_middle slot xs ys zs none_before none_after =
    list_any-append (same_slot slot) xs (ys ++ zs) ∙ ap (λ b. b || is_listed (ys ++ zs) slot) none_before
    ∙ list_any-append (same_slot slot) ys zs ∙ ap (λ b. is_listed ys slot || b) none_after
    ∙ or_false (is_listed ys slot)

page_not_in_out : (k : ℕ) (o : Option Outgoing) (g : ℕ) → is_listed (out_reads k o) (PageAt g) ≡ false
page_not_in_out k None g = refl
page_not_in_out zero (Some o) g = refl
page_not_in_out (suc k) (Some o) g = refl

window_not_in_out : (k : ℕ) (o : Option Outgoing) → is_listed (out_reads k o) Window ≡ false
window_not_in_out k None = refl
window_not_in_out zero (Some o) = refl
window_not_in_out (suc k) (Some o) = refl

depth_not_in_out : (k : ℕ) (o : Option Outgoing) (q : Depths) → is_some o ≡ false → is_listed (out_reads k o) (Depth q) ≡ false
depth_not_in_out k None q none = refl
depth_not_in_out k (Some o) q none = cc

depth_not_in_entry : (e : Option ScriptEntry) (q : Depths) → is_listed (entry_reads e) (Depth q) ≡ false
depth_not_in_entry None q = refl
depth_not_in_entry (Some (Reference sync op address times)) q = refl
depth_not_in_entry (Some (Until sync op address value times)) q = refl
depth_not_in_entry (Some Fence) q = refl
depth_not_in_entry (Some (Idle turns)) q = refl

-- the entry at the index is no page, no window and no depth
abbrev if_there : Bool → ℕ → ℕ → List Slot
if_there b p i = cond b (Entry p i ∷ []) []

page_not_indexed : (b : Bool) (p i g : ℕ) → is_listed (if_there b p i) (PageAt g) ≡ false
page_not_indexed true p i g = refl
page_not_indexed false p i g = refl

window_not_indexed : (b : Bool) (p i : ℕ) → is_listed (if_there b p i) Window ≡ false
window_not_indexed true p i = refl
window_not_indexed false p i = refl

depth_not_indexed : (b : Bool) (p i : ℕ) (q : Depths) → is_listed (if_there b p i) (Depth q) ≡ false
depth_not_indexed true p i q = refl
depth_not_indexed false p i q = refl

-- words whose head is a processor's
module _ (P : Project) (p : ℕ) (ws : List ℕ) (memory : List Stored) (h : ℕ) (first : h ≡ slice_index ws 0) (kind : h % 4 ≡ 0) where
  abbrev rest : List ℕ
  rest = drop 1 ws

  abbrev listed : List Slot
  listed = later_reads P (Some (ProcAt p)) (state_from ws memory)

  abbrev by_proc : List Slot
  by_proc = later_reads P (Some (ProcAt p)) (Proc (proc_from h rest))

  is_proc : listed ≡ by_proc
  is_proc = ap (later_reads P (Some (ProcAt p))) (ap (λ n. state_with n rest memory) (sym first) ∙ chosen h 0 rest memory kind)

  pub entry_by_head : (i : ℕ) → i ≡ (proc_from h rest).index → (slot : Slot) (a b : ℕ) → slot ≡ Entry a b → is_listed (index_reads p i) slot ≡ is_listed listed slot
  entry_by_head i at slot a b is =
      ap (λ n. is_listed (index_reads p n) slot) at ∙ ap (is_listed (index_reads p (proc_from h rest).index)) is
      ∙ sym (by_index p (proc_from h rest).index P.k a b (entry_at P p (proc_from h rest).index) (proc_from h rest).out)
      ∙ ap (is_listed by_proc) (sym is) ∙ ap (λ l. is_listed l slot) (sym is_proc)

  -- a page and the window
  page_in_entry : (i g : ℕ) → i ≡ (proc_from h rest).index → is_listed (entry_reads (entry_at P p i)) (PageAt g) ≡ is_listed listed (PageAt g)
  page_in_entry i g at =
      ap (λ n. is_listed (entry_reads (entry_at P p n)) (PageAt g)) at
      ∙ sym (in_middle (PageAt g) (index_reads p (proc_from h rest).index) (entry_reads (entry_at P p (proc_from h rest).index)) (out_reads P.k (proc_from h rest).out) (page_not_indexed _ p _ g) (page_not_in_out P.k (proc_from h rest).out g))
      ∙ ap (λ l. is_listed l (PageAt g)) (sym is_proc)

  window_in_entry : (i : ℕ) → i ≡ (proc_from h rest).index → is_listed (entry_reads (entry_at P p i)) Window ≡ is_listed listed Window
  window_in_entry i at =
      ap (λ n. is_listed (entry_reads (entry_at P p n)) Window) at
      ∙ sym (in_middle Window (index_reads p (proc_from h rest).index) (entry_reads (entry_at P p (proc_from h rest).index)) (out_reads P.k (proc_from h rest).out) (window_not_indexed _ p _) (window_not_in_out P.k (proc_from h rest).out))
      ∙ ap (λ l. is_listed l Window) (sym is_proc)

  pub by_entry : (i : ℕ) → i ≡ (proc_from h rest).index → (slot : Slot) → ((g : ℕ) × (slot ≡ PageAt g)) ⊎ (slot ≡ Window) → is_listed (entry_reads (entry_at P p i)) slot ≡ is_listed listed slot
  by_entry i at slot (inl page) = ap (is_listed (entry_reads (entry_at P p i))) page.1 ∙ page_in_entry i page.0 at ∙ ap (is_listed listed) (sym page.1)
  by_entry i at slot (inr window) = ap (is_listed (entry_reads (entry_at P p i))) window ∙ window_in_entry i at ∙ ap (is_listed listed) (sym window)

  pub no_depth_by_head : is_some (proc_from h rest).out ≡ false → (slot : Slot) (q : Depths) → slot ≡ Depth q → false ≡ is_listed listed slot
  no_depth_by_head none slot q is =
      sym (in_middle (Depth q) (index_reads p (proc_from h rest).index) (entry_reads (entry_at P p (proc_from h rest).index)) (out_reads P.k (proc_from h rest).out) (depth_not_indexed _ p _ q) (depth_not_in_out P.k (proc_from h rest).out q none)
      ∙ depth_not_in_entry (entry_at P p (proc_from h rest).index) q)
      ∙ ap (is_listed by_proc) (sym is) ∙ ap (λ l. is_listed l slot) (sym is_proc)
