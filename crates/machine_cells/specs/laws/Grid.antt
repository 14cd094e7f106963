-- Nothing in this file needs believing: it is proofs, which stand here since a definition of `specs/` cites them.
-- The laws of the machine as a grid.
use Rattle.std.proofs.Common.{◌≡◌, ℕ, zero, suc, ◌<◌, ◌≤◌, Bool, true, false, List, [], ◌∷◌, ◌++◌, length, All, refl, ap, sym, ◌∙◌, subst, Option, None, Some, ◌||◌, arith, lit≤, eq-eqb}
use Rattle.std.specs.Prelude.{◌==◌}
use Rattle.std.proofs.lemmas.Bool.{false≢true, eqb-true, and_parts, and_from}
use Rattle.std.proofs.lemmas.Bool.Decides.{nat_tests}
use Rattle.omega_net.specs.declared.component.Net.TheVariants.{Low as LowNet, Comb as CombNet}
use Rattle.omega_net.specs.declared.component.Component.{Component}
use Rattle.omega_net.specs.declared.component.Component.TheVariants.{Proc as ProcAt, Module as ModuleAt, Switch}
use Rattle.omega_net.specs.Numbers.{components, component_of}
use Rattle.omega_net.specs.Near.{near, near_of, beside, numbers_of}
use Rattle.omega_net.proofs.Numbering.{Has, component_has}
use Rattle.omega_net.proofs.Neighbours.{near_within}
use Rattle.mem_module.specs.MemModule.{module_start}
use Rattle.grid_law.specs.Rules.{Laws, Agrees, result_of}
use Rattle.machine_cells.specs.declared.state.MachineState.{MachineState}
use Rattle.machine_cells.specs.declared.state.MachineState.TheVariants.{Proc, Module}
use Rattle.project_book.specs.Project.{Project, entry_at}
use Rattle.project_book.specs.declared.slot.Slot.{Slot}
use Rattle.project_book.specs.declared.slot.Slot.TheVariants.{Shape, Entry, Word, Page as PageAt, Depth, Wait, Combine, Window}
use Rattle.project_book.specs.declared.edit.Depths.{Depths}
use Rattle.project_book.specs.declared.edit.Depths.TheVariants.{LowForward, LowReverse, CombForward, CombReverse, ModuleQueue}
use Rattle.project_book.specs.Slots.{SameAt}
use Rattle.machine_cells.specs.Run.{start_of}
use Rattle.machine_cells.specs.Cells.{pulled}
use Rattle.machine_cells.specs.Reads.{reads, may_read, or_shape, start_reads, fixed_reads, later_reads, index_reads, entry_reads, out_reads, is_listed, same_slot, depth_number, SameAtAll, SameStart}
use Rattle.machine_cells.specs.GridRules.{rp3_rules, near_cells, beside_numbers}
use Rattle.omega_net.proofs.Wiring.{or_left, or_right}
use Rattle.machine_cells.specs.laws.Ends.{component_there}
use Rattle.machine_cells.specs.laws.Reading.{steps_agree, entry_same}
use Rattle.machine_cells.specs.laws.Starts.{same_words_in}
use Rattle.machine_cells.specs.laws.Readers.{always_are_read, reads_readers, readers_exist, readers_ascend}

-- the list of near cells is omega_net's, of a component that there is
pub near_is : (k c : ℕ) → c < components k → near_cells k c ≡ near k c
near_is k c h = by_component (component_has k c h).0 (component_has k c h).1
  where
    by_component : (x : Component) → Has k c (component_of k c) x → near_cells k c ≡ near k c
    by_component x has =
        ap (λ o. c ∷ beside_numbers k o) has.is ∙ ap (λ n. n ∷ numbers_of k (beside k x)) (sym has.number) ∙ sym (ap (near_of k) has.is)

few_beside : (k : ℕ) (o : Option Component) (c : ℕ) → length (c ∷ beside_numbers k o) ≤ 5
few_beside k None c = lit≤ tt
few_beside zero (Some (ProcAt p)) c = lit≤ tt
few_beside (suc k) (Some (ProcAt p)) c = lit≤ tt
few_beside zero (Some (ModuleAt m)) c = lit≤ tt
few_beside (suc k) (Some (ModuleAt m)) c = lit≤ tt
few_beside k (Some (Switch net s j)) c = lit≤ tt

pub cells_within : (k c : ℕ) → c < components k → All (λ m. m < components k) (near_cells k c)
cells_within k c h = by_component (component_has k c h).0 (component_has k c h).1
  where
    by_component : (x : Component) → Has k c (component_of k c) x → All (λ m. m < components k) (near_cells k c)
    by_component x has =
        let F : List ℕ → Type 0 = λ ns. All (λ m. m < components k) ns in
        subst F (sym (near_is k c h ∙ ap (near_of k) has.is)) (near_within k x has.there)

-- slots
same_depth : (q r : Depths) → (depth_number q == depth_number r) ≡ true → q ≡ r
same_depth LowForward LowForward e = refl
same_depth LowReverse LowReverse e = refl
same_depth CombForward CombForward e = refl
same_depth CombReverse CombReverse e = refl
same_depth ModuleQueue ModuleQueue e = refl
same_depth _ _ e = absurd (false≢true e)

slot_is : (a b : Slot) → same_slot a b ≡ true → a ≡ b
slot_is Shape Shape e = refl
slot_is (Entry p i) (Entry q j) e =
    let both = and_parts (p == q) (i == j) e in
    ap (λ n. Entry n i) (eqb-true p q both.0) ∙ ap (λ n. Entry q n) (eqb-true i j both.1)
slot_is (Word a) (Word b) e = ap Word (eqb-true a b e)
slot_is (PageAt g) (PageAt h) e = ap PageAt (eqb-true g h e)
slot_is (Depth q) (Depth r) e = ap Depth (same_depth q r e)
slot_is Wait Wait e = refl
slot_is (Combine s) (Combine t) e = ap Combine (eqb-true s t e)
slot_is Window Window e = refl
slot_is _ _ e = absurd (false≢true e)

slot_itself : (a : Slot) → same_slot a a ≡ true
slot_itself Shape = refl
slot_itself (Entry p i) = and_from (p == p) (i == i) (eq-eqb p p refl) (eq-eqb i i refl)
slot_itself (Word a) = eq-eqb a a refl
slot_itself (PageAt g) = eq-eqb g g refl
slot_itself (Depth q) = eq-eqb (depth_number q) (depth_number q) refl
slot_itself Wait = refl
slot_itself (Combine s) = eq-eqb s s refl
slot_itself Window = refl

also : (slot : Slot) (b : Bool) → b ≡ true → or_shape slot b ≡ true
also Shape b e = refl
also (Entry p i) b e = e
also (Word a) b e = e
also (PageAt g) b e = e
also (Depth q) b e = e
also Wait b e = e
also (Combine s) b e = e
also Window b e = e

module _ (P Q : Project) where
  -- each slot of a list, and the list
  all_listed : (slots : List Slot) → ((slot : Slot) → is_listed slots slot ≡ true → SameAt P Q slot) → SameAtAll P Q slots
  all_listed [] h = tt
  all_listed (a ∷ slots) h = (
    h a (or_left (same_slot a a) (is_listed slots a) (slot_itself a)),
    all_listed slots (λ slot e. h slot (or_right (same_slot slot a) (is_listed slots slot) e)),
  )

  listed_same : (slots : List Slot) → SameAtAll P Q slots → (slot : Slot) → is_listed slots slot ≡ true → SameAt P Q slot
  listed_same [] h slot e = absurd (false≢true e)
  listed_same (a ∷ slots) h slot e = by_test (same_slot slot a) refl e (λ f. listed_same slots h.1 slot f)
    where
      by_test : (t : Bool) → same_slot slot a ≡ t → (t || is_listed slots slot) ≡ true → (is_listed slots slot ≡ true → SameAt P Q slot) → SameAt P Q slot
      by_test true f e later = let S : Slot → Type 0 = λ x. SameAt P Q x in subst S (sym (slot_is slot a f)) h.0
      by_test false f e later = later e

  -- agreement after cycle 0 is that of the slots listed
  pub agrees_later : (own : MachineState) (others : List MachineState) (c : ℕ) → P.k ≡ Q.k → SameAtAll P Q (later_reads P (component_of P.k c) own)
      → Agrees rp3_rules P Q (own ∷ others) c
  agrees_later own others c k h = record { shape = k; slots = at_slot }
    where
      at_slot : (slot : Slot) → or_shape slot (is_listed (later_reads P (component_of P.k c) own) slot) ≡ true → SameAt P Q slot
      at_slot Shape e = k
      at_slot (Entry p i) e = listed_same _ h (Entry p i) e
      at_slot (Word a) e = listed_same _ h (Word a) e
      at_slot (PageAt g) e = listed_same _ h (PageAt g) e
      at_slot (Depth q) e = listed_same _ h (Depth q) e
      at_slot Wait e = listed_same _ h Wait e
      at_slot (Combine s) e = listed_same _ h (Combine s) e
      at_slot Window e = listed_same _ h Window e

  pub later_agrees : (own : MachineState) (others : List MachineState) (c : ℕ) → Agrees rp3_rules P Q (own ∷ others) c
      → SameAtAll P Q (later_reads P (component_of P.k c) own)
  later_agrees own others c h = all_listed (later_reads P (component_of P.k c) own) (λ slot e. h.slots slot (also slot _ e))

  -- and at cycle 0 that of all pages and first words, of a module
  at_start : (o : Option Component) → P.k ≡ Q.k → SameStart P Q o → (slot : Slot) → or_shape slot (start_reads o slot) ≡ true → SameAt P Q slot
  at_start (Some (ModuleAt m)) k h Shape e = k
  at_start (Some (ModuleAt m)) k h (Word a) e = h.words a (grind (arith, nat_tests))
  at_start (Some (ModuleAt m)) k h (PageAt g) e = h.pages g (grind (arith, nat_tests))
  at_start (Some (ModuleAt m)) k h _ e = absurd (false≢true e)
  at_start (Some (ProcAt p)) k h Shape e = k
  at_start (Some (ProcAt p)) k h _ e = absurd (false≢true e)
  at_start (Some (Switch net s j)) k h Shape e = k
  at_start (Some (Switch net s j)) k h _ e = absurd (false≢true e)
  at_start None k h Shape e = k
  at_start None k h _ e = absurd (false≢true e)

  pub agrees_start : (c : ℕ) → P.k ≡ Q.k → SameStart P Q (component_of P.k c) → Agrees rp3_rules P Q [] c
  agrees_start c k h = record { shape = k; slots = at_start (component_of P.k c) k h }

  start_by : (o : Option Component) → ((slot : Slot) → or_shape slot (start_reads o slot) ≡ true → SameAt P Q slot) → SameStart P Q o
  start_by (Some (ModuleAt m)) h = record {
    pages = λ g lt. h (PageAt g) (grind (arith, nat_tests));
    words = λ a lt. h (Word a) (grind (arith, nat_tests));
  }
  start_by (Some (ProcAt p)) h = tt
  start_by (Some (Switch net s j)) h = tt
  start_by None h = tt

  pub start_agrees : (c : ℕ) → Agrees rp3_rules P Q [] c → SameStart P Q (component_of P.k c)
  start_agrees c h = start_by (component_of P.k c) h.slots

  -- so the first states are the same
  same_start : (o : Option Component) → SameStart P Q o → start_of P o ≡ start_of Q o
  same_start (Some (ModuleAt m)) h = ap (λ ws. Module (module_start ws)) (same_words_in P Q h m)
  same_start (Some (ProcAt p)) h = refl
  same_start (Some (Switch LowNet s j)) h = refl
  same_start (Some (Switch CombNet s j)) h = refl
  same_start None h = refl

  -- and the slots that are read
  same_later : (o : Option Component) (own : MachineState) → P.k ≡ Q.k → SameAtAll P Q (later_reads P o own) → later_reads P o own ≡ later_reads Q o own
  same_later (Some (ProcAt p)) (Proc s) k h =
      let entry = (entry_same P Q k p s.index _ h).0 in
      ap (λ e. index_reads p s.index ++ (entry_reads e ++ out_reads P.k s.out)) entry
      ∙ ap (λ n. index_reads p s.index ++ (entry_reads (entry_at Q p s.index) ++ out_reads n s.out)) k
  same_later (Some (ProcAt p)) _ k h = refl
  same_later (Some (ModuleAt m)) own k h = ap (λ n. fixed_reads n (Some (ModuleAt m))) k
  same_later (Some (Switch LowNet stage j)) own k h = ap (λ n. fixed_reads n (Some (Switch LowNet stage j))) k
  same_later (Some (Switch CombNet stage j)) own k h = ap (λ n. fixed_reads n (Some (Switch CombNet stage j))) k
  same_later None own k h = refl

  same_reads : (near : List MachineState) (c : ℕ) → Agrees rp3_rules P Q near c → (slot : Slot) → reads P near c slot ≡ reads Q near c slot
  same_reads [] c h slot = ap (λ n. or_shape slot (start_reads (component_of n c) slot)) h.shape
  same_reads (own ∷ others) c h slot =
      ap (λ slots. or_shape slot (is_listed slots slot)) (same_later (component_of P.k c) own h.shape (later_agrees own others c h))
      ∙ ap (λ n. or_shape slot (is_listed (later_reads Q (component_of n c) own) slot)) h.shape

  same_result : (near : List MachineState) (c : ℕ) → Agrees rp3_rules P Q near c → result_of rp3_rules P near c ≡ result_of rp3_rules Q near c
  same_result [] c h = same_start (component_of P.k c) (start_agrees c h) ∙ ap (λ n. start_of Q (component_of n c)) h.shape
  same_result (own ∷ others) c h =
      by_component (component_of P.k c) refl (later_agrees own others c h) ∙ ap (λ n. pulled Q (own ∷ others) (component_of n c) own) h.shape
    where
      by_component : (o : Option Component) → component_of P.k c ≡ o → SameAtAll P Q (later_reads P o own) → pulled P (own ∷ others) o own ≡ pulled Q (own ∷ others) o own
      by_component None e same = refl
      by_component (Some x) e same = steps_agree P Q own others x (component_there P.k c x e) h.shape same

slot_at : (P : Project) (slot : Slot) → SameAt P P slot
slot_at P Shape = refl
slot_at P (Entry p i) = refl
slot_at P (Word a) = refl
slot_at P (PageAt g) = refl
slot_at P (Depth q) = refl
slot_at P Wait = refl
slot_at P (Combine s) = refl
slot_at P Window = refl

slot_along : (P Q R : Project) (slot : Slot) → SameAt P Q slot → SameAt Q R slot → SameAt P R slot
slot_along P Q R Shape h k = h ∙ k
slot_along P Q R (Entry p i) h k = h ∙ k
slot_along P Q R (Word a) h k = h ∙ k
slot_along P Q R (PageAt g) h k = h ∙ k
slot_along P Q R (Depth q) h k = h ∙ k
slot_along P Q R Wait h k = h ∙ k
slot_along P Q R (Combine s) h k = h ∙ k
slot_along P Q R Window h k = h ∙ k

pub the_laws : Laws rp3_rules
the_laws = record {
  shape_itself = λ P. refl;
  shape_along = λ P Q R h k. h ∙ k;
  shape_components = λ P Q h. ap components h;
  shape_near = λ P Q c h. ap (λ k. near_cells k c) h;
  at_itself = slot_at;
  at_along = slot_along;
  near_first = λ P c. (beside_numbers P.k (component_of P.k c), refl);
  near_within = λ P c h. cells_within P.k c h;
  near_few = λ P c. few_beside P.k (component_of P.k c) c;
  same_reads = same_reads;
  same_result = same_result;
  reads_own = λ P own others c slot. refl;
  always_reads = always_are_read;
  readers = λ P near c slot h e. reads_readers P near c slot h e;
  readers_exist = λ P slot. readers_exist (λ c first. may_read P c first slot) (components P.k) 0 (components P.k) (omega arith);
  readers_ascend = λ P slot. readers_ascend (λ c first. may_read P c first slot) 0 (components P.k);
}
