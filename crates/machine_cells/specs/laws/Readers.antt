-- Nothing in this file needs believing: it is proofs, which stand here since a definition of `specs/` cites them.
-- What a component reads, it may read: the law of readers.
use Rattle.std.proofs.Common.{◌≡◌, ℕ, zero, suc, Bool, true, false, List, [], ◌∷◌, ◌++◌, refl, ap, subst, sym, ◌∙◌, Option, None, Some, ◌||◌, ◌⊎◌, inl, inr}
use Rattle.std.specs.Prelude.{◌<◌, ◌≤◌, ◌+◌, ◌==◌, nat_lt, if◌then◌else◌, All}
use Rattle.std.specs.List.{Contains, flat_map, range_with_len}
use Rattle.std.proofs.Common.{arith}
use Rattle.std.proofs.lemmas.List.Elements.{All-cons, All-append, All-nil, All-weaker}
use Rattle.std.proofs.Math.Bool.{or-false}
use Rattle.std.proofs.lemmas.Bool.{false≢true, and_parts, ltb-true, ltb-false}
use Rattle.std.proofs.lemmas.List.Folds.{list_any-append}
use Rattle.omega_net.specs.declared.component.Net.{Net}
use Rattle.omega_net.specs.declared.component.Net.TheVariants.{Low as LowNet, Comb as CombNet}
use Rattle.omega_net.specs.declared.component.Component.{Component}
use Rattle.omega_net.specs.declared.component.Component.TheVariants.{Proc as ProcAt, Module as ModuleAt, Switch}
use Rattle.omega_net.specs.declared.script.ScriptEntry.{ScriptEntry}
use Rattle.omega_net.specs.declared.script.ScriptEntry.TheVariants.{Reference, Until, Fence, Idle}
use Rattle.omega_net.specs.Numbers.{components, component_of}
use Rattle.ref_proc.specs.declared.state.Outgoing.{Outgoing}
use Rattle.grid_law.specs.declared.reader.Reader.{Reader}
use Rattle.grid_law.specs.Rules.{is_first, reader_at, IsBefore, IsAscending}
use Rattle.machine_cells.specs.declared.state.MachineState.{MachineState}
use Rattle.machine_cells.specs.declared.state.MachineState.TheVariants.{Proc}
use Rattle.project_book.specs.Project.{Project, entry_at}
use Rattle.project_book.specs.Queues.{forward_queue}
use Rattle.project_book.specs.Limits.{script_entries}
use Rattle.project_book.specs.declared.slot.Slot.{Slot}
use Rattle.project_book.specs.declared.slot.Slot.TheVariants.{Shape, Entry, Word, Page as PageAt, Depth, Wait, Combine, Window}
use Rattle.project_book.specs.declared.edit.Depths.TheVariants.{LowForward, LowReverse, CombForward, CombReverse, ModuleQueue}
use Rattle.machine_cells.specs.Reads.{reads, always_reads, fixed_reads, may_read, reader_if, readers, or_shape, later_reads, later_may_read, proc_may_read, index_reads, entry_reads, out_reads, is_listed, same_slot}

either : (a b : Bool) → (a || b) ≡ true → (a ≡ true) ⊎ (b ≡ true)
either true b e = inl refl
either false b e = inr e

listed_apart : (xs ys : List Slot) (slot : Slot) → is_listed (xs ++ ys) slot ≡ true → (is_listed xs slot ≡ true) ⊎ (is_listed ys slot ≡ true)
listed_apart xs ys slot e = either (is_listed xs slot) (is_listed ys slot) (sym (list_any-append (same_slot slot) xs ys) ∙ e)

index_may : (k p i : ℕ) (slot : Slot) → is_listed (index_reads p i) slot ≡ true → proc_may_read k p slot ≡ true
index_may k p i slot e = by_test (nat_lt i script_entries) slot e
  where
    by_test : (b : Bool) (slot : Slot) → is_listed (if b then Entry p i ∷ [] else []) slot ≡ true → proc_may_read k p slot ≡ true
    by_test false slot e = absurd (false≢true e)
    by_test true (Entry q j) e = (and_parts (q == p) (j == i) (sym (or-false _) ∙ e)).0
    by_test true Shape e = absurd (false≢true e)
    by_test true (Word a) e = absurd (false≢true e)
    by_test true (PageAt g) e = refl
    by_test true (Depth q) e = absurd (false≢true e)
    by_test true Wait e = absurd (false≢true e)
    by_test true (Combine s) e = absurd (false≢true e)
    by_test true Window e = refl

entry_may : (k p : ℕ) (entry : Option ScriptEntry) (slot : Slot) → is_listed (entry_reads entry) slot ≡ true → proc_may_read k p slot ≡ true
entry_may k p None slot e = absurd (false≢true e)
entry_may k p (Some Fence) slot e = absurd (false≢true e)
entry_may k p (Some (Idle turns)) slot e = absurd (false≢true e)
entry_may k p (Some (Reference sync op address times)) (PageAt g) e = refl
entry_may k p (Some (Reference sync op address times)) Window e = refl
entry_may k p (Some (Reference sync op address times)) Shape e = absurd (false≢true e)
entry_may k p (Some (Reference sync op address times)) (Entry q i) e = absurd (false≢true e)
entry_may k p (Some (Reference sync op address times)) (Word a) e = absurd (false≢true e)
entry_may k p (Some (Reference sync op address times)) (Depth q) e = absurd (false≢true e)
entry_may k p (Some (Reference sync op address times)) Wait e = absurd (false≢true e)
entry_may k p (Some (Reference sync op address times)) (Combine s) e = absurd (false≢true e)
entry_may k p (Some (Until sync op address value times)) (PageAt g) e = refl
entry_may k p (Some (Until sync op address value times)) Window e = refl
entry_may k p (Some (Until sync op address value times)) Shape e = absurd (false≢true e)
entry_may k p (Some (Until sync op address value times)) (Entry q i) e = absurd (false≢true e)
entry_may k p (Some (Until sync op address value times)) (Word a) e = absurd (false≢true e)
entry_may k p (Some (Until sync op address value times)) (Depth q) e = absurd (false≢true e)
entry_may k p (Some (Until sync op address value times)) Wait e = absurd (false≢true e)
entry_may k p (Some (Until sync op address value times)) (Combine s) e = absurd (false≢true e)

forward_may : (net : Net) (k : ℕ) (slot : Slot) → is_listed (Depth (forward_queue net) ∷ []) slot ≡ true → (p : ℕ) → proc_may_read (suc k) p slot ≡ true
forward_may LowNet k (Depth LowForward) e p = refl
forward_may LowNet k (Depth LowReverse) e p = absurd (false≢true e)
forward_may LowNet k (Depth CombForward) e p = refl
forward_may LowNet k (Depth CombReverse) e p = absurd (false≢true e)
forward_may LowNet k (Depth ModuleQueue) e p = absurd (false≢true e)
forward_may CombNet k (Depth LowForward) e p = refl
forward_may CombNet k (Depth LowReverse) e p = absurd (false≢true e)
forward_may CombNet k (Depth CombForward) e p = refl
forward_may CombNet k (Depth CombReverse) e p = absurd (false≢true e)
forward_may CombNet k (Depth ModuleQueue) e p = absurd (false≢true e)
forward_may net k (PageAt g) e p = refl
forward_may net k Window e p = refl
forward_may net k Shape e p = absurd (false≢true e)
forward_may net k (Entry q i) e p = absurd (false≢true e)
forward_may net k (Word a) e p = absurd (false≢true e)
forward_may net k Wait e p = absurd (false≢true e)
forward_may net k (Combine s) e p = absurd (false≢true e)

module_may : (p : ℕ) (slot : Slot) → is_listed (Depth ModuleQueue ∷ []) slot ≡ true → proc_may_read 0 p slot ≡ true
module_may p (Depth q) e = e
module_may p (PageAt g) e = refl
module_may p Window e = refl
module_may p Shape e = absurd (false≢true e)
module_may p (Entry q i) e = absurd (false≢true e)
module_may p (Word a) e = absurd (false≢true e)
module_may p Wait e = absurd (false≢true e)
module_may p (Combine s) e = absurd (false≢true e)

out_may : (k p : ℕ) (out : Option Outgoing) (slot : Slot) → is_listed (out_reads k out) slot ≡ true → proc_may_read k p slot ≡ true
out_may k p None slot e = absurd (false≢true e)
out_may zero p (Some o) slot e = module_may p slot e
out_may (suc k) p (Some o) slot e = forward_may o.net k slot e p

proc_may : (k p i : ℕ) (entry : Option ScriptEntry) (out : Option Outgoing) (slot : Slot) → is_listed (index_reads p i ++ (entry_reads entry ++ out_reads k out)) slot ≡ true
    → proc_may_read k p slot ≡ true
proc_may k p i entry out slot e = by_index (listed_apart (index_reads p i) (entry_reads entry ++ out_reads k out) slot e)
  where
    by_entry : (is_listed (entry_reads entry) slot ≡ true) ⊎ (is_listed (out_reads k out) slot ≡ true) → proc_may_read k p slot ≡ true
    by_entry (inl f) = entry_may k p entry slot f
    by_entry (inr f) = out_may k p out slot f

    by_index : (is_listed (index_reads p i) slot ≡ true) ⊎ (is_listed (entry_reads entry ++ out_reads k out) slot ≡ true) → proc_may_read k p slot ≡ true
    by_index (inl f) = index_may k p i slot f
    by_index (inr f) = by_entry (listed_apart (entry_reads entry) (out_reads k out) slot f)

later_may : (P : Project) (o : Option Component) (own : MachineState) (slot : Slot) → is_listed (later_reads P o own) slot ≡ true → later_may_read P.k o slot ≡ true
later_may P (Some (ProcAt p)) (Proc s) slot e = proc_may P.k p s.index (entry_at P p s.index) s.out slot e
later_may P (Some (ProcAt p)) _ slot e = absurd (false≢true e)
later_may P (Some (ModuleAt m)) own slot e = e
later_may P (Some (Switch LowNet stage j)) own slot e = e
later_may P (Some (Switch CombNet stage j)) own slot e = e
later_may P None own slot e = e

-- what is read whatever the state is, is read at this one
fixed_later : (P : Project) (o : Option Component) (own : MachineState) (slot : Slot) → is_listed (fixed_reads P.k o) slot ≡ true → is_listed (later_reads P o own) slot ≡ true
fixed_later P (Some (ProcAt p)) own slot e = absurd (false≢true e)
fixed_later P (Some (ModuleAt m)) own slot e = e
fixed_later P (Some (Switch LowNet stage j)) own slot e = e
fixed_later P (Some (Switch CombNet stage j)) own slot e = e
fixed_later P None own slot e = absurd (false≢true e)

-- with the shape, which every component reads
shape_or : (slot : Slot) (a b : Bool) → (a ≡ true → b ≡ true) → or_shape slot a ≡ true → or_shape slot b ≡ true
shape_or Shape a b f e = refl
shape_or (Entry p i) a b f e = f e
shape_or (Word w) a b f e = f e
shape_or (PageAt g) a b f e = f e
shape_or (Depth q) a b f e = f e
shape_or Wait a b f e = f e
shape_or (Combine s) a b f e = f e
shape_or Window a b f e = f e

pub always_are_read : (P : Project) (own : MachineState) (others : List MachineState) (c : ℕ) (slot : Slot) → always_reads P c slot ≡ true → reads P (own ∷ others) c slot ≡ true
always_are_read P own others c slot e = shape_or slot _ _ (fixed_later P (component_of P.k c) own slot) e

reads_may : (P : Project) (near : List MachineState) (c : ℕ) (slot : Slot) → reads P near c slot ≡ true → may_read P c (is_first near) slot ≡ true
reads_may P [] c slot e = e
reads_may P (own ∷ others) c slot e = shape_or slot _ _ (later_may P (component_of P.k c) own slot) e

-- one place further on
contains_later : {X : Type 0} (xs : List X) (y x : X) → Contains xs x → Contains (y ∷ xs) x
contains_later xs y x (k, h, e) = (suc k, omega (arith, h), e)

contains_it : {X : Type 0} (xs : List X) (x : X) → Contains (x ∷ xs) x
contains_it xs x = (0, omega arith, refl)

contains_after : {X : Type 0} (ys xs : List X) (x : X) → Contains xs x → Contains (ys ++ xs) x
contains_after [] xs x h = h
contains_after (y ∷ ys) xs x h = contains_later (ys ++ xs) y x (contains_after ys xs x h)

-- the readers of a slot, where this says which components may read it
module _ (may : ℕ → Bool → Bool) where
  abbrev one : ℕ → List Reader
  one c = reader_if (may c true) c true ++ reader_if (may c false) c false

  abbrev all : ℕ → ℕ → List Reader
  all c n = flat_map one (range_with_len c n)

  by_both : (P : List Reader → Type 0) (c : ℕ) → P [] → P (reader_at c true ∷ []) → P (reader_at c false ∷ []) → P (reader_at c true ∷ reader_at c false ∷ []) → P (one c)
  by_both P c none first later both = at (may c true) (may c false)
    where
      at : (a b : Bool) → P (reader_if a c true ++ reader_if b c false)
      at false false = none
      at true false = first
      at false true = later
      at true true = both

  one_all : (P : Reader → Type 0) (c : ℕ) → P (reader_at c true) → P (reader_at c false) → All P (one c)
  one_all P c f l =
      by_both (All P) c (All-nil P) (All-cons P _ [] f (All-nil P)) (All-cons P _ [] l (All-nil P)) (All-cons P _ (reader_at c false ∷ []) f (All-cons P _ [] l (All-nil P)))

  pub readers_exist : (m c n : ℕ) → c + n ≤ m → All (λ r. r.component < m) (all c n)
  readers_exist m c zero h = All-nil (λ r. r.component < m)
  readers_exist m c (suc n) h =
      All-append (λ r. r.component < m) (one c) (all (c + 1) n) (one_all (λ r. r.component < m) c (omega arith) (omega arith)) (readers_exist m (c + 1) n (omega arith))

  none_before : (d c n : ℕ) → d ≤ c → All (λ r. d ≤ r.component) (all c n)
  none_before d c zero h = All-nil (λ r. d ≤ r.component)
  none_before d c (suc n) h = All-append (λ r. d ≤ r.component) (one c) (all (c + 1) n) (one_all (λ r. d ≤ r.component) c h h) (none_before d (c + 1) n (omega arith))

  after_all : (c : ℕ) (first : Bool) (rs : List Reader) → All (λ r. c + 1 ≤ r.component) rs → All (λ r. IsBefore (reader_at c first) r) rs
  after_all c first rs h = All-weaker (λ r. c + 1 ≤ r.component) (λ r. IsBefore (reader_at c first) r) (λ r g. inl (omega (arith, g))) rs h

  both_ascend : (c : ℕ) (rest : List Reader) → IsAscending rest → ((first : Bool) → All (λ r. IsBefore (reader_at c first) r) rest) → IsAscending (one c ++ rest)
  both_ascend c rest h after =
      by_both (λ rs. IsAscending (rs ++ rest)) c h (after true, h) (after false, h) (All-cons (λ r. IsBefore (reader_at c true) r) (reader_at c false) rest (inr (refl, refl, refl)) (after true), (after false, h))

  pub readers_ascend : (c n : ℕ) → IsAscending (all c n)
  readers_ascend c zero = tt
  readers_ascend c (suc n) =
      both_ascend c (all (c + 1) n) (readers_ascend (c + 1) n) (λ first. after_all c first (all (c + 1) n) (none_before (c + 1) (c + 1) n (omega arith)))

  has_one : (c : ℕ) (first : Bool) (rest : List Reader) → may c first ≡ true → Contains (one c ++ rest) (reader_at c first)
  has_one c true rest e = at (may c true) e
    where
      at : (a : Bool) → a ≡ true → Contains ((reader_if a c true ++ reader_if (may c false) c false) ++ rest) (reader_at c true)
      at true e = contains_it (reader_if (may c false) c false ++ rest) (reader_at c true)
      at false e = absurd (false≢true e)
  has_one c false rest e = at (may c true) (may c false) e
    where
      at : (a b : Bool) → b ≡ true → Contains ((reader_if a c true ++ reader_if b c false) ++ rest) (reader_at c false)
      at true true e = contains_later (reader_at c false ∷ rest) (reader_at c true) (reader_at c false) (contains_it rest (reader_at c false))
      at false true e = contains_it rest (reader_at c false)
      at a false e = absurd (false≢true e)

  has : (c n d : ℕ) (first : Bool) → c ≤ d → d < c + n → may d first ≡ true → Contains (all c n) (reader_at d first)
  has c zero d first h k e = absurd (omega (arith, h, k))
  has c (suc n) d first h k e = by_order (nat_lt c d) refl (λ g. has (c + 1) n d first (omega (arith, g)) (omega (arith, k)) e)
    where
      by_order : (b : Bool) → nat_lt c d ≡ b → (c < d → Contains (all (c + 1) n) (reader_at d first)) → Contains (all c (suc n)) (reader_at d first)
      by_order true g later = contains_after (one c) (all (c + 1) n) _ (later (ltb-true c d g))
      by_order false g later =
          let same : c ≡ d = omega (arith, h, ltb-false c d g) in
          let C : ℕ → Type 0 = λ m. Contains (one c ++ all (c + 1) n) (reader_at m first) in
          subst C same (has_one c first (all (c + 1) n) (ap (λ m. may m first) same ∙ e))

pub reads_readers : (P : Project) (near : List MachineState) (c : ℕ) (slot : Slot) → c < components P.k → reads P near c slot ≡ true → Contains (readers P slot) (reader_at c (is_first near))
reads_readers P near c slot h e = has (λ d first. may_read P d first slot) 0 (components P.k) c (is_first near) (omega arith) (omega (arith, h)) (reads_may P near c slot e)
