-- The slots that an edit touches.
use Rattle.std.proofs.Common.{◌≡◌, ◌≢◌, ◌⊎◌, ℕ, zero, suc, ◌+◌, ◌-◌, ◌^◌, ◌<◌, ◌≤◌, ◌&&◌, nat_lt, Bool, true, false, cond, List, [], ◌∷◌, length, take, Option, Some, None, Ok, unwrap_or, slice_get, slice_set, slice_index_or, arith, refl, ap, sym, subst, ◌∙◌, inl, inr, add-one, length-take}
use Rattle.std.specs.List.{Contains}
use Rattle.std.proofs.lemmas.Bool.{cases_lt, cases_eq, lt-ltb}
use Rattle.std.proofs.lemmas.List.{get_or-set_other, get_or-set_same}
use Rattle.std.proofs.lemmas.Option.{slice_get_past, slice_get-get_or, get_or_from_slice_get}
use Rattle.omega_net.specs.declared.script.ScriptEntry.{ScriptEntry}
use Rattle.omega_net.specs.declared.script.ScriptEntry.TheVariants.{Fence}
use Rattle.page_map.specs.Places.{Page as Spread}
use Rattle.page_map.specs.Limits.{address_count, page_count}
use Rattle.project_book.specs.Limits.{script_entries}
use Rattle.project_book.specs.declared.depths.QueueDepths.{QueueDepths}
use Rattle.project_book.specs.declared.edit.Depths.{Depths}
use Rattle.project_book.specs.declared.edit.Depths.TheVariants.{LowForward, LowReverse, CombForward, CombReverse, ModuleQueue}
use Rattle.project_book.specs.declared.edit.Edit.{Edit}
use Rattle.project_book.specs.declared.edit.Edit.TheVariants.{Entry, Cut, Word, Page, Depth, WaitDepth, Combine, Window, Horizon}
use Rattle.project_book.specs.declared.slot.Slot.{Slot}
use Rattle.project_book.specs.declared.slot.Slot.TheVariants.{Shape, Entry as EntrySlot, Word as WordSlot, Page as PageSlot, Depth as DepthSlot, Wait as WaitSlot, Combine as CombineSlot, Window as WindowSlot}
use Rattle.project_book.specs.Queues.{depth_in, with_depth}
use Rattle.project_book.specs.Scripts.{script_of, put_entry}
use Rattle.project_book.specs.Project.{Project, IsProject, length_at, entry_at}
use Rattle.project_book.specs.Slots.{SameAt, DifferAtMost, Touches, AreEntries}
use Rattle.project_book.specs.Edits.{accepts, edited, slot_of}
use Rattle.project_book.proofs.Accepting.{placed, kept, IsPlaced}
use Rattle.project_book.proofs.Leaving.{put_other, set_other, take_below, word_other}

-- an entry of another processor's script
row_other : (P : Project) (p q j : ℕ) (es : List ScriptEntry) → q ≢ p → entry_at P q j ≡ entry_at (record P { scripts = slice_set P.scripts p es }) q j
row_other P p q j es ne =
    ap (λ (row : List ScriptEntry). cond (nat_lt q (2 ^ P.k) && nat_lt j script_entries) (slice_get row j) None) (sym (get_or-set_other P.scripts p q es [] ne))

-- an entry of the changed script, where the new script shows the same there
row_same : (P : Project) (p q j : ℕ) (es : List ScriptEntry) → p < length P.scripts → q ≡ p → slice_get es j ≡ slice_get (script_of P.scripts p) j → entry_at P q j ≡ entry_at (record P { scripts = slice_set P.scripts p es }) q j
row_same P p q j es there is same =
    ap (λ (o : Option ScriptEntry). cond (nat_lt q (2 ^ P.k) && nat_lt j script_entries) o None) (subst Shows (sym is) (sym (ap (λ (row : List ScriptEntry). slice_get row j) (get_or-set_same P.scripts p es [] there) ∙ same)))
  where
    Shows : ℕ → Type 0
    Shows r = slice_get (script_of P.scripts r) j ≡ slice_get (script_of (slice_set P.scripts p es) r) j

differ_entry : (P : Project) (p i : ℕ) (entry : ScriptEntry) → IsProject P → IsPlaced P p i entry → DifferAtMost P (edited P (Entry p i entry)) (EntrySlot p i)
differ_entry P p i entry h at = record { shape = refl; others = others }
  where
    by : (q j : ℕ) → (q ≡ p) ⊎ (q ≢ p) → (j ≡ i) ⊎ (j ≢ i) → (EntrySlot q j ≡ EntrySlot p i) ⊎ SameAt P (edited P (Entry p i entry)) (EntrySlot q j)
    by q j (inr ne) k = inr (row_other P p q j _ ne)
    by q j (inl is) (inl same) = inl (cc)
    by q j (inl is) (inr ne) =
        let there : p < length P.scripts = omega (arith, h.scripts, at.processor) in
        let shown : slice_get (put_entry (script_of P.scripts p) i entry) j ≡ slice_get (script_of P.scripts p) j = rw add-one (put_other (script_of P.scripts p) i j entry at.there ne) in
        inr (row_same P p q j _ there is shown)

    others : (other : Slot) → (other ≡ EntrySlot p i) ⊎ SameAt P (edited P (Entry p i entry)) other
    others (EntrySlot q j) = by q j (cases_eq q p) (cases_eq j i)
    others _ = inr refl

differ_word : (P : Project) (a word : ℕ) → DifferAtMost P (edited P (Word a word)) (WordSlot a)
differ_word P a word = record { shape = refl; others = others }
  where
    by : (b : ℕ) → (b ≡ a) ⊎ (b ≢ a) → (WordSlot b ≡ WordSlot a) ⊎ SameAt P (edited P (Word a word)) (WordSlot b)
    by b (inl is) = inl (ap (λ (n : ℕ). WordSlot n) is)
    by b (inr ne) = inr (ap (λ (n : ℕ). cond (nat_lt b address_count) n 0) (sym (word_other P.words a word b ne)))

    others : (other : Slot) → (other ≡ WordSlot a) ⊎ SameAt P (edited P (Word a word)) other
    others (WordSlot b) = by b (cases_eq b a)
    others _ = inr refl

differ_page : (P : Project) (g amount base : ℕ) → DifferAtMost P (edited P (Page g amount base)) (PageSlot g)
differ_page P g amount base = record { shape = refl; others = others }
  where
    by : (h : ℕ) → (h ≡ g) ⊎ (h ≢ g) → (PageSlot h ≡ PageSlot g) ⊎ SameAt P (edited P (Page g amount base)) (PageSlot h)
    by h (inl is) = inl (ap (λ (n : ℕ). PageSlot n) is)
    by h (inr ne) =
        inr (ap (λ (o : Option Spread). unwrap_or (cond (nat_lt h page_count) o None) (record { amount = 0; base = 0 })) (sym (set_other P.pages.pages g h (record { amount = amount; base = base }) ne)))

    others : (other : Slot) → (other ≡ PageSlot g) ⊎ SameAt P (edited P (Page g amount base)) other
    others (PageSlot h) = by h (cases_eq h g)
    others _ = inr refl

depth_other : (ds : QueueDepths) (q : Depths) (d : ℕ) (r : Depths) → (r ≡ q) ⊎ (depth_in ds r ≡ depth_in (with_depth ds q d) r)
depth_other ds LowForward d LowForward = inl refl
depth_other ds LowForward d r = inr refl
depth_other ds LowReverse d LowReverse = inl refl
depth_other ds LowReverse d r = inr refl
depth_other ds CombForward d CombForward = inl refl
depth_other ds CombForward d r = inr refl
depth_other ds CombReverse d CombReverse = inl refl
depth_other ds CombReverse d r = inr refl
depth_other ds ModuleQueue d ModuleQueue = inl refl
depth_other ds ModuleQueue d r = inr refl

differ_depth : (P : Project) (q : Depths) (d : ℕ) → DifferAtMost P (edited P (Depth q d)) (DepthSlot q)
differ_depth P q d = record { shape = refl; others = others }
  where
    by : (r : Depths) → (r ≡ q) ⊎ (depth_in P.depths r ≡ depth_in (with_depth P.depths q d) r) → (DepthSlot r ≡ DepthSlot q) ⊎ SameAt P (edited P (Depth q d)) (DepthSlot r)
    by r (inl is) = inl (ap (λ (s : Depths). DepthSlot s) is)
    by r (inr same) = inr same

    others : (other : Slot) → (other ≡ DepthSlot q) ⊎ SameAt P (edited P (Depth q d)) other
    others (DepthSlot r) = by r (depth_other P.depths q d r)
    others _ = inr refl

differ_combine : (P : Project) (s : ℕ) (on : Bool) → DifferAtMost P (edited P (Combine s on)) (CombineSlot s)
differ_combine P s on = record { shape = refl; others = others }
  where
    by : (t : ℕ) → (t ≡ s) ⊎ (t ≢ s) → (CombineSlot t ≡ CombineSlot s) ⊎ SameAt P (edited P (Combine s on)) (CombineSlot t)
    by t (inl is) = inl (ap (λ (n : ℕ). CombineSlot n) is)
    by t (inr ne) = inr (ap (λ (b : Bool). cond (nat_lt t P.k) b false) (sym (get_or-set_other P.combine s t on false ne)))

    others : (other : Slot) → (other ≡ CombineSlot s) ⊎ SameAt P (edited P (Combine s on)) other
    others (CombineSlot t) = by t (cases_eq t s)
    others _ = inr refl

differ_wait : (P : Project) (d : ℕ) → DifferAtMost P (edited P (WaitDepth d)) WaitSlot
differ_wait P d = record { shape = refl; others = others }
  where
    others : (other : Slot) → (other ≡ WaitSlot) ⊎ SameAt P (edited P (WaitDepth d)) other
    others WaitSlot = inl refl
    others _ = inr refl

differ_window : (P : Project) (w : ℕ) → DifferAtMost P (edited P (Window w)) WindowSlot
differ_window P w = record { shape = refl; others = others }
  where
    others : (other : Slot) → (other ≡ WindowSlot) ⊎ SameAt P (edited P (Window w)) other
    others WindowSlot = inl refl
    others _ = inr refl

-- an edit that names a slot changes no other one
pub differ_at_most : (P : Project) (e : Edit) (slot : Slot) → IsProject P → accepts P 0 e ≡ Ok tt → slot_of e ≡ Some slot → DifferAtMost P (edited P e) slot
differ_at_most P (Entry p i entry) slot h ok is =
    let same : EntrySlot p i ≡ slot = cc in subst (DifferAtMost P (edited P (Entry p i entry))) same (differ_entry P p i entry h (placed P p i entry ok))
differ_at_most P (Cut p n) slot h ok is = absurd (cc)
differ_at_most P (Word a word) slot h ok is =
    let same : WordSlot a ≡ slot = cc in subst (DifferAtMost P (edited P (Word a word))) same (differ_word P a word)
differ_at_most P (Page g amount base) slot h ok is =
    let same : PageSlot g ≡ slot = cc in subst (DifferAtMost P (edited P (Page g amount base))) same (differ_page P g amount base)
differ_at_most P (Depth q d) slot h ok is =
    let same : DepthSlot q ≡ slot = cc in subst (DifferAtMost P (edited P (Depth q d))) same (differ_depth P q d)
differ_at_most P (WaitDepth d) slot h ok is =
    let same : WaitSlot ≡ slot = cc in subst (DifferAtMost P (edited P (WaitDepth d))) same (differ_wait P d)
differ_at_most P (Combine s on) slot h ok is =
    let same : CombineSlot s ≡ slot = cc in subst (DifferAtMost P (edited P (Combine s on))) same (differ_combine P s on)
differ_at_most P (Window w) slot h ok is =
    let same : WindowSlot ≡ slot = cc in subst (DifferAtMost P (edited P (Window w))) same (differ_window P w)
differ_at_most P (Horizon t) slot h ok is = absurd (cc)

-- where two projects differ in one slot at most, it is listed exactly where they do
pub touches_none : (P Q : Project) (slot : Slot) → DifferAtMost P Q slot → SameAt P Q slot → Touches P Q []
touches_none P Q slot h same =
    record { shape = h.shape; complete = λ other absent. by other (h.others other); exact = λ other has. absurd (omega (arith, has.1)); once = λ i j d lt le. absurd (omega arith) }
  where
    by : (other : Slot) → (other ≡ slot) ⊎ SameAt P Q other → SameAt P Q other
    by other (inl is) = subst (SameAt P Q) (sym is) same
    by other (inr holds) = holds

pub touches_slot : (P Q : Project) (slot : Slot) → DifferAtMost P Q slot → (SameAt P Q slot → ⊥) → Touches P Q (slot ∷ [])
touches_slot P Q slot h differs =
    record { shape = h.shape; complete = λ other absent. by other absent (h.others other); exact = λ other has same. differs (subst (SameAt P Q) (sym (only other has.0 has.1 has.2)) same); once = λ i j d lt le. absurd (omega arith) }
  where
    by : (other : Slot) → (Contains (slot ∷ []) other → ⊥) → (other ≡ slot) ⊎ SameAt P Q other → SameAt P Q other
    by other absent (inl is) = absurd (absent (0, omega arith, sym is))
    by other absent (inr holds) = holds

    only : (other : Slot) (k : ℕ) → k < 1 → slice_index_or (slot ∷ []) k other ≡ other → slot ≡ other
    only other zero lt is = is
    only other (suc k) lt is = absurd (omega arith)

-- the horizon is no slot
pub touches_horizon : (P : Project) (t : ℕ) → Touches P (edited P (Horizon t)) []
touches_horizon P t = record { shape = refl; complete = complete; exact = λ other has. absurd (omega (arith, has.1)); once = λ i j d lt le. absurd (omega arith) }
  where
    complete : (other : Slot) → (Contains [] other → ⊥) → SameAt P (edited P (Horizon t)) other
    complete Shape absent = refl
    complete _ absent = refl

-- a cut touches the entries that it removes
pub touches_cut : (P : Project) (p n : ℕ) (slots : List Slot) → IsProject P → length_at P p ≤ script_entries → accepts P 0 (Cut p n) ≡ Ok tt → AreEntries p n (length_at P p) slots → Touches P (edited P (Cut p n)) slots
touches_cut P p n slots h few ok are = record { shape = refl; complete = complete; exact = exact; once = once }
  where
    at : (k : ℕ) (d : Slot) → k < length slots → slice_index_or slots k d ≡ EntrySlot p (n + k)
    at k d lt = get_or_from_slice_get slots k (EntrySlot p (n + k)) d (are.each k (omega (arith, are.count)))

    there : p < length P.scripts
    there = let cut = kept P p n ok in omega (arith, h.scripts, cut.processor)

    shown : (q j : ℕ) → q ≡ p → (Contains slots (EntrySlot q j) → ⊥) → (j < n) ⊎ (n ≤ j) → (j < length (script_of P.scripts p)) ⊎ (length (script_of P.scripts p) ≤ j) → slice_get (take n (script_of P.scripts p)) j ≡ slice_get (script_of P.scripts p) j
    shown q j is absent (inl low) size = take_below (script_of P.scripts p) n j low
    shown q j is absent (inr high) (inl within) =
        let back : n + (j - n) ≡ j = omega arith in
        let named : EntrySlot p (n + (j - n)) ≡ EntrySlot q j = cc in
        let lt : j - n < length slots = omega (arith, are.count) in
        absurd (absent (j - n, lt, at (j - n) (EntrySlot q j) lt ∙ named))
    shown q j is absent (inr high) (inr past) =
        slice_get_past (take n (script_of P.scripts p)) j (omega (arith, length-take n (script_of P.scripts p))) ∙ sym (slice_get_past (script_of P.scripts p) j past)

    by_row : (q j : ℕ) → (q ≡ p) ⊎ (q ≢ p) → (Contains slots (EntrySlot q j) → ⊥) → SameAt P (edited P (Cut p n)) (EntrySlot q j)
    by_row q j (inr ne) absent = row_other P p q j _ ne
    by_row q j (inl is) absent =
        row_same P p q j _ there is (shown q j is absent (cases_lt j n) (cases_lt j (length (script_of P.scripts p))))

    complete : (other : Slot) → (Contains slots other → ⊥) → SameAt P (edited P (Cut p n)) other
    complete (EntrySlot q j) absent = by_row q j (cases_eq q p) absent
    complete _ absent = refl

    exact : (other : Slot) → Contains slots other → SameAt P (edited P (Cut p n)) other → ⊥
    exact other has same =
        let k = has.0 in
        let lt : k < length slots = has.1 in
        let named : other ≡ EntrySlot p (n + k) = sym has.2 ∙ at k other lt in
        let cut = kept P p n ok in
        let within : n + k < length (script_of P.scripts p) = omega (arith, are.count) in
        let processor = lt-ltb p (2 ^ P.k) cut.processor in
        let index : nat_lt (n + k) script_entries ≡ true = lt-ltb (n + k) script_entries (omega arith) in
        let shows = rw (processor, index) at (subst (SameAt P (edited P (Cut p n))) named same) in
        let some = slice_get-get_or (script_of P.scripts p) (n + k) Fence within in
        let none = ap (λ (row : List ScriptEntry). slice_get row (n + k)) (get_or-set_same P.scripts p (take n (script_of P.scripts p)) [] there) ∙ slice_get_past (take n (script_of P.scripts p)) (n + k) (omega (arith, length-take n (script_of P.scripts p))) in
        let clash = sym some ∙ shows ∙ none in
        absurd (cc)

    once : (i j : ℕ) (d : Slot) → i < j → j < length slots → slice_index_or slots i d ≡ slice_index_or slots j d → ⊥
    once i j d lt le is =
        let one = at i d (omega arith) in
        let two = at j d le in
        let e : EntrySlot p (n + i) ≡ EntrySlot p (n + j) = cc in
        let f : n + i ≡ n + j = cc in
        absurd (omega arith)
