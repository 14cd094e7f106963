-- Edits that take an edit back are accepted, and lead back.
use Rattle.std.proofs.Common.{◌≡◌, ℕ, suc, ◌+◌, ◌^◌, ◌<◌, ◌≤◌, ◌==◌, ◌&&◌, nat_le, nat_lt, Bool, true, false, not, cond, List, [], ◌∷◌, ◌++◌, length, take, drop, Option, Some, Ok, slice_get, slice_set, slice_index_or, arith, refl, ap, sym, subst, ◌∙◌, ◌⊎◌, inl, inr, add-one, append-nil, append_assoc, IsTrue}
use Rattle.std.specs.Prelude.{IfSome}
use Rattle.std.proofs.lemmas.Bool.Decides.{nat_tests}
use Rattle.std.proofs.lemmas.Bool.{cases_lt, lt-ltb}
use Rattle.std.proofs.lemmas.List.{get_or-set_same, set-set, set-get_or, set_split, length-set, take_at, take_all, drop_all, length-append, length_push, length-take-le, take-append-drop, get_or_at}
use Rattle.std.proofs.lemmas.Option.{slice_get-get_or}
use Rattle.omega_net.specs.declared.script.ScriptEntry.{ScriptEntry}
use Rattle.omega_net.specs.declared.script.ScriptEntry.TheVariants.{Fence}
use Rattle.page_map.specs.Limits.{page_count, address_count}
use Rattle.page_map.specs.Places.{Page as Spread}
use Rattle.page_map.specs.Pages.{IsPageMap, is_spread}
use Rattle.page_map.proofs.Spread.{page_of_is}
use Rattle.project_book.specs.Limits.{max_edits, script_entries}
use Rattle.project_book.specs.Scales.{most_entries}
use Rattle.project_book.specs.declared.edit.Edit.{Edit}
use Rattle.project_book.specs.declared.edit.Edit.TheVariants.{Entry, Cut, Word, Page, Combine}
use Rattle.project_book.specs.declared.fault.EditFault.{EditFault}
use Rattle.project_book.specs.declared.fault.EditFault.TheVariants.{JournalFull, BadProcessor, BadEntry, ScriptFull, BadAddress, BadPage, BadInterleave, BadStage, BadTimes}
use Rattle.project_book.specs.declared.words.FirstWord.{FirstWord}
use Rattle.project_book.specs.FirstWords.{IsListing, word_at, with_word}
use Rattle.project_book.specs.Scripts.{script_of, put_entry, is_addressed, is_timed, IsEntry}
use Rattle.project_book.specs.Project.{Project, IsProject, length_at, entry_at, page_of, word_of, combines_at}
use Rattle.project_book.specs.Edits.{accepts, verdict, edited, overfills}
use Rattle.project_book.proofs.Accepting.{placed, kept, staged, paged, passed, IsPlaced, IsKept}
use Rattle.edit_undo.specs.Undoing.{cut_back, entry_back, entries_back, undoing, LeadsTo}
use Rattle.edit_undo.proofs.Words.{word_back}
use Rattle.edit_undo.proofs.Listing.{entry_shown, none_past}

-- a fault that doesn't apply is passed
pass : (applies : Bool) (fault : EditFault) (others : Option EditFault) → applies ≡ false → verdict others ≡ Ok tt → verdict (cond applies (Some fault) others) ≡ Ok tt
pass true fault others e h = absurd cc
pass false fault others e h = h

isnt : (b : Bool) → b ≡ true → not b ≡ false
isnt b e = rw e refl

is_true : (b : Bool) → IsTrue b → b ≡ true
is_true b h = h

room : (v n : ℕ) → v + suc n ≤ max_edits → nat_le max_edits v ≡ false
room v n h = grind (arith, nat_tests)

-- one edit that leads back
one : (P Q : Project) (v : ℕ) (e : Edit) → (nat_le max_edits v ≡ false → accepts Q v e ≡ Ok tt) → edited Q e ≡ P → v + 1 ≤ max_edits → LeadsTo Q v (e ∷ []) P
one P Q v e ok is h = (ok (room v 0 h), is)

-- an entry that a project takes is taken
takes_entry : (P : Project) (v p i : ℕ) (entry : ScriptEntry) → nat_le max_edits v ≡ false → IsPlaced P p i entry → accepts P v (Entry p i entry) ≡ Ok tt
takes_entry P v p i entry few at =
    let processor : nat_le (2 ^ P.k) p ≡ false = (let h = at.processor in grind (arith, nat_tests)) in
    let there : nat_lt (length_at P p) i ≡ false = (let h = at.there in grind (arith, nat_tests)) in
    let full : overfills P (Entry p i entry) ≡ false = isnt_full (i == length_at P p) (nat_le (most_entries P.scale) i) refl refl in
    pass (nat_le max_edits v) JournalFull _ few
    (pass (nat_le (2 ^ P.k) p) BadProcessor _ processor
    (pass (nat_lt (length_at P p) i) BadEntry _ there
    (pass (overfills P (Entry p i entry)) ScriptFull _ full
    (pass (not (is_addressed entry)) BadAddress _ (isnt _ at.within.addressed)
    (pass (not (is_timed entry)) BadTimes _ (isnt _ at.within.timed) refl)))))
  where
    isnt_full : (a b : Bool) → (i == length_at P p) ≡ a → nat_le (most_entries P.scale) i ≡ b → a && b ≡ false
    isnt_full false b e f = refl
    isnt_full true false e f = refl
    isnt_full true true e f =
        let x : i ≡ length_at P p = grind (arith, nat_tests) in
        let y : most_entries P.scale ≤ i = grind (arith, nat_tests) in
        absurd (omega (arith, at.fits x, y))

takes_cut : (P : Project) (v p n : ℕ) → nat_le max_edits v ≡ false → p < 2 ^ P.k → n ≤ length_at P p → accepts P v (Cut p n) ≡ Ok tt
takes_cut P v p n few processor there =
    let a : nat_le (2 ^ P.k) p ≡ false = grind (arith, nat_tests) in
    let b : nat_lt (length_at P p) n ≡ false = grind (arith, nat_tests) in
    pass (nat_le max_edits v) JournalFull _ few (pass (nat_le (2 ^ P.k) p) BadProcessor _ a (pass (nat_lt (length_at P p) n) BadEntry _ b refl))

-- the script of a processor that was given one
script_given : (P : Project) (p : ℕ) (es : List ScriptEntry) → IsProject P → p < 2 ^ P.k → script_of (slice_set P.scripts p es) p ≡ es
script_given P p es h lt = get_or-set_same P.scripts p es [] (omega (arith, h.scripts, lt))

-- and the scripts, where it is given its own again
scripts_back : (P : Project) (p : ℕ) (some es : List ScriptEntry) → es ≡ script_of P.scripts p → slice_set (slice_set P.scripts p some) p es ≡ P.scripts
scripts_back P p some es e = set-set P.scripts p some es ∙ ap (λ l. slice_set P.scripts p l) e ∙ set-get_or P.scripts p []

put_at_end : (es : List ScriptEntry) (i : ℕ) (entry : ScriptEntry) → i ≡ length es → put_entry es i entry ≡ es ++ entry ∷ []
put_at_end es i entry e =
    ap (λ l. l ++ entry ∷ drop (i + 1) es) (take_all i es (omega (arith, e))) ∙ ap (λ l. es ++ entry ∷ l) (drop_all (i + 1) es (omega (arith, e)))

put_within : (es : List ScriptEntry) (i : ℕ) (entry : ScriptEntry) → i < length es → put_entry es i entry ≡ slice_set es i entry
put_within es i entry lt = rw add-one (sym (set_split es i entry lt))

-- a script whose entry was replaced, and is again
entry_twice : (es : List ScriptEntry) (i : ℕ) (entry old : ScriptEntry) → i < length es → slice_get es i ≡ Some old → put_entry (put_entry es i entry) i old ≡ es
entry_twice es i entry old lt is =
    let at : Some (slice_index_or es i Fence) ≡ Some old = sym (slice_get-get_or es i Fence lt) ∙ is in
    let same : slice_index_or es i Fence ≡ old = cc in
    ap (λ l. put_entry l i old) (put_within es i entry lt)
    ∙ put_within (slice_set es i entry) i old (rw (length-set es i entry) lt)
    ∙ set-set es i entry old ∙ ap (λ x. slice_set es i x) (sym same) ∙ set-get_or es i Fence

-- an entry was replaced
replaced_back : (P : Project) (v p i : ℕ) (entry old : ScriptEntry) → IsProject P → IsPlaced P p i entry → i < length_at P p
    → slice_get (script_of P.scripts p) i ≡ Some old → IsEntry old → v + 1 ≤ max_edits → LeadsTo (edited P (Entry p i entry)) v (Entry p i old ∷ []) P
replaced_back P v p i entry old h at lt is within room =
    let Q = edited P (Entry p i entry) in
    let es = script_of P.scripts p in
    let new = put_entry es i entry in
    let given : script_of Q.scripts p ≡ new = script_given P p new h at.processor in
    let long : length_at Q p ≡ length es = ap length (given ∙ put_within es i entry lt) ∙ length-set es i entry in
    let placed : IsPlaced Q p i old = record {
      processor = at.processor;
      there = omega (arith, long, lt);
      room = λ e f. absurd (omega (arith, long, lt, e));
      fits = λ e. absurd (omega (arith, long, lt, e));
      within = within;
    } in
    let back : put_entry (script_of Q.scripts p) i old ≡ es = ap (λ l. put_entry l i old) given ∙ entry_twice es i entry old lt is in
    one P Q v (Entry p i old) (λ few. takes_entry Q v p i old few placed)
    (ap (λ (s : List (List ScriptEntry)). record P { scripts = s }) (ap (λ l. slice_set Q.scripts p l) back ∙ scripts_back P p new es refl)) room

-- an entry was added
added_back : (P : Project) (v p i : ℕ) (entry : ScriptEntry) → IsProject P → IsPlaced P p i entry → i ≡ length_at P p → v + 1 ≤ max_edits
    → LeadsTo (edited P (Entry p i entry)) v (Cut p i ∷ []) P
added_back P v p i entry h at is room =
    let Q = edited P (Entry p i entry) in
    let es = script_of P.scripts p in
    let new = put_entry es i entry in
    let given : script_of Q.scripts p ≡ es ++ entry ∷ [] = script_given P p new h at.processor ∙ put_at_end es i entry is in
    let long : length_at Q p ≡ length es + 1 = ap length given ∙ length_push es entry in
    let back : take i (script_of Q.scripts p) ≡ es = ap (take i) given ∙ take_at es (entry ∷ []) i (sym is) in
    one P Q v (Cut p i) (λ few. takes_cut Q v p i few at.processor (omega (arith, long, is)))
    (ap (λ (s : List (List ScriptEntry)). record P { scripts = s }) (ap (λ l. slice_set Q.scripts p l) back ∙ scripts_back P p new es refl)) room

pub entry_leads_back : (P : Project) (v p i : ℕ) (entry : ScriptEntry) → IsProject P → length_at P p ≤ script_entries → IfSome (entry_at P p i) IsEntry
    → accepts P 0 (Entry p i entry) ≡ Ok tt → v + 1 ≤ max_edits → LeadsTo (edited P (Entry p i entry)) v (undoing P (Entry p i entry)) P
entry_leads_back P v p i entry h few within ok room = by_place (cases_lt i (length_at P p))
  where
    at : IsPlaced P p i entry
    at = placed P p i entry ok

    by_place : (i < length_at P p) ⊎ (length_at P p ≤ i) → LeadsTo (edited P (Entry p i entry)) v (entry_back p i (entry_at P p i) ∷ []) P
    by_place (inl lt) =
        let es = script_of P.scripts p in
        let is : entry_at P p i ≡ Some (slice_index_or es i Fence) = entry_shown P p i h few lt in
        let old = slice_index_or es i Fence in
        subst (λ o. LeadsTo (edited P (Entry p i entry)) v (entry_back p i o ∷ []) P) (sym is)
        (replaced_back P v p i entry old h at lt (slice_get-get_or es i Fence lt) (subst (λ o. IfSome o IsEntry) is within) room)
    by_place (inr le) =
        let end : i ≡ length_at P p = (let there = at.there in omega (arith, there, le)) in
        subst (λ o. LeadsTo (edited P (Entry p i entry)) v (entry_back p i o ∷ []) P) (sym (none_past P p i le)) (added_back P v p i entry h at end room)

-- entries are put behind the first ones, which stayed
put_back : (P : Project) (p : ℕ) → IsProject P → p < 2 ^ P.k → length_at P p ≤ script_entries → (back front : List ScriptEntry) (i v : ℕ) → i ≡ length front → front ++ back ≡ script_of P.scripts p
    → ((j : ℕ) → i ≤ j → IfSome (entry_at P p j) IsEntry) → v + length (entries_back p i back) ≤ max_edits
    → LeadsTo (record P { scripts = slice_set P.scripts p front }) v (entries_back p i back) P
put_back P p h lt few [] front i v is all within room =
    ap (λ (s : List (List ScriptEntry)). record P { scripts = s }) (ap (λ l. slice_set P.scripts p l) (sym (append-nil front) ∙ all) ∙ set-get_or P.scripts p [])
put_back P p h lt few (x ∷ back) front i v is all within room =
    let Q : Project = record P { scripts = slice_set P.scripts p front } in
    let es = script_of P.scripts p in
    let given : script_of Q.scripts p ≡ front = script_given P p front h lt in
    let long : length_at Q p ≡ length front = ap length given in
    let more : length front + length (x ∷ back) ≡ length es = sym (length-append front (x ∷ back)) ∙ ap length all in
    let low : i < length_at P p = omega (arith, is, more) in
    let shown : entry_at P p i ≡ Some x =
    entry_shown P p i h few low ∙ ap Some (ap (λ l. slice_index_or l i Fence) (sym all) ∙ get_or_at front x back Fence i (sym is)) in
    let placed : IsPlaced Q p i x = record {
      processor = lt;
      there = omega (arith, long, is);
      room = λ e f. absurd (omega (arith, low, few, f));
      fits = λ e. let most = h.few p in omega (arith, low, most);
      within = subst (λ o. IfSome o IsEntry) shown (within i (omega arith));
    } in
    let made : edited Q (Entry p i x) ≡ record P { scripts = slice_set P.scripts p (front ++ x ∷ []) } =
    ap (λ (s : List (List ScriptEntry)). record P { scripts = s })
    (ap (λ l. slice_set Q.scripts p l) (ap (λ l. put_entry l i x) given ∙ put_at_end front i x is) ∙ set-set P.scripts p front (front ++ x ∷ [])) in
    let rest = put_back P p h lt few back (front ++ x ∷ []) (suc i) (suc v) (omega (arith, length_push front x, is)) (append_assoc front (x ∷ []) back ∙ all)
    (λ j le. within j (omega (arith, le))) (omega (arith, room)) in
    let free : nat_le max_edits v ≡ false = grind (arith, nat_tests) in
    (takes_entry Q v p i x free placed, subst (λ R. LeadsTo R (suc v) (entries_back p (suc i) back) P) (sym made) rest)

pub cut_leads_back : (P : Project) (v p n : ℕ) → IsProject P → length_at P p ≤ script_entries → ((j : ℕ) → n ≤ j → IfSome (entry_at P p j) IsEntry)
    → accepts P 0 (Cut p n) ≡ Ok tt → v + length (undoing P (Cut p n)) ≤ max_edits → LeadsTo (edited P (Cut p n)) v (undoing P (Cut p n)) P
cut_leads_back P v p n h few within ok room =
    let es = script_of P.scripts p in
    by_rest (drop n es) refl room
  where
    cut : IsKept P p n
    cut = kept P p n ok

    by_rest : (rest : List ScriptEntry) → drop n (script_of P.scripts p) ≡ rest → v + length (cut_back p n rest) ≤ max_edits → LeadsTo (edited P (Cut p n)) v (cut_back p n rest) P
    by_rest [] none few_left =
        let es = script_of P.scripts p in
        let Q = edited P (Cut p n) in
        let all : take n es ≡ es = sym (append-nil (take n es)) ∙ ap (λ l. take n es ++ l) (sym none) ∙ take-append-drop n es in
        let given : script_of Q.scripts p ≡ es = script_given P p (take n es) h cut.processor ∙ all in
        let long : length_at Q p ≡ length es = ap length given in
        let there = cut.there in
        let back : take n (script_of Q.scripts p) ≡ es = ap (take n) given ∙ all in
        one P Q v (Cut p n) (λ free. takes_cut Q v p n free cut.processor (omega (arith, long, there)))
        (ap (λ (s : List (List ScriptEntry)). record P { scripts = s }) (ap (λ l. slice_set Q.scripts p l) back ∙ scripts_back P p (take n es) es refl)) few_left
    by_rest (x ∷ xs) some few_left =
        let es = script_of P.scripts p in
        put_back P p h cut.processor few (x ∷ xs) (take n es) n v (sym (length-take-le n es cut.there)) (ap (λ l. take n es ++ l) (sym some) ∙ take-append-drop n es) within few_left

pub word_leads_back : (P : Project) (v a word : ℕ) → IsListing P.words → accepts P 0 (Word a word) ≡ Ok tt → v + 1 ≤ max_edits
    → LeadsTo (edited P (Word a word)) v (undoing P (Word a word)) P
word_leads_back P v a word listing ok room =
    let there : nat_le address_count a ≡ false = (passed (nat_le address_count a) BadAddress _ ok).0 in
    let same : word_of P a ≡ word_at P.words a = (let lt : a < address_count = grind (arith, nat_tests) in rw (lt-ltb a address_count lt) refl) in
    one P (edited P (Word a word)) v (Word a (word_of P a)) (λ few. pass (nat_le max_edits v) JournalFull _ few (pass (nat_le address_count a) BadAddress _ there refl))
    (ap (λ (ws : List FirstWord). record P { words = ws }) (ap (λ x. with_word (with_word P.words a word) a x) same ∙ word_back P.words a word listing)) room

pub page_leads_back : (P : Project) (v g amount base : ℕ) → IsProject P → IsPageMap P.pages → accepts P 0 (Page g amount base) ≡ Ok tt → v + 1 ≤ max_edits
    → LeadsTo (edited P (Page g amount base)) v (undoing P (Page g amount base)) P
page_leads_back P v g amount base h known ok room =
    let lt : g < page_count = paged P g amount base ok in
    let there : nat_le page_count g ≡ false = grind (arith, nat_tests) in
    let d : Spread = record { amount = 0; base = 0 } in
    let old : page_of P g ≡ slice_index_or P.pages.pages g d = page_of_is P.pages g lt in
    let spread : is_spread P.k (page_of P g).amount (page_of P g).base ≡ true = subst (λ k. is_spread k (page_of P g).amount (page_of P g).base ≡ true) h.mapped (is_true _ (known.spread g lt)) in
    let back : slice_set (slice_set P.pages.pages g (record { amount = amount; base = base })) g (page_of P g) ≡ P.pages.pages =
    set-set P.pages.pages g (record { amount = amount; base = base }) (page_of P g) ∙ ap (λ x. slice_set P.pages.pages g x) old ∙ set-get_or P.pages.pages g d in
    one P (edited P (Page g amount base)) v (Page g (page_of P g).amount (page_of P g).base)
    (λ few. pass (nat_le max_edits v) JournalFull _ few (pass (nat_le page_count g) BadPage _ there (pass (not (is_spread P.k (page_of P g).amount (page_of P g).base)) BadInterleave _ (isnt _ spread) refl)))
    (ap (λ (ps : List Spread). record P { pages = record { k = P.pages.k; pages = ps } }) back) room

pub combine_leads_back : (P : Project) (v s : ℕ) (on : Bool) → accepts P 0 (Combine s on) ≡ Ok tt → v + 1 ≤ max_edits
    → LeadsTo (edited P (Combine s on)) v (undoing P (Combine s on)) P
combine_leads_back P v s on ok room =
    let lt : s < P.k = staged P s on ok in
    let there : nat_le P.k s ≡ false = grind (arith, nat_tests) in
    let old : combines_at P s ≡ slice_index_or P.combine s false = rw (lt-ltb s P.k lt) refl in
    one P (edited P (Combine s on)) v (Combine s (combines_at P s)) (λ few. pass (nat_le max_edits v) JournalFull _ few (pass (nat_le P.k s) BadStage _ there refl))
    (ap (λ (flags : List Bool). record P { combine = flags }) (set-set P.combine s on (combines_at P s) ∙ ap (λ x. slice_set P.combine s x) old ∙ set-get_or P.combine s false)) room

-- of an edit that is known
pub of_edit : (P : Project) (e known : Edit) (v : ℕ) → e ≡ known
    → (accepts P 0 known ≡ Ok tt → v + length (undoing P known) ≤ max_edits → LeadsTo (edited P known) v (undoing P known) P)
    → accepts P 0 e ≡ Ok tt → v + length (undoing P e) ≤ max_edits → LeadsTo (edited P e) v (undoing P e) P
of_edit P e known v is leads = subst (λ x. accepts P 0 x ≡ Ok tt → v + length (undoing P x) ≤ max_edits → LeadsTo (edited P x) v (undoing P x) P) (sym is) leads
