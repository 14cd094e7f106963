-- The entries of a script, one after another.
use Rattle.std.proofs.Common.{◌≡◌, ℕ, suc, ◌+◌, ◌^◌, ◌<◌, ◌≤◌, ◌&&◌, nat_lt, Bool, true, false, cond, List, [], ◌∷◌, ◌++◌, length, drop, Some, None, slice_get, slice_index_or, arith, refl, ap, sym, subst, ◌∙◌, inl, inr, add-one, append-nil, append_assoc}
use Rattle.std.specs.Prelude.{IfSome}
use Rattle.std.proofs.lemmas.Bool.{cases_lt, lt-ltb}
use Rattle.std.proofs.lemmas.List.{drop_more, drop_all, get_or_past}
use Rattle.std.proofs.lemmas.Option.{slice_get_past, slice_get-get_or}
use Rattle.omega_net.specs.declared.script.ScriptEntry.{ScriptEntry}
use Rattle.omega_net.specs.declared.script.ScriptEntry.TheVariants.{Fence}
use Rattle.project_book.specs.Limits.{script_entries}
use Rattle.project_book.specs.declared.edit.Edit.{Edit}
use Rattle.project_book.specs.declared.edit.Edit.TheVariants.{Entry, Cut}
use Rattle.project_book.specs.Scripts.{script_of, IsEntry}
use Rattle.project_book.specs.Project.{Project, IsProject, length_at, entry_at}
use Rattle.edit_undo.specs.Undoing.{cut_back, entries_back}

-- a processor that has an entry is there
there_at : (P : Project) (p i : ℕ) → IsProject P → i < length_at P p → p < 2 ^ P.k
there_at P p i h lt = elim (cases_lt p (2 ^ P.k)) [
  | inl low ↦ low
  | inr high ↦
      let none : length_at P p ≡ 0 = ap length (get_or_past P.scripts p [] (omega (arith, h.scripts, high))) in
      absurd (omega (arith, none, lt))
]

pub entry_shown : (P : Project) (p i : ℕ) → IsProject P → length_at P p ≤ script_entries → i < length_at P p → entry_at P p i ≡ Some (slice_index_or (script_of P.scripts p) i Fence)
entry_shown P p i h few lt =
    rw (lt-ltb p (2 ^ P.k) (there_at P p i h lt), lt-ltb i script_entries (omega (arith, few, lt))) (slice_get-get_or (script_of P.scripts p) i Fence lt)

pub none_past : (P : Project) (p i : ℕ) → length_at P p ≤ i → entry_at P p i ≡ None
none_past P p i le = by_there (nat_lt p (2 ^ P.k) && nat_lt i script_entries)
  where
    by_there : (b : Bool) → cond b (slice_get (script_of P.scripts p) i) None ≡ None
    by_there true = slice_get_past (script_of P.scripts p) i le
    by_there false = refl

-- one entry more
pub entries_next : (P : Project) (p i : ℕ) (made all : List Edit) (entry : ScriptEntry) → IsProject P → length_at P p ≤ script_entries → i < length_at P p → entry_at P p i ≡ Some entry
    → made ++ entries_back p i (drop i (script_of P.scripts p)) ≡ all
    → (made ++ Entry p i entry ∷ []) ++ entries_back p (i + 1) (drop (i + 1) (script_of P.scripts p)) ≡ all
entries_next P p i made all entry h few lt is e =
    let es = script_of P.scripts p in
    let at : Some (slice_index_or es i Fence) ≡ Some entry = sym (entry_shown P p i h few lt) ∙ is in
    let same : slice_index_or es i Fence ≡ entry = cc in
    let split : entries_back p i (drop i es) ≡ Entry p i entry ∷ entries_back p (i + 1) (drop (i + 1) es) =
    ap (entries_back p i) (drop_more es i Fence lt) ∙ rw add-one (ap (λ x. Entry p i x ∷ entries_back p (suc i) (drop (suc i) es)) same) in
    append_assoc made (Entry p i entry ∷ []) (entries_back p (i + 1) (drop (i + 1) es)) ∙ ap (λ l. made ++ l) (sym split) ∙ e

pub entry_missing : (P : Project) (p i : ℕ) → IsProject P → length_at P p ≤ script_entries → i < length_at P p → entry_at P p i ≡ None → ⊥
entry_missing P p i h few lt none = let e = sym (entry_shown P p i h few lt) ∙ none in absurd cc

pub entries_all : (P : Project) (p i : ℕ) (made all : List Edit) → length_at P p ≤ i
    → made ++ entries_back p i (drop i (script_of P.scripts p)) ≡ all → made ≡ all
entries_all P p i made all le e = sym (append-nil made) ∙ ap (λ l. made ++ entries_back p i l) (sym (drop_all i (script_of P.scripts p) le)) ∙ e

-- what holds of each entry that was passed holds of one more
pub within_next : (P : Project) (p from i : ℕ) → IfSome (entry_at P p i) IsEntry → ((j : ℕ) → from ≤ j → j < i → IfSome (entry_at P p j) IsEntry)
    → (j : ℕ) → from ≤ j → j < i + 1 → IfSome (entry_at P p j) IsEntry
within_next P p from i here before j le lt = elim (cases_lt j i) [
  | inl low ↦ before j le low
  | inr high ↦ let e : i ≡ j = omega (arith, lt, high) in subst (λ x. IfSome (entry_at P p x) IsEntry) e here
]

pub within_all : (P : Project) (p from i : ℕ) → length_at P p ≤ i → ((j : ℕ) → from ≤ j → j < i → IfSome (entry_at P p j) IsEntry)
    → (j : ℕ) → from ≤ j → IfSome (entry_at P p j) IsEntry
within_all P p from i le before j from_le = elim (cases_lt j i) [
  | inl low ↦ before j from_le low
  | inr high ↦ subst (λ o. IfSome o IsEntry) (sym (none_past P p j (omega (arith, le, high)))) tt
]

pub none_cut : (P : Project) (p n : ℕ) (v : List Edit) → length_at P p ≤ n → v ≡ Cut p n ∷ [] → v ≡ cut_back p n (drop n (script_of P.scripts p))
none_cut P p n v le e = e ∙ ap (cut_back p n) (sym (drop_all n (script_of P.scripts p) le))

pub none_within : (P : Project) (p n : ℕ) → length_at P p ≤ n → (i : ℕ) → n ≤ i → IfSome (entry_at P p i) IsEntry
none_within P p n le i from = subst (λ o. IfSome o IsEntry) (sym (none_past P p i (omega (arith, le, from)))) tt

pub some_cut : (P : Project) (p n : ℕ) (v : List Edit) → n < length_at P p → v ≡ entries_back p n (drop n (script_of P.scripts p)) → v ≡ cut_back p n (drop n (script_of P.scripts p))
some_cut P p n v lt e = let some = drop_more (script_of P.scripts p) n Fence lt in e ∙ ap (entries_back p n) some ∙ ap (cut_back p n) (sym some)
