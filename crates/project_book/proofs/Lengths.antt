-- How long scripts are, where one is replaced by another.
use Rattle.std.proofs.Common.{◌≡◌, ◌≢◌, ◌⊎◌, ℕ, zero, suc, ◌+◌, ◌<◌, ◌≤◌, List, [], ◌∷◌, length, take, drop, slice_set, arith, sym, subst, inl, inr}
use Rattle.std.specs.Prelude.{replicate}
use Rattle.std.proofs.lemmas.Bool.{cases_eq, cases_lt}
use Rattle.std.proofs.lemmas.List.{length-append, length-drop, length-take, get_or-set_other, get_or-set_same}
use Rattle.omega_net.specs.declared.script.ScriptEntry.{ScriptEntry}
use Rattle.project_book.specs.Scripts.{script_of, put_entry, AreFew}

-- no script is longer than allowed where one is replaced by another that isn't
pub few_set : (most p : ℕ) (scripts : List (List ScriptEntry)) (es : List ScriptEntry) → p < length scripts → AreFew most scripts → length es ≤ most → AreFew most (slice_set scripts p es)
few_set most p scripts es there few fits q = by (cases_eq q p)
  where
    IsFew : List ScriptEntry → Type 0
    IsFew row = length row ≤ most

    by : (q ≡ p) ⊎ (q ≢ p) → length (script_of (slice_set scripts p es) q) ≤ most
    by (inl is) = subst (λ r. IsFew (script_of (slice_set scripts p es) r)) (sym is) (subst IsFew (sym (get_or-set_same scripts p es [] there)) fits)
    by (inr ne) = subst IsFew (sym (get_or-set_other scripts p q es [] ne)) (few q)

-- and where none has entries
pub few_none : (most n : ℕ) → AreFew most (replicate n [])
few_none most zero p = omega arith
few_none most (suc n) zero = omega arith
few_none most (suc n) (suc p) = few_none most n p

-- an entry that is put makes a script longer only at its end
pub put_length : (es : List ScriptEntry) (i n : ℕ) (entry : ScriptEntry) → i ≤ length es → length es ≤ n → (i ≡ length es → i < n) → length (put_entry es i entry) ≤ n
put_length es i n entry there few fits = by (cases_lt i (length es))
  where
    size : length (put_entry es i entry) ≡ length (take i es) + length (entry ∷ drop (i + 1) es)
    size = length-append (take i es) (entry ∷ drop (i + 1) es)

    by : (i < length es) ⊎ (length es ≤ i) → length (put_entry es i entry) ≤ n
    by (inl lt) = omega (arith, size, length-take i es, length-drop (i + 1) es, few, lt)
    by (inr le) = omega (arith, size, length-take i es, length-drop (i + 1) es, fits (omega (arith, there, le)), le)
