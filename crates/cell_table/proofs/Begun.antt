-- Where along the run a slot is read.
use Rattle.std.proofs.Common.{◌≡◌, ℕ, ◌+◌, ◌-◌, ◌<◌, ◌≤◌, ◌∙◌, sym, ap, refl, arith, Bool, true, false, ltb, leb, ◌&&◌, ◌||◌, ◌⊎◌, inl, inr, Some, is_some, [], ◌∷◌}
use Rattle.std.proofs.lemmas.Bool.{cases_lt, lt-ltb, le-ltb, false≢true}
use Rattle.grid_law.specs.Rules.{Rules, Laws}
use Rattle.grid_law.specs.Run.{run}
use Rattle.due_cells.specs.Seen.{Seen, held_at}
use Rattle.cell_table.specs.Cells.{IsThere}
use Rattle.due_cells.specs.Inputs.{inputs_of}
use Rattle.cell_table.specs.Touches.{cell_reads_one}
use Rattle.cell_table.proofs.Asking.{by_own}

-- a slot that the state of the run one cycle earlier doesn't read is not read
pub not_read : {State Slots Slot : Type 0} (R : Rules State Slots Slot) (laws : Laws R) (v : Seen State Slots) (slot : Slot) → ((t c : ℕ) → IsThere R v t c → (held_at v.rows t c).state ≡ Some (run R v.slots t c)) → (t c : ℕ) → 0 < t → t ≤ v.horizon + 1 → c < R.components v.slots → R.reads v.slots (run R v.slots (t - 1) c ∷ []) c slot ≡ false → cell_reads_one R v.slots v.rows slot t c ≡ false
not_read R laws v slot held t c later le inside e =
    by_own R laws v.slots v.rows c t slot (Some (run R v.slots (t - 1) c)) later (held (t - 1) c (record { cycle = omega (arith, later, le); component = inside }))
    ∙ ap (λ b. is_some (inputs_of R v.slots v.rows t c) && b) e
    ∙ none (is_some (inputs_of R v.slots v.rows t c))
  where
    none : (b : Bool) → (b && false) ≡ false
    none true = refl
    none false = refl

-- cycles at which nothing is read may be among those that were asked
pub none_more : (i m k : Bool) (t begun from : ℕ) (one : Bool) → i ≡ (m || (k && ((leb 1 t && ltb t begun) && one))) → begun ≤ from → (begun ≤ t → t < from → one ≡ false) → i ≡ (i || (k && ((leb 1 t && ltb t from) && one)))
none_more true m k t begun from one e le none = refl
none_more false m k t begun from one e le none = by_place (cases_lt t begun) (cases_lt t from)
  where
    off : (a l : Bool) → (a && ((l && false) && one)) ≡ false
    off false l = refl
    off true false = refl
    off true true = refl

    out : (a l : Bool) → (a && ((l && true) && false)) ≡ false
    out false l = refl
    out true false = refl
    out true true = refl

    rest : (m x : Bool) → false ≡ (m || x) → false ≡ x
    rest true x f = absurd (false≢true f)
    rest false x f = f

    by_place : (t < begun) ⊎ (begun ≤ t) → (t < from) ⊎ (from ≤ t) → false ≡ (k && ((leb 1 t && ltb t from) && one))
    by_place (inl h) i = rest m _ e ∙ ap (λ b. k && ((leb 1 t && b) && one)) (lt-ltb t begun h ∙ sym (lt-ltb t from (omega (arith, h, le))))
    by_place (inr h) (inl i) = sym (ap (λ b. k && ((leb 1 t && b) && one)) (lt-ltb t from i) ∙ ap (λ b. k && ((leb 1 t && true) && b)) (none h i) ∙ out k (leb 1 t))
    by_place (inr h) (inr i) = sym (ap (λ b. k && ((leb 1 t && b) && one)) (le-ltb t from i) ∙ off k (leb 1 t))

-- and they may be left out behind those
pub none_behind : (k : Bool) (t from to : ℕ) (one : Bool) → from ≤ to → (from ≤ t → t < to → one ≡ false) → (k && ((leb 1 t && ltb t from) && one)) ≡ (k && ((leb 1 t && ltb t to) && one))
none_behind k t from to one le none = by_place (cases_lt t from) (cases_lt t to)
  where
    off : (a l x : Bool) → (a && ((l && false) && x)) ≡ false
    off false l x = refl
    off true false x = refl
    off true true x = refl

    out : (a l b : Bool) → (a && ((l && b) && false)) ≡ false
    out false l b = refl
    out true false b = refl
    out true true true = refl
    out true true false = refl

    by_place : (t < from) ⊎ (from ≤ t) → (t < to) ⊎ (to ≤ t) → (k && ((leb 1 t && ltb t from) && one)) ≡ (k && ((leb 1 t && ltb t to) && one))
    by_place (inl h) i = ap (λ b. k && ((leb 1 t && b) && one)) (lt-ltb t from h ∙ sym (lt-ltb t to (omega (arith, h, le))))
    by_place (inr h) (inl i) = ap (λ b. k && ((leb 1 t && ltb t from) && b)) (none h i) ∙ out k (leb 1 t) (ltb t from) ∙ sym (ap (λ b. k && ((leb 1 t && ltb t to) && b)) (none h i) ∙ out k (leb 1 t) (ltb t to))
    by_place (inr h) (inr i) = ap (λ b. k && ((leb 1 t && b) && one)) (le-ltb t from h) ∙ off k (leb 1 t) one ∙ sym (ap (λ b. k && ((leb 1 t && b) && one)) (le-ltb t to i) ∙ off k (leb 1 t) one)
