-- What the rule says of all seats: what one seat's step leaves to the others, and how many tickets are out.
use Rattle.std.proofs.Common.{◌≡◌, ◌≢◌, ◌⊎◌, ⊎_elim, ℕ, zero, suc, ◌+◌, ◌<◌, ◌≤◌, List, [], ◌∷◌, ◌++◌, set, sum_by, cond, sym, refl, ap, ◌∙◌, subst, arith, eq-eqb, ne_eqb, eqb, Option, append_assoc, append-nil}
use Rattle.std.specs.Prelude.{slice_index}
use Rattle.std.proofs.lemmas.List.Sums.{sum_by-cons}
use mathlib.Core.Option.{some, some-injective, some-ne-none}
use lib.ListN.{get_elem?}
use Rattle.atomic_table.specs.Table.{State, Me, Act, Valid, stepped, carried_after, Allows}
use Rattle.atomic_table.proofs.Lists.{at_set}
use Rattle.bench_core.specs.declared.noted.Noted.{Noted}
use Rattle.bench_core.specs.Shown.{Shown}
use Rattle.shared_bench.specs.Legal.{StartsWith}
use Rattle.shared_bench.specs.declared.view.View.{View}
use Rattle.shared_bench.specs.declared.view.Opening.{Opening}
use Rattle.shared_bench.specs.Rule.{World, Kept, Obeys, IsSound, Fits, AtHome, state_of, count_bits, tickets, many}

-- the table's state, and a seat
abbrev pub St : Type 0
St = State (Option Shown) View

abbrev pub Mine : Type 0
Mine = Me (Option Shown) View

-- the seat's view after a step in the table s, and what it does with the slot
abbrev pub MayStep : Opening → St → ℕ → Mine → ℕ → (ℕ → ℕ) → (ℕ → Mine → Type 0) → Type 0
MayStep k s id me i f told =
    (v : View) × (a : Act (Option Shown)) × Valid s.homes me.1 a × Kept k (stepped s i (f (slice_index s.words i)) id me.1 v a)
    × told (slice_index s.words i) (v, carried_after me.1 a)

pub allows : (k : Opening) (slots id : ℕ) (me : Mine) (i : ℕ) (f : ℕ → ℕ) (told : ℕ → Mine → Type 0)
    → ((w : World) (vs : List View) → Obeys k w vs → get_elem? vs id ≡ some me.0 → MayStep k (state_of k w vs) id me i f told)
    → Allows (Kept k) slots id me i f told
allows k slots id me i f told may s r _ sits _ =
    subst (λ (s : St). get_elem? s.views id ≡ some me.0 → MayStep k s id me i f told) (sym r.2) (may r.0 r.1 r.3) sits

pub seats_stay : (P : ℕ → View → Type 0) (vs : List View) (id : ℕ) (w : View) → P id w → ((j : ℕ) (v : View) → j ≢ id → get_elem? vs j ≡ some v → P j v)
    → (j : ℕ) (v : View) → get_elem? (set vs id w) j ≡ some v → P j v
seats_stay P vs id w mine others j v e =
    ⊎_elim (λ (t : (j ≡ id) × (w ≡ v)). subst (λ (x : ℕ × View). P x.0 x.1) (λ i. (sym t.0 i, t.1 i)) mine)
    (λ (t : (j ≢ id) × (get_elem? vs j ≡ some v)). others j v t.0 t.1)
    (at_set vs id j w v e)

pub only_one : (P : ℕ → View → Type 0) (w : View) → P 0 w → (j : ℕ) (v : View) → get_elem? (w ∷ []) j ≡ some v → P j v
only_one P w mine zero v e = subst (P 0) (some-injective w v e) mine
only_one P w mine (suc j) v e = absurd (some-ne-none v (sym e))

pub sum_set : (f : View → ℕ) (vs : List View) (id : ℕ) (v w : View) → get_elem? vs id ≡ some v → sum_by f (set vs id w) + f v ≡ sum_by f vs + f w
sum_set f [] id v w e = absurd (some-ne-none v (sym e))
sum_set f (x ∷ xs) zero v w e = let g : f x ≡ f v = ap f (some-injective x v e) in omega (arith, sum_by-cons f w xs, sum_by-cons f x xs)
sum_set f (x ∷ xs) (suc id) v w e = let h = sum_set f xs id v w e in omega (arith, sum_by-cons f x (set xs id w), sum_by-cons f x xs)

-- a step of the seat id, which has the view v before it and v' after it
pub one_step : (k : Opening) (w w' : World) (vs : List View) (id : ℕ) (v v' : View) → Obeys k w vs → get_elem? vs id ≡ some v
    → IsSound k w'.since w'.bits → AtHome k w'.since w'.queue ⊎ (w'.served < w'.issued)
    → w'.issued + w.served + tickets v ≡ w.issued + w'.served + tickets v' → many v' + count_bits 64 w.bits ≤ many v + count_bits 64 w'.bits
    → Fits k w' id v' → ((j : ℕ) (u : View) → j ≢ id → Fits k w j u → Fits k w' j u) → Obeys k w' (set vs id v')
one_step k w w' vs id v v' r sits sound home same more mine others =
    let sums = sum_set tickets vs id v v' sits in
    let manys = sum_set many vs id v v' sits in
    record {
      sound = sound;
      in_all = let a = r.in_all in omega arith;
      drawn = let a = r.drawn in omega arith;
      home = home;
      each = seats_stay (λ j u. Fits k w' j u) vs id v' mine (λ j u other there. others j u other (r.each j u there));
    }

sum_le : (f g : View → ℕ) (vs : List View) → ((j : ℕ) (v : View) → get_elem? vs j ≡ some v → f v ≤ g v) → sum_by f vs ≤ sum_by g vs
sum_le f g [] le = omega arith
sum_le f g (x ∷ xs) le = let a = le 0 x refl in let b = sum_le f g xs (λ j v e. le (suc j) v e) in omega (arith, sum_by-cons f x xs, sum_by-cons g x xs)

count_bits_le : (k n : ℕ) → count_bits k n ≤ k
unfolding count_bits
count_bits_le zero n = omega arith
count_bits_le (suc k) n = let h = count_bits_le k n in omega arith

-- no more tickets are out than there are numbers
pub few_out : (k : Opening) (w : World) (vs : List View) → Obeys k w vs → w.issued ≤ w.served + 64
few_out k w vs r =
    let a = sum_le tickets many vs (λ j v e. (r.each j v e).room.0) in
    let b = count_bits_le 64 w.bits in
    let c = r.in_all in
    let d = r.drawn in
    omega arith

-- the function f, but b at a
abbrev pub put : (ℕ → ℕ) → ℕ → ℕ → ℕ → ℕ
put f a b n = cond (eqb n a) b (f n)

pub put_here : (f : ℕ → ℕ) (a b : ℕ) → put f a b a ≡ b
put_here f a b = ap (λ t. cond t b (f a)) (eq-eqb a a refl)

pub put_other : (f : ℕ → ℕ) (a b n : ℕ) → n ≢ a → put f a b n ≡ f n
put_other f a b n ne = ap (λ t. cond t b (f n)) (ne_eqb n a ne)

pub starts_refl : (log : List Noted) → StartsWith log log
starts_refl log = ([], sym (append-nil log))

pub starts_trans : (a b c : List Noted) → StartsWith c b → StartsWith b a → StartsWith c a
starts_trans a b c h g = (g.0 ++ h.0, h.1 ∙ ap (λ (l : List Noted). l ++ h.0) g.1 ∙ append_assoc a g.0 h.0)
