-- A component is near each component that is near it.
use Rattle.std.proofs.Common.{◌≡◌, ℕ, zero, suc, ◌+◌, ◌*◌, ◌/◌, ◌%◌, ◌<◌, ◌≤◌, Bool, true, false, cond, ◌⊎◌, inl, inr, List, [], ◌∷◌, refl, ap, sym, ◌∙◌, subst, arith, None, Some}
use Rattle.std.specs.Prelude.{Contains, nat_lt, ◌==◌}
use Rattle.std.proofs.lemmas.Bool.{eqb-true, eq-eqb, le-ltb, ltb-true, ltb-false}
use Rattle.std.proofs.lemmas.Bool.Decides.{nat_tests}
use Rattle.std.proofs.Math.Nat.{mod-add-div'}
use Rattle.omega_net.specs.declared.component.Net.{Net}
use Rattle.omega_net.specs.declared.component.Net.TheVariants.{Low, Comb}
use Rattle.omega_net.specs.declared.component.Component.{Component}
use Rattle.omega_net.specs.declared.component.Component.TheVariants.{Proc, Module, Switch}
use Rattle.omega_net.specs.declared.wire.Wire.{Wire}
use Rattle.omega_net.specs.Numbers.{lines, half, components, first_switch, number_of, component_of, Exists}
use Rattle.omega_net.specs.Wires.{IsWire, upper_at, upper_end, lower_end, wire_of_proc, wire_of_module, wire_into, wire_out}
use Rattle.omega_net.specs.Near.{near, near_of, beside, numbers_of, NearIsMutual}
use Rattle.omega_net.proofs.Numbering.{half_some, component_has, Has, number_leads_back}
use Rattle.omega_net.proofs.Ends.{into_ends, out_begins, into_line, out_line, input_port}
use Rattle.omega_net.proofs.Neighbours.{AllExist, beside_exist}

-- x is one of a list
abbrev In : {X : Type 0} → X → List X → Type 0
In x [] = ⊥
In x (y ∷ ys) = (y ≡ x) ⊎ In x ys

from_contains : {X : Type 0} (xs : List X) (x : X) → Contains xs x → In x xs
from_contains [] x h = absurd (omega arith)
from_contains (y ∷ ys) x (zero, within, is) = inl is
from_contains (y ∷ ys) x (suc i, within, is) = inr (from_contains ys x (i, omega arith, is))

to_contains : {X : Type 0} (xs : List X) (x : X) → In x xs → Contains xs x
to_contains [] x h = absurd h
to_contains (y ∷ ys) x (inl is) = (0, omega arith, is)
to_contains (y ∷ ys) x (inr later) = let r = to_contains ys x later in (suc r.0, omega (arith, r.1), r.2)

-- one of the numbers of a list is the number of one of the list
numbered : (k n : ℕ) (cs : List Component) → In n (numbers_of k cs) → (x : Component) × In x cs × (number_of k x ≡ n)
numbered k n [] h = absurd h
numbered k n (c ∷ cs) (inl is) = (c, inl refl, is)
numbered k n (c ∷ cs) (inr later) = let r = numbered k n cs later in (r.0, inr r.1, r.2)

number_in : (k : ℕ) (x : Component) (cs : List Component) → In x cs → In (number_of k x) (numbers_of k cs)
number_in k x [] h = absurd h
number_in k x (c ∷ cs) (inl is) = inl (ap (number_of k) is)
number_in k x (c ∷ cs) (inr later) = inr (number_in k x cs later)

one_exists : (k : ℕ) (x : Component) (cs : List Component) → AllExist k cs → In x cs → Exists k x
one_exists k x [] e h = absurd h
one_exists k x (c ∷ cs) e (inl is) = subst (Exists k) is e.0
one_exists k x (c ∷ cs) e (inr later) = one_exists k x cs e.1 later

-- a wire between two components
pub record Joins (k : ℕ) (upper lower : Component) : Type 0 where
  pub wire : Wire
  pub there : IsWire k wire
  pub up : upper_end wire ≡ upper
  pub low : lower_end k wire ≡ lower

at_last : (k l : ℕ) (net : Net) → lower_end k (wire_of_module k net l) ≡ Module l
at_last k l net = ap (λ t. cond t (Module l) (Switch net k (l % half k))) (eq-eqb k k refl)

entry_joins : (k p : ℕ) (net : Net) → p < lines k → Joins k (Proc p) (lower_end k (wire_of_proc net p))
entry_joins k p net e = record { wire = wire_of_proc net p; there = (omega arith, e); up = refl; low = refl }

exit_joins : (k m : ℕ) (net : Net) → m < lines k → Joins k (upper_end (wire_of_module k net m)) (Module m)
exit_joins k m net e = record { wire = wire_of_module k net m; there = (omega arith, e); up = refl; low = at_last k m net }

into_joins : (k : ℕ) (net : Net) (s j i : ℕ) → s < k → j < half k → i < 2 → Joins k (upper_end (wire_into k net s j i)) (Switch net s j)
into_joins k net s j i a b c =
    record { wire = wire_into k net s j i; there = (omega arith, into_line k s j i a b c); up = refl; low = into_ends k net s j i a b }

out_joins : (k : ℕ) (net : Net) (s j o : ℕ) → s < k → j < half k → o < 2 → Joins k (Switch net s j) (lower_end k (wire_out net s j o))
out_joins k net s j o a b c =
    record { wire = wire_out net s j o; there = (omega arith, out_line k s j o a b c); up = out_begins net s j o c; low = refl }

swap_upper : (k : ℕ) (a b x : Component) → a ≡ b → Joins k x a → Joins k x b
swap_upper k a b x e j = subst (λ c. Joins k x c) e j

swap_lower : (k : ℕ) (a b x : Component) → a ≡ b → Joins k a x → Joins k b x
swap_lower k a b x e j = subst (λ c. Joins k c x) e j

-- a component and one beside it are joined by a wire
beside_joined : (k : ℕ) (c x : Component) → Exists k c → In x (beside k c) → Joins k c x ⊎ Joins k x c
beside_joined zero (Proc p) x e (inl is) = inl (swap_upper _ _ _ _ is (entry_joins zero p Low e))
beside_joined zero (Proc p) x e (inr none) = absurd none
beside_joined (suc k) (Proc p) x e (inl is) = inl (swap_upper _ _ _ _ is (entry_joins (suc k) p Low e))
beside_joined (suc k) (Proc p) x e (inr (inl is)) = inl (swap_upper _ _ _ _ is (entry_joins (suc k) p Comb e))
beside_joined (suc k) (Proc p) x e (inr (inr none)) = absurd none
beside_joined zero (Module m) x e (inl is) = inr (swap_lower _ _ _ _ is (exit_joins zero m Low e))
beside_joined zero (Module m) x e (inr none) = absurd none
beside_joined (suc k) (Module m) x e (inl is) = inr (swap_lower _ _ _ _ is (exit_joins (suc k) m Low e))
beside_joined (suc k) (Module m) x e (inr (inl is)) = inr (swap_lower _ _ _ _ is (exit_joins (suc k) m Comb e))
beside_joined (suc k) (Module m) x e (inr (inr none)) = absurd none
beside_joined k (Switch net s j) x e (inl is) = inr (swap_lower _ _ _ _ is (into_joins k net s j 0 e.0 e.1 (omega arith)))
beside_joined k (Switch net s j) x e (inr (inl is)) = inr (swap_lower _ _ _ _ is (into_joins k net s j 1 e.0 e.1 (omega arith)))
beside_joined k (Switch net s j) x e (inr (inr (inl is))) = inl (swap_upper _ _ _ _ is (out_joins k net s j 0 e.0 e.1 (omega arith)))
beside_joined k (Switch net s j) x e (inr (inr (inr (inl is)))) = inl (swap_upper _ _ _ _ is (out_joins k net s j 1 e.0 e.1 (omega arith)))
beside_joined k (Switch net s j) x e (inr (inr (inr (inr none)))) = absurd none

-- and each end of a wire is beside the other
abbrev wire_at : Net → ℕ → ℕ → Wire
wire_at n s l = record { net = n; stage = s; line = l }

lower_beside : (k : ℕ) (n : Net) (s l : ℕ) → IsWire k (wire_at n s l) → In (lower_end k (wire_at n s l)) (beside k (upper_at n s l))
lower_beside zero n zero l there = inl refl
lower_beside (suc k) Low zero l there = inl refl
lower_beside (suc k) Comb zero l there = inr (inl refl)
lower_beside k n (suc s) l there = by_output (l % 2) (omega arith) (omega arith)
  where
    by_output : (o : ℕ) → o < 2 → l ≡ 2 * (l / 2) + o → In (lower_end k (wire_at n (suc s) l)) (beside k (Switch n s (l / 2)))
    by_output zero small is = inr (inr (inl (ap (λ l. lower_end k (wire_at n (suc s) l)) (sym is))))
    by_output (suc zero) small is = inr (inr (inr (inl (ap (λ l. lower_end k (wire_at n (suc s) l)) (sym is)))))
    by_output (suc (suc o)) small is = absurd (omega arith)

upper_beside : (k : ℕ) (n : Net) (s l : ℕ) → IsWire k (wire_at n s l) → In (upper_at n s l) (beside k (lower_end k (wire_at n s l)))
upper_beside k n s l there = by_test (s == k) refl
  where
    behind_last : (k : ℕ) (n : Net) → In (upper_at n k l) (beside k (Module l))
    behind_last zero n = inl refl
    behind_last (suc k) Low = inl refl
    behind_last (suc k) Comb = inr (inl refl)

    by_input : s < k → (i : ℕ) → i < 2 → l ≡ i * half k + l % half k → In (upper_at n s l) (beside k (Switch n s (l % half k)))
    by_input lt zero small is = inl (ap (upper_at n s) (sym is))
    by_input lt (suc zero) small is = inr (inl (ap (upper_at n s) (sym is)))
    by_input lt (suc (suc i)) small is = absurd (omega arith)

    by_test : (t : Bool) → (s == k) ≡ t → In (upper_at n s l) (beside k (cond t (Module l) (Switch n s (l % half k))))
    by_test true e = let same : s ≡ k = eqb-true s k e in subst (λ s. In (upper_at n s l) (beside k (Module l))) (sym same) (behind_last k n)
    by_test false e =
        let within : s ≤ k = there.0 in
        let lt : s < k = grind (arith, nat_tests) in
        let pos = half_some k s lt in
        by_input lt (l / half k) (input_port k (wire_at n s l) there pos) (sym (mod-add-div' l (half k)) ∙ omega arith)

joined_lower : (k : ℕ) (u l : Component) → Joins k u l → In l (beside k u)
joined_lower k u l j =
    subst (λ c. In c (beside k u)) j.low
    (subst (λ c. In (lower_end k j.wire) (beside k c)) j.up (lower_beside k j.wire.net j.wire.stage j.wire.line j.there))

joined_upper : (k : ℕ) (u l : Component) → Joins k u l → In u (beside k l)
joined_upper k u l j =
    subst (λ c. In c (beside k l)) j.up
    (subst (λ c. In (upper_end j.wire) (beside k c)) j.low (upper_beside k j.wire.net j.wire.stage j.wire.line j.there))

beside_mutual : (k : ℕ) (c x : Component) → Exists k c → In x (beside k c) → In c (beside k x)
beside_mutual k c x e h = either (beside_joined k c x e h)
  where
    either : Joins k c x ⊎ Joins k x c → In c (beside k x)
    either (inl j) = joined_upper k c x j
    either (inr j) = joined_lower k x c j

near_components : (k : ℕ) (c x : Component) → Exists k c → In x (c ∷ beside k c) → In c (x ∷ beside k x)
near_components k c x e (inl is) = inl (sym is)
near_components k c x e (inr h) = inr (beside_mutual k c x e h)

-- no number from theirs on is a component's
none_past : (k c d : ℕ) → components k ≤ c → In d (near k c) → ⊥
none_past k c d past h =
    let none : component_of k c ≡ None =
    last (nat_lt c (lines k)) (nat_lt c (first_switch k Low)) (nat_lt c (first_switch k Comb)) (nat_lt c (components k)) _ _ _ _ _
    (le-ltb _ _ (omega arith)) (le-ltb _ _ (omega arith)) (le-ltb _ _ (omega arith)) (le-ltb _ _ past) in
    subst (λ o. In d (near_of k o)) none h
  where
    last : {X : Type 0} (a b c d : Bool) (p q r t v : X) → a ≡ false → b ≡ false → c ≡ false → d ≡ false
        → cond a p (cond b q (cond c r (cond d t v))) ≡ v
    last a b c d p q r t v ea eb ec ed = rw (ea, eb, ec, ed)

near_of_one : (k c d : ℕ) (x : Component) → Has k c (component_of k c) x → In d (near k c) → In c (near k d)
near_of_one k c d x has h =
    let listed = subst (λ o. In d (near_of k o)) has.is h in
    let y = numbered k d (x ∷ beside k x) listed in
    let back : In x (y.0 ∷ beside k y.0) = near_components k x y.0 has.there y.1 in
    let there : Exists k y.0 = one_exists k y.0 (x ∷ beside k x) (has.there, beside_exist k x has.there) y.1 in
    let found : component_of k d ≡ Some y.0 = ap (component_of k) (sym y.2) ∙ number_leads_back k y.0 there in
    subst (λ o. In c (near_of k o)) (sym found) (subst (λ n. In n (numbers_of k (y.0 ∷ beside k y.0))) has.number (number_in k x (y.0 ∷ beside k y.0) back))

pub near_is_mutual : NearIsMutual
near_is_mutual k c d h = to_contains (near k d) c (by_test (nat_lt c (components k)) refl (from_contains (near k c) d h))
  where
    by_test : (t : Bool) → nat_lt c (components k) ≡ t → In d (near k c) → In c (near k d)
    by_test true e inside = let one = component_has k c (ltb-true _ _ e) in near_of_one k c d one.0 one.1 inside
    by_test false e inside = absurd (none_past k c d (ltb-false _ _ e) inside)
