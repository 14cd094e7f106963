-- All wires of a machine: each is listed, and two that pass for the same are one.
use Rattle.std.proofs.Common.{◌≡◌, ℕ, zero, suc, ◌<◌, ◌^◌, Bool, true, false, List, [], ◌∷◌, refl, ap, ◌∙◌, arith}
use Rattle.std.specs.Prelude.{◌==◌, ◌&&◌, ◌||◌, map}
use Rattle.std.specs.List.{flat_map, list_any}
use Rattle.std.proofs.lemmas.Bool.{eqb-true, and_parts, false≢true}
use Rattle.std.proofs.lemmas.Bool.Decides.{nat_tests}
use Rattle.std.proofs.lemmas.List.Folds.{list_any-append}
use Rattle.omega_net.specs.declared.component.Net.{Net}
use Rattle.omega_net.specs.declared.component.Net.TheVariants.{Low, Comb}
use Rattle.omega_net.specs.declared.wire.Wire.{Wire}
use Rattle.omega_net.specs.Wires.{IsWire, same_wire, net_number, wires, below}

same_net : (m n : Net) → (net_number m == net_number n) ≡ true → m ≡ n
same_net Low Low e = refl
same_net Low Comb e = cc
same_net Comb Low e = cc
same_net Comb Comb e = refl

abbrev wire_at : Net → ℕ → ℕ → Wire
wire_at n s l = record { net = n; stage = s; line = l }

pub wire_is : (v w : Wire) → v.net ≡ w.net → v.stage ≡ w.stage → v.line ≡ w.line → v ≡ w
wire_is v w a b c =
    ap (λ n. wire_at n v.stage v.line) a ∙ ap (λ n. wire_at w.net n v.line) b ∙ ap (λ n. wire_at w.net w.stage n) c

pub same_wire-true : (v w : Wire) → same_wire v w ≡ true → v ≡ w
same_wire-true v w e =
    let outer = and_parts ((net_number v.net == net_number w.net) && (v.stage == w.stage)) (v.line == w.line) e in
    let inner = and_parts (net_number v.net == net_number w.net) (v.stage == w.stage) outer.0 in
    wire_is v w (same_net v.net w.net inner.0) (eqb-true _ _ inner.1) (eqb-true _ _ outer.1)

pub or_left : (a b : Bool) → a ≡ true → (a || b) ≡ true
or_left true b e = refl
or_left false b e = absurd (false≢true e)

pub or_right : (a b : Bool) → b ≡ true → (a || b) ≡ true
or_right true b e = refl
or_right false b e = e

-- a test that some element passes, through `map`, `flat_map` and the numbers below n
any_map : {X A : Type 0} (p : A → Bool) (q : X → Bool) (f : X → A) → ((x : X) → q x ≡ true → p (f x) ≡ true)
    → (xs : List X) → list_any q xs ≡ true → list_any p (map f xs) ≡ true
any_map p q f h [] e = e
any_map p q f h (x ∷ xs) e = by_test (λ later. any_map p q f h xs later) (q x) refl e
  where
    by_test : (list_any q xs ≡ true → list_any p (map f xs) ≡ true) → (b : Bool) → q x ≡ b → (b || list_any q xs) ≡ true
        → (p (f x) || list_any p (map f xs)) ≡ true
    by_test ih true at_x _ = or_left (p (f x)) _ (h x at_x)
    by_test ih false _ later = or_right (p (f x)) _ (ih later)

any_flat_map : {X A : Type 0} (p : A → Bool) (q : X → Bool) (f : X → List A) → ((x : X) → q x ≡ true → list_any p (f x) ≡ true)
    → (xs : List X) → list_any q xs ≡ true → list_any p (flat_map f xs) ≡ true
any_flat_map p q f h [] e = e
any_flat_map p q f h (x ∷ xs) e = list_any-append p (f x) (flat_map f xs) ∙ by_test (λ later. any_flat_map p q f h xs later) (q x) refl e
  where
    by_test : (list_any q xs ≡ true → list_any p (flat_map f xs) ≡ true) → (b : Bool) → q x ≡ b → (b || list_any q xs) ≡ true
        → (list_any p (f x) || list_any p (flat_map f xs)) ≡ true
    by_test ih true at_x _ = or_left (list_any p (f x)) _ (h x at_x)
    by_test ih false _ later = or_right (list_any p (f x)) _ (ih later)

still_below : (m n : ℕ) → n < suc m → (m == n) ≡ false → n < m
still_below m n h e = grind (arith, nat_tests)

any_below : (m n : ℕ) → n < m → list_any (λ v. v == n) (below m) ≡ true
any_below zero n h = absurd (omega arith)
any_below (suc m) n h = list_any-append (λ v. v == n) (below m) (m ∷ []) ∙ by_test (λ lt. any_below m n lt) (m == n) refl
  where
    by_test : (n < m → list_any (λ v. v == n) (below m) ≡ true) → (b : Bool) → (m == n) ≡ b → (list_any (λ v. v == n) (below m) || (b || false)) ≡ true
    by_test ih true _ = or_right (list_any (λ v. v == n) (below m)) true refl
    by_test ih false e = or_left _ _ (ih (still_below m n h e))

all_true : (a b c : Bool) → a ≡ true → b ≡ true → c ≡ true → (a && b && c) ≡ true
all_true a b c x y z = rw (x, y, z)

-- each wire of the machine is listed
pub wire_listed : (k : ℕ) (w : Wire) → IsWire k w → list_any (λ v. same_wire v w) (wires k) ≡ true
wire_listed k w there =
    any_flat_map (λ v. same_wire v w) (λ net. net_number net == net_number w.net) _
    (λ net at_net. any_flat_map (λ v. same_wire v w) (λ stage. stage == w.stage) _
    (λ stage at_stage. any_map (λ v. same_wire v w) (λ line. line == w.line) (λ line. wire_at net stage line)
    (λ line at_line. all_true _ _ _ at_net at_stage at_line)
    (below (2 ^ k)) (any_below (2 ^ k) w.line there.1))
    (below (suc k)) (any_below (suc k) w.stage (omega (arith, there.0))))
    (Low ∷ Comb ∷ []) (net_listed w.net)
  where
    net_listed : (n : Net) → list_any (λ net. net_number net == net_number n) (Low ∷ Comb ∷ []) ≡ true
    net_listed Low = refl
    net_listed Comb = refl
