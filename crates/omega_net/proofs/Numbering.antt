-- Numbers of components: each component of a machine has a number of its own, and each number below theirs is one's.
use Rattle.std.proofs.Common.{◌≡◌, ℕ, zero, suc, ◌+◌, ◌-◌, ◌*◌, ◌/◌, ◌%◌, ◌^◌, ◌<◌, ◌≤◌, Bool, true, false, cond, refl, ap, ◌∙◌, Option, None, Some, arith, pow-suc}
use Rattle.std.specs.Prelude.{nat_lt}
use Rattle.std.proofs.lemmas.Bool.{lt-ltb, le-ltb}
use Rattle.std.proofs.lemmas.Bool.Decides.{nat_tests}
use Rattle.std.proofs.lemmas.Nat.{pow_pos, mul-add-lt, div-mul-add, mod-mul-add}
use Rattle.std.proofs.Math.Nat.{div-zero, mod-lt, mod-add-div', mul-zero, div-lt_iff_lt-mul, mul-le-mul}
use Rattle.omega_net.specs.declared.component.Net.{Net}
use Rattle.omega_net.specs.declared.component.Net.TheVariants.{Low, Comb}
use Rattle.omega_net.specs.declared.component.Component.{Component}
use Rattle.omega_net.specs.declared.component.Component.TheVariants.{Proc, Module, Switch}
use Rattle.omega_net.specs.Numbers.{lines, half, components, first_switch, number_of, Exists, switch_at, component_of}

-- two halves of the lines, where there is a stage
pub half_twice : (k s : ℕ) → s < k → half k + half k ≡ 2 ^ k
half_twice zero s h = absurd (omega arith)
half_twice (suc k) s h = omega (arith, pow-suc 2 k)

pub half_some : (k s : ℕ) → s < k → 0 < half k
half_some k s h = omega (arith, half_twice k s h, pow_pos k)

pub half_power : (k : ℕ) → 0 < k → half k ≡ 2 ^ (k - 1)
half_power zero h = absurd (omega arith)
half_power (suc k) h = let less : suc k - 1 ≡ k = omega arith in rw less (omega (arith, pow-suc 2 k))

-- where there is no stage, none is counted
pub by_no_half : (n : ℕ) → n / half 0 ≡ 0
by_no_half n = div-zero n

-- the switches of a network are at most this many
pub few_switches : (k most lines_most h : ℕ) → k ≤ most → h + h ≤ lines_most → 2 * (k * h) ≤ most * lines_most
few_switches k most lines_most h a b = let both : k * (h + h) ≤ most * lines_most = mul-le-mul a b in omega arith

-- a component that there is has a number below theirs
pub switch_within : (k s j : ℕ) → s < k → j < half k → s * half k + j < k * half k
switch_within k s j a b = omega (arith, mul-add-lt s (half k) j k a b)

pub number_within : (k : ℕ) (x : Component) → Exists k x → number_of k x < components k
number_within k (Proc p) e = omega arith
number_within k (Module m) e = omega arith
number_within k (Switch Low s j) e = omega (arith, switch_within k s j e.0 e.1)
number_within k (Switch Comb s j) e = omega (arith, switch_within k s j e.0 e.1)

-- the component of a number has that number
pub record Has (k n : ℕ) (o : Option Component) (x : Component) : Type 0 where
  pub is : o ≡ Some x
  pub number : number_of k x ≡ n
  pub there : Exists k x

-- the d-th switch of a network
split_by : (k h d : ℕ) → d < k * h → (d / h < k) × (d % h < h) × (d / h * h + d % h ≡ d)
split_by k zero d e = absurd (omega (arith, mul-zero k))
split_by k (suc h) d e = ((div-lt_iff_lt-mul pos).1 e, mod-lt d pos, omega (arith, mod-add-div' d (suc h)))
  where
    pos : 0 < suc h
    pos = omega arith

pub switch_number : (k d : ℕ) → d < k * half k → (d / half k < k) × (d % half k < half k) × (d / half k * half k + d % half k ≡ d)
switch_number k d h = split_by k (half k) d h

back_to : (f p q n : ℕ) → p + q ≡ n - f → f ≤ n → f + p + q ≡ n
back_to f p q n e le = omega arith

pub component_has : (k n : ℕ) → n < components k → (x : Component) × Has k n (component_of k n) x
component_has k n h = by_tests _ _ _ _ refl refl refl refl
  where
    by_tests : (a b c d : Bool) → nat_lt n (lines k) ≡ a → nat_lt n (first_switch k Low) ≡ b → nat_lt n (first_switch k Comb) ≡ c
        → nat_lt n (components k) ≡ d → (x : Component) × Has k n (cond a (Some (Proc n)) (cond b (Some (Module (n - lines k)))
        (cond c (Some (switch_at k Low (n - first_switch k Low))) (cond d (Some (switch_at k Comb (n - first_switch k Comb))) None)))) x
    by_tests true _ _ _ ea eb ec ed = (Proc n, record { is = refl; number = refl; there = grind (arith, nat_tests) })
    by_tests false true _ _ ea eb ec ed = (Module (n - lines k), record { is = refl; number = grind (arith, nat_tests); there = grind (arith, nat_tests) })
    by_tests false false true _ ea eb ec ed =
        let r = switch_number k (n - first_switch k Low) (grind (arith, nat_tests)) in
        (switch_at k Low (n - first_switch k Low), record { is = refl; number = back_to (first_switch k Low) _ _ n r.2 (grind (arith, nat_tests)); there = (r.0, r.1) })
    by_tests false false false true ea eb ec ed =
        let r = switch_number k (n - first_switch k Comb) (grind (arith, nat_tests)) in
        (switch_at k Comb (n - first_switch k Comb), record { is = refl; number = back_to (first_switch k Comb) _ _ n r.2 (grind (arith, nat_tests)); there = (r.0, r.1) })
    by_tests false false false false ea eb ec ed = absurd (grind (arith, nat_tests))

-- and the number of a component that there is leads back to it
back_to_switch : (k : ℕ) (net : Net) (f n s j : ℕ) → n ≡ f + s * half k + j → j < half k → switch_at k net (n - f) ≡ Switch net s j
back_to_switch k net f n s j e b =
    let d : n - f ≡ s * half k + j = omega arith in
    ap (λ d. switch_at k net d) d
    ∙ ap (λ stage. Switch net stage ((s * half k + j) % half k)) (div-mul-add s (half k) j b)
    ∙ ap (λ index. Switch net s index) (mod-mul-add s (half k) j b)

-- which of five a list of tests picks
first : {X : Type 0} (a : Bool) (p q : X) → a ≡ true → cond a p q ≡ p
first a p q ea = rw ea

second : {X : Type 0} (a b : Bool) (p q r : X) → a ≡ false → b ≡ true → cond a p (cond b q r) ≡ q
second a b p q r ea eb = rw (ea, eb)

third : {X : Type 0} (a b c : Bool) (p q r t : X) → a ≡ false → b ≡ false → c ≡ true → cond a p (cond b q (cond c r t)) ≡ r
third a b c p q r t ea eb ec = rw (ea, eb, ec)

fourth : {X : Type 0} (a b c d : Bool) (p q r t v : X) → a ≡ false → b ≡ false → c ≡ false → d ≡ true
    → cond a p (cond b q (cond c r (cond d t v))) ≡ t
fourth a b c d p q r t v ea eb ec ed = rw (ea, eb, ec, ed)

pub number_leads_back : (k : ℕ) (x : Component) → Exists k x → component_of k (number_of k x) ≡ Some x
number_leads_back k (Proc p) e = first (nat_lt p (lines k)) _ _ (lt-ltb p (lines k) e)
number_leads_back k (Module m) e =
    let back : lines k + m - lines k ≡ m = omega arith in
    second (nat_lt (lines k + m) (lines k)) (nat_lt (lines k + m) (first_switch k Low)) _ _ _ (le-ltb _ _ (omega arith)) (lt-ltb _ _ (omega arith))
    ∙ ap (λ m. Some (Module m)) back
number_leads_back k (Switch Low s j) e =
    let n = first_switch k Low + s * half k + j in
    let within = switch_within k s j e.0 e.1 in
    third (nat_lt n (lines k)) (nat_lt n (first_switch k Low)) (nat_lt n (first_switch k Comb)) _ _ _ _
    (le-ltb _ _ (omega arith)) (le-ltb _ _ (omega arith)) (lt-ltb _ _ (omega arith))
    ∙ ap (λ x. Some x) (back_to_switch k Low (first_switch k Low) n s j refl e.1)
number_leads_back k (Switch Comb s j) e =
    let n = first_switch k Comb + s * half k + j in
    let within = switch_within k s j e.0 e.1 in
    fourth (nat_lt n (lines k)) (nat_lt n (first_switch k Low)) (nat_lt n (first_switch k Comb)) (nat_lt n (components k)) _ _ _ _ _
    (le-ltb _ _ (omega arith)) (le-ltb _ _ (omega arith)) (le-ltb _ _ (omega arith)) (lt-ltb _ _ (omega arith))
    ∙ ap (λ x. Some x) (back_to_switch k Comb (first_switch k Comb) n s j refl e.1)
