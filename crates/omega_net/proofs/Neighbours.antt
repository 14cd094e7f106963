-- The neighbours of a component.
use Rattle.std.proofs.Common.{ℕ, zero, suc, ◌<◌, List, [], ◌∷◌, arith, Some}
use Rattle.std.specs.Prelude.{All}
use Rattle.omega_net.specs.declared.component.Net.TheVariants.{Low, Comb}
use Rattle.omega_net.specs.declared.component.Component.{Component}
use Rattle.omega_net.specs.declared.component.Component.TheVariants.{Proc, Module, Switch}
use Rattle.omega_net.specs.Numbers.{components, number_of, Exists}
use Rattle.omega_net.specs.Wires.{wire_of_proc, wire_of_module, wire_into, wire_out}
use Rattle.omega_net.specs.Near.{near_of, beside, numbers_of}
use Rattle.omega_net.proofs.Numbering.{number_within}
use Rattle.omega_net.proofs.Ends.{upper_exists, lower_exists, into_line, out_line}

-- each component of a list is there
abbrev pub AllExist : ℕ → List Component → Type 0
AllExist k [] = Unit {0}
AllExist k (c ∷ cs) = Exists k c × AllExist k cs

pub beside_exist : (k : ℕ) (x : Component) → Exists k x → AllExist k (beside k x)
beside_exist zero (Proc p) e = (e, tt)
beside_exist (suc k) (Proc p) e =
    (lower_exists (suc k) (wire_of_proc Low p) (omega arith, e), (lower_exists (suc k) (wire_of_proc Comb p) (omega arith, e), tt))
beside_exist zero (Module m) e = (e, tt)
beside_exist (suc k) (Module m) e =
    (upper_exists (suc k) (wire_of_module (suc k) Low m) (omega arith, e), (upper_exists (suc k) (wire_of_module (suc k) Comb m) (omega arith, e), tt))
beside_exist k (Switch net s j) e = (
  upper_exists k (wire_into k net s j 0) (omega (arith, e.0), into_line k s j 0 e.0 e.1 (omega arith)),
  (
    upper_exists k (wire_into k net s j 1) (omega (arith, e.0), into_line k s j 1 e.0 e.1 (omega arith)),
    (
      lower_exists k (wire_out net s j 0) (omega (arith, e.0), out_line k s j 0 e.0 e.1 (omega arith)),
      (lower_exists k (wire_out net s j 1) (omega (arith, e.0), out_line k s j 1 e.0 e.1 (omega arith)), tt),
    ),
  ),
)

-- so their numbers are below the number of components
all_more : (P : ℕ → Type 0) (x : ℕ) (xs : List ℕ) → P x → All P xs → All P (x ∷ xs)
all_more P x xs h hs zero d lt = h
all_more P x xs h hs (suc i) d lt = hs i d (omega arith)

numbers_within : (k : ℕ) (cs : List Component) → AllExist k cs → All (λ n. n < components k) (numbers_of k cs)
numbers_within k [] e = λ i d lt. absurd (omega arith)
numbers_within k (c ∷ cs) e =
    all_more (λ n. n < components k) (number_of k c) (numbers_of k cs) (number_within k c e.0) (numbers_within k cs e.1)

pub near_within : (k : ℕ) (x : Component) → Exists k x → All (λ n. n < components k) (near_of k (Some x))
near_within k x e = numbers_within k (x ∷ beside k x) (e, beside_exist k x e)
