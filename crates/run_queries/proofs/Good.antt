-- Queries: what a good one names is there, and those that `==` takes for the same are the same.
use Rattle.std.proofs.Common.{rules, ◌≡◌, ℕ, ◌<◌, ◌≤◌, Bool, true, refl, ap, subst, arith, Option, None, Some}
use Rattle.std.specs.Prelude.{◌==◌, ◌&&◌}
use Rattle.std.specs.Option.{ForSome, option_eq}
use Rattle.std.proofs.lemmas.Bool.{false≢true}
use Rattle.std.proofs.lemmas.Bool.Decides.{Decides-eqb, nat_tests}
use denote.Enum.Bare.{same_true}
use Rattle.page_map.specs.Limits.{address_count}
use Rattle.omega_net.specs.Numbers.{lines, components}
use Rattle.omega_net.specs.contracts.component.Net.{the_type as the_net}
use Rattle.omega_net.specs.declared.component.Net.{Net}
use Rattle.monitor_sums.specs.contracts.counter.Counter.{the_type as the_counter}
use Rattle.monitor_sums.specs.declared.counter.Counter.{Counter as WhichCounter}
use Rattle.project_book.specs.Project.{Project}
use Rattle.run_queries.specs.contracts.query.QueryPartialEq.TheImpl as queries
use Rattle.run_queries.specs.declared.query.Query.{Query}
use Rattle.run_queries.specs.declared.query.Query.TheVariants.{Reply, State, Memory, Counter, Profile, Tree, Level, Bound, Place, Order}
use Rattle.run_queries.specs.declared.query.Reach.{Reach}
use Rattle.run_queries.specs.declared.query.Reach.TheVariants as reached
use Rattle.run_queries.specs.Queries.{is_who, bad_query, reach}

pub record GoodState (P : Project) (c t : ℕ) : Type 0 where
  pub component : c < components P.k
  pub cycle : t ≤ P.horizon

pub record GoodMemory (P : Project) (a t : ℕ) : Type 0 where
  pub cycle : t ≤ P.horizon
  pub address : a < address_count

pub record GoodCounter (P : Project) (who : Option ℕ) (from to : ℕ) : Type 0 where
  pub asked : ForSome who (λ c. c < components P.k)
  pub window : from ≤ to
  pub within : to ≤ P.horizon

pub record GoodLevel (P : Project) (m t : ℕ) : Type 0 where
  pub «module» : m < lines P.k
  pub cycle : t ≤ P.horizon

pub good_state : (P : Project) (c t : ℕ) → bad_query P (State c t) ≡ None → GoodState P c t
good_state P c t h = grind (arith, nat_tests)

pub good_memory : (P : Project) (a t : ℕ) → bad_query P (Memory a t) ≡ None → GoodMemory P a t
good_memory P a t h = grind (arith, nat_tests)

pub good_place : (P : Project) (a : ℕ) → bad_query P (Place a) ≡ None → a < address_count
good_place P a h = grind (arith, nat_tests)

pub good_order : (P : Project) (a : ℕ) → bad_query P (Order a) ≡ None → a < address_count
good_order P a h = grind (arith, nat_tests)

pub good_reply : (P : Project) (p n : ℕ) → bad_query P (Reply p n) ≡ None → p < components P.k
good_reply P p n h = let lt : p < lines P.k = grind (arith, nat_tests) in omega arith

is_there : (k : ℕ) (who : Option ℕ) → is_who k who ≡ true → ForSome who (λ c. c < components k)
is_there k None e = λ d eq. cc
is_there k (Some c) e = λ d eq. let same : c ≡ d = cc in let lt : c < components k = grind (arith, nat_tests) in subst (λ m. m < components k) same lt

pub good_counter : (P : Project) (counter : WhichCounter) (who : Option ℕ) (from to : ℕ) → bad_query P (Counter counter who from to) ≡ None → GoodCounter P who from to
good_counter P counter who from to h = record { asked = is_there P.k who (grind (arith, nat_tests)); window = grind (arith, nat_tests); within = grind (arith, nat_tests) }

pub good_profile : (P : Project) (net : Net) (stage : ℕ) → bad_query P (Profile net stage) ≡ None → stage < P.k
good_profile P net stage h = grind (arith, nat_tests)

pub good_tree : (P : Project) (net : Net) (m : ℕ) → bad_query P (Tree net m) ≡ None → m < lines P.k
good_tree P net m h = grind (arith, nat_tests)

pub good_level : (P : Project) (net : Net) (m t : ℕ) → bad_query P (Level net m t) ≡ None → GoodLevel P m t
good_level P net m t h = grind (arith, nat_tests)

-- cells that are there
abbrev pub IsReached : Project → Reach → Type 0
IsReached P reached.Nothing = Unit {0}
IsReached P (reached.State c t) = GoodState P c t
IsReached P (reached.Word a t) = GoodMemory P a t
IsReached P (reached.To t) = t ≤ P.horizon

pub good_reach : (P : Project) (q : Query) → bad_query P q ≡ None → IsReached P (reach P q)
good_reach P (Reply p n) h = omega arith
good_reach P (State c t) h = good_state P c t h
good_reach P (Memory a t) h = good_memory P a t h
good_reach P (Counter counter who from to) h = (good_counter P counter who from to h).within
good_reach P (Profile net s) h = omega arith
good_reach P (Tree net m) h = omega arith
good_reach P (Level net m t) h = (good_level P net m t h).cycle
good_reach P (Bound a b p) h = tt
good_reach P (Place a) h = tt
good_reach P (Order a) h = omega arith

number : (x y : ℕ) → (x == y) ≡ true → x ≡ y
number x y h = (Decides-eqb x y).0 h

maybe : (x y : Option ℕ) → option_eq (λ a b. a == b) x y ≡ true → x ≡ y
maybe None None h = refl
maybe (Some x) (Some y) h = ap (λ n. Some n) (number x y h)
maybe _ _ h = absurd (false≢true h)

-- both tests passed
pub and_true : (x y : Bool) → (x && y) ≡ true → (x ≡ true) × (y ≡ true)
and_true true y h = (refl, h)
and_true _ y h = absurd (false≢true h)

pub same_query : (a b : Query) → queries.eq-value.it a b ≡ true → a ≡ b
same_query (Reply x y) (Reply x' y') h =
    let e = and_true _ _ h in let p = number x x' e.0 in let q = number y y' e.1 in cc
same_query (State x y) (State x' y') h =
    let e = and_true _ _ h in let p = number x x' e.0 in let q = number y y' e.1 in cc
same_query (Memory x y) (Memory x' y') h =
    let e = and_true _ _ h in let p = number x x' e.0 in let q = number y y' e.1 in cc
same_query (Counter k x y z) (Counter k' x' y' z') h =
    let e = and_true _ _ h in let f = and_true _ _ e.1 in let g = and_true _ _ f.1 in
    let p : k ≡ k' = same_true the_counter (search rules) k k' e.0 in let q = maybe x x' f.0 in let r = number y y' g.0 in let s = number z z' g.1 in cc
same_query (Profile n x) (Profile n' x') h =
    let e = and_true _ _ h in let p : n ≡ n' = same_true the_net (search rules) n n' e.0 in let q = number x x' e.1 in cc
same_query (Tree n x) (Tree n' x') h =
    let e = and_true _ _ h in let p : n ≡ n' = same_true the_net (search rules) n n' e.0 in let q = number x x' e.1 in cc
same_query (Level n x y) (Level n' x' y') h =
    let e = and_true _ _ h in let f = and_true _ _ e.1 in
    let p : n ≡ n' = same_true the_net (search rules) n n' e.0 in let q = number x x' f.0 in let r = number y y' f.1 in cc
same_query (Bound x y z) (Bound x' y' z') h =
    let e = and_true _ _ h in let f = and_true _ _ e.1 in let p = number x x' e.0 in let q = number y y' f.0 in let r = number z z' f.1 in cc
same_query (Place x) (Place x') h = ap (λ a. Place a) (number x x' h)
same_query (Order x) (Order x') h = ap (λ a. Order a) (number x x' h)
same_query _ _ h = absurd (false≢true h)
