-- What is kept adds up again where one cell's counts are replaced.
use Rattle.std.proofs.Common.{◌≡◌, ℕ, suc, ◌+◌, ◌-◌, ◌*◌, ◌/◌, ◌^◌, ◌<◌, ◌≤◌, Bool, true, false, cond, List, length, Option, None, Some, refl, ap, sym, subst, ◌∙◌, arith}
use Rattle.std.specs.Prelude.{◌==◌, ◌&&◌, nat_le, nat_lt, slice_index, slice_index_or, slice_set}
use Rattle.std.proofs.lemmas.Bool.{eqb-true, eq-eqb, false≢true}
use Rattle.std.proofs.lemmas.Bool.Decides.{nat_tests}
use Rattle.std.proofs.Math.Nat.{suc-mul}
use Rattle.std.proofs.lemmas.Nat.{div-mul-add, mul-le}
use Rattle.std.proofs.lemmas.List.{get_or-set_same, get_or-set_other, get_or_default, length-set}
use Rattle.omega_net.specs.declared.component.Net.{Net}
use Rattle.omega_net.specs.Numbers.{components}
use Rattle.monitor_sums.specs.declared.counter.Counter.{Counter}
use Rattle.monitor_sums.specs.declared.counted.Counted.{Counted}
use Rattle.monitor_sums.specs.declared.counted.Tally.{Tally}
use Rattle.monitor_sums.specs.Sums.{in_profile}
use Rattle.monitor_sums.specs.Counts.{nothing, part, tallied, AreShort, IsSmall}
use Rattle.monitor_sums.specs.Kept.{Row, blank, row_at, kept_at}
use Rattle.monitor_sums.specs.Whole.{counted_in, block_end, block_place, lengths_of, tally_at, profile_at, AddsUp}
use Rattle.monitor_sums.proofs.Counters.{part_small}
use Rattle.monitor_sums.proofs.Profiles.{in_profile_small}
use Rattle.monitor_sums.proofs.Over.{same_before, same_cycles, changed_own, changed_all, part_own, part_all, small_before}
use Rattle.monitor_sums.specs.Limits.{profile_lengths, blocks}

-- whether a cycle is one from `from` on and before `to`
abbrev in_run : ℕ → ℕ → ℕ → Bool
in_run from to u = nat_le from u && nat_lt u to

in_run-true : (from to u : ℕ) → from ≤ u → u < to → in_run from to u ≡ true
in_run-true from to u low high = grind (arith, nat_tests)

in_run-low : (from to u : ℕ) → in_run from to u ≡ true → from ≤ u
in_run-low from to u e = grind (arith, nat_tests)

in_run-high : (from to u : ℕ) → in_run from to u ≡ true → u < to
in_run-high from to u e = grind (arith, nat_tests)

-- the counts of a component where some of its cells have others
pub kept_put : (test : ℕ → Bool) (c : ℕ) (cells : List Row) (row : Row) (x : Counted) → c < length cells
    → ((u : ℕ) → slice_index_or row.counts u nothing ≡ cond (test u) x (kept_at cells u c))
    → (u d : ℕ) → kept_at (slice_set cells c row) u d ≡ cond (test u && (d == c)) x (kept_at cells u d)
kept_put test c cells row x there each u d = by_place (d == c) refl
  where
    no_more : (a : Bool) (y : Counted) → y ≡ cond (a && false) x y
    no_more true y = refl
    no_more false y = refl

    the_same : (a : Bool) (y : Counted) → cond a x y ≡ cond (a && true) x y
    the_same true y = refl
    the_same false y = refl

    by_place : (v : Bool) → (d == c) ≡ v → kept_at (slice_set cells c row) u d ≡ cond (test u && v) x (kept_at cells u d)
    by_place true e =
        let same : d ≡ c = eqb-true d c e in
        ap (kept_at (slice_set cells c row) u) same
        ∙ ap (λ (r : Row). slice_index_or r.counts u nothing) (get_or-set_same cells c row (blank 0) there)
        ∙ each u
        ∙ ap (λ n. cond (test u) x (kept_at cells u n)) (sym same)
        ∙ the_same (test u) (kept_at cells u d)
    by_place false e =
        ap (λ (r : Row). slice_index_or r.counts u nothing) (get_or-set_other cells c d row (blank 0) (λ (p : d ≡ c). false≢true (sym e ∙ eq-eqb d c p))) ∙ no_more (test u) (kept_at cells u d)

-- the same, where the component was read
pub kept_read : (from to c : ℕ) (cells : List Row) (before row : Row) (x : Counted) → c < length cells → before ≡ slice_index_or cells c before
    → ((u : ℕ) → slice_index_or row.counts u nothing ≡ cond (nat_le from u && nat_lt u to) x (slice_index_or before.counts u nothing))
    → (u d : ℕ) → kept_at (slice_set cells c row) u d ≡ cond ((nat_le from u && nat_lt u to) && (d == c)) x (kept_at cells u d)
kept_read from to c cells before row x there read each =
    let at_place : before ≡ row_at cells c = read ∙ get_or_default cells c before (blank 0) there in
    kept_put (in_run from to) c cells row x there (λ u. each u ∙ ap (λ (r : Row). cond (in_run from to u) x (slice_index_or r.counts u nothing)) at_place)

-- and the room of each component, where its own has the same
pub room_put : (c : ℕ) (cells : List Row) (row : Row) → c < length cells → row.room ≡ (row_at cells c).room
    → (d : ℕ) → (row_at (slice_set cells c row) d).room ≡ (row_at cells d).room
room_put c cells row there same d = by_place (d == c) refl
  where
    by_place : (v : Bool) → (d == c) ≡ v → (row_at (slice_set cells c row) d).room ≡ (row_at cells d).room
    by_place true e =
        let at : d ≡ c = eqb-true d c e in
        ap (λ n. (row_at (slice_set cells c row) n).room) at
        ∙ ap (λ (r : Row). r.room) (get_or-set_same cells c row (blank 0) there)
        ∙ same
        ∙ ap (λ n. (row_at cells n).room) (sym at)
    by_place false e = ap (λ (r : Row). r.room) (get_or-set_other cells c d row (blank 0) (λ (p : d ≡ c). false≢true (sym e ∙ eq-eqb d c p)))

-- a place among n for each of m components
pub place_there : (n m c b : ℕ) → c < m → b < n → c * n + b < m * n
place_there n m c b there low = let next : suc c * n ≤ m * n = mul-le (suc c) n m n there (omega arith) in omega (arith, next, suc-mul c n)

-- is the place of one component
place_of_one : (n c d a b : ℕ) → a < n → b < n → d * n + a ≡ c * n + b → c ≡ d
place_of_one n c d a b low in_blocks e = sym (div-mul-add c n b in_blocks) ∙ ap (λ x. x / n) (sym e) ∙ div-mul-add d n a low

-- cells that keep what they count
pub run_kept : (cells : List Row) (c from to : ℕ) (x : Counted) → ((u : ℕ) → from ≤ u → u < to → kept_at cells u c ≡ x)
    → (u d : ℕ) → kept_at cells u d ≡ cond ((nat_le from u && nat_lt u to) && (d == c)) x (kept_at cells u d)
run_kept cells c from to x is u d = by_tests (in_run from to u) (d == c) refl refl
  where
    by_tests : (v w : Bool) → in_run from to u ≡ v → (d == c) ≡ w → kept_at cells u d ≡ cond (v && w) x (kept_at cells u d)
    by_tests true true e f = ap (kept_at cells u) (eqb-true d c f) ∙ is u (in_run-low from to u e) (in_run-high from to u e)
    by_tests true false e f = refl
    by_tests false w e f = refl

-- the block of cycles has them
block_began : (from b : ℕ) → b ≡ from / 32 → 32 * b ≤ from
block_began from b e = omega (arith, e)

block_goes_on : (last from to b : ℕ) → to ≤ block_end last (from / 32) → b ≡ from / 32 → to ≤ block_end last b
block_goes_on last from to b h e = omega (arith, h, e)

pub block_there : (last t b : ℕ) → t ≤ last → b ≡ t / 32 → b < blocks last
block_there last t b h e = omega (arith, h, e)

pub block_few : (last from to : ℕ) → to ≤ block_end last (from / 32) → to - from ≤ 32
block_few last from to h = omega (arith, h)

-- no other block has one of them
block_other : (last from to u b d : ℕ) → to ≤ block_end last (from / 32) → b ≡ from / 32 → from ≤ u → u < to → 32 * d ≤ u → u < block_end last d → d ≡ b
block_other last from to u b d h e low high began before = omega (arith, h, e, low, high, began, before)

-- what a cell counted is within the totals of its block, and they are small
module _ (k last : ℕ) (cells : List Row) (own all : List Tally) (profiles : List (List ℕ)) (kept : AddsUp k last cells own all profiles) where
  part_here : (counter : Counter) (t c : ℕ) → part counter (kept_at cells t c) < 256
  part_here counter t c = part_small counter (kept_at cells t c) (kept.small t c)

  pub place_in_own : (c b place : ℕ) → c < components k → b < blocks last → place ≡ block_place last c b → place < length own
  place_in_own c b place there low is = omega (arith, is, kept.each, place_there (blocks last) (components k) c b there low)

  pub small_in : (counter : Counter) (who : Option ℕ) (b : ℕ) → counted_in k last counter cells who b < 2 ^ 32
  small_in counter who b = small_before k (λ t c. part counter (kept_at cells t c)) who (32 * b) (block_end last b) kept.few (omega (arith, kept.within)) (part_here counter)

  pub held_own : (from to c b place : ℕ) (old : Counted) → b ≡ from / 32 → from ≤ to → to ≤ block_end last (from / 32) → place ≡ block_place last c b
      → ((u : ℕ) → from ≤ u → u < to → kept_at cells u c ≡ old) → from ≤ last → c < components k
      → (counter : Counter) → part counter old * (to - from) ≤ tallied counter (tally_at own place)
  held_own from to c b place old b_is some high place_is old_is in_time there counter =
      let at : tallied counter (tally_at own place) ≡ tallied counter (tally_at own (block_place last c b)) = ap (λ n. tallied counter (tally_at own n)) place_is in
      let is : tallied counter (tally_at own (block_place last c b)) ≡ counted_in k last counter cells (Some c) b = kept.parts counter c b there (block_there last from b in_time b_is) in
      let le : part counter old * (to - from) ≤ counted_in k last counter cells (Some c) b =
      part_own k (λ t c. part counter (kept_at cells t c)) c (32 * b) from to (block_end last b) (part counter old) (block_began from b b_is) some (block_goes_on last from to b high b_is)
      (λ u p q. ap (part counter) (old_is u p q)) in
      omega (arith, at, is, le)

  pub held_all : (from to c b : ℕ) (old : Counted) → b ≡ from / 32 → from ≤ to → to ≤ block_end last (from / 32)
      → ((u : ℕ) → from ≤ u → u < to → kept_at cells u c ≡ old) → from ≤ last → c < components k
      → (counter : Counter) → part counter old * (to - from) ≤ tallied counter (tally_at all b)
  held_all from to c b old b_is some high old_is in_time there counter =
      let is : tallied counter (tally_at all b) ≡ counted_in k last counter cells None b = kept.whole counter b (block_there last from b in_time b_is) in
      let le : part counter old * (to - from) ≤ counted_in k last counter cells None b =
      part_all k (λ t c. part counter (kept_at cells t c)) c (32 * b) from to (block_end last b) (part counter old) (block_began from b b_is) some (block_goes_on last from to b high b_is) there
      (λ u p q. ap (part counter) (old_is u p q)) in
      omega (arith, is, le)

  pub room_own : (c b place : ℕ) → b < blocks last → place ≡ block_place last c b → c < components k → (counter : Counter) → tallied counter (tally_at own place) < 2 ^ 32
  room_own c b place h place_is there counter =
      let at : tallied counter (tally_at own place) ≡ tallied counter (tally_at own (block_place last c b)) = ap (λ n. tallied counter (tally_at own n)) place_is in
      let is : tallied counter (tally_at own (block_place last c b)) ≡ counted_in k last counter cells (Some c) b = kept.parts counter c b there h in
      omega (arith, at, is, small_in counter (Some c) b)

  pub room_all : (b : ℕ) → b < blocks last → (counter : Counter) → tallied counter (tally_at all b) < 2 ^ 32
  room_all b h counter =
      let is : tallied counter (tally_at all b) ≡ counted_in k last counter cells None b = kept.whole counter b h in
      omega (arith, is, small_in counter None b)

  pub held_profile : (from to c : ℕ) (old : Counted) → from ≤ to → to ≤ block_end last (from / 32) → ((u : ℕ) → from ≤ u → u < to → kept_at cells u c ≡ old) → c < components k
      → (net : Net) (stage n : ℕ) → stage < k → n < profile_lengths
      → in_profile k net stage n c old.lengths * (to - from) ≤ slice_index (profile_at k profiles net stage) n
  held_profile from to c old some high old_is there net stage n in_net short =
      let is : slice_index (profile_at k profiles net stage) n ≡ lengths_of k last cells net stage n = kept.lengths net stage n in_net short in
      let le : in_profile k net stage n c old.lengths * (to - from) ≤ lengths_of k last cells net stage n =
      part_all k (λ t c. in_profile k net stage n c (kept_at cells t c).lengths) c 0 from to (last + 1) (in_profile k net stage n c old.lengths) (omega arith) some (omega (arith, high)) there
      (λ u p q. ap (λ (y : Counted). in_profile k net stage n c y.lengths) (old_is u p q)) in
      omega (arith, is, le)

  pub short_old : (t c : ℕ) (old : Counted) → old ≡ kept_at cells t c → AreShort old.lengths
  short_old t c old old_is = subst (λ (y : Counted). AreShort y.lengths) (sym old_is) (kept.small t c).lengths

  pub room_profile : (net : Net) (stage n : ℕ) → stage < k → n < profile_lengths → slice_index (profile_at k profiles net stage) n < 2 ^ 32
  room_profile net stage n in_net short =
      let is : slice_index (profile_at k profiles net stage) n ≡ lengths_of k last cells net stage n = kept.lengths net stage n in_net short in
      let lt : lengths_of k last cells net stage n < 2 ^ 32 =
      small_before k (λ t c. in_profile k net stage n c (kept_at cells t c).lengths) None 0 (last + 1) kept.few (omega (arith, kept.within))
      (λ t c. in_profile_small k net stage n c (kept_at cells t c).lengths) in
      omega (arith, is, lt)

  module _ (from to c b : ℕ) (x old : Counted) (in_time : from ≤ last) (some : from ≤ to) (high : to ≤ block_end last (from / 32)) (there : c < components k) (b_is : b ≡ from / 32)
      (old_is : (u : ℕ) → from ≤ u → u < to → kept_at cells u c ≡ old)
      (after : List Row) (each : (u d : ℕ) → kept_at after u d ≡ cond ((nat_le from u && nat_lt u to) && (d == c)) x (kept_at cells u d)) where
    here : (u : ℕ) → from ≤ u → u < to → kept_at after u c ≡ x
    here u p q = each u c ∙ ap (λ v. cond (v && (c == c)) x (kept_at cells u c)) (in_run-true from to u p q) ∙ ap (λ v. cond v x (kept_at cells u c)) (eq-eqb c c refl)

    elsewhere : (u d : ℕ) → (from ≤ u → u < to → d ≡ c → ⊥) → kept_at after u d ≡ kept_at cells u d
    elsewhere u d apart = each u d ∙ by_tests (in_run from to u) (d == c) refl refl
      where
        by_tests : (v w : Bool) → in_run from to u ≡ v → (d == c) ≡ w → cond (v && w) x (kept_at cells u d) ≡ kept_at cells u d
        by_tests true true e f = absurd (apart (in_run-low from to u e) (in_run-high from to u e) (eqb-true d c f))
        by_tests true false e f = refl
        by_tests false w e f = refl

    part_elsewhere : (counter : Counter) (u d : ℕ) → (from ≤ u → u < to → d ≡ c → ⊥) → part counter (kept_at after u d) ≡ part counter (kept_at cells u d)
    part_elsewhere counter u d apart = ap (part counter) (elsewhere u d apart)

    -- in the cells' block their component's sum, and that of all, change as the cells do
    own_here : (counter : Counter) → counted_in k last counter after (Some c) b + part counter old * (to - from) ≡ counted_in k last counter cells (Some c) b + part counter x * (to - from)
    own_here counter =
        changed_own k (λ u d. part counter (kept_at after u d)) (λ u d. part counter (kept_at cells u d)) c (32 * b) from to (block_end last b) (part counter x) (part counter old)
        (block_began from b b_is) some (block_goes_on last from to b high b_is) there
        (λ u p q. ap (part counter) (here u p q)) (λ u p q. ap (part counter) (old_is u p q))
        (λ u d p q apart. part_elsewhere counter u d apart)

    all_here : (counter : Counter) → counted_in k last counter after None b + part counter old * (to - from) ≡ counted_in k last counter cells None b + part counter x * (to - from)
    all_here counter =
        changed_all k (λ u d. part counter (kept_at after u d)) (λ u d. part counter (kept_at cells u d)) c (32 * b) from to (block_end last b) (part counter x) (part counter old)
        (block_began from b b_is) some (block_goes_on last from to b high b_is) there
        (λ u p q. ap (part counter) (here u p q)) (λ u p q. ap (part counter) (old_is u p q))
        (λ u d p q apart. part_elsewhere counter u d apart)

    -- elsewhere the sums stay
    own_there : (counter : Counter) (d a : ℕ) → d < components k → (d ≡ c → a ≡ b → ⊥) → counted_in k last counter after (Some d) a ≡ counted_in k last counter cells (Some d) a
    own_there counter d a lt apart =
        same_cycles (λ u e. part counter (kept_at after u e)) (λ u e. part counter (kept_at cells u e)) (32 * a) (block_end last a) d
        (λ u l h. part_elsewhere counter u d (λ p q same_component. apart same_component (block_other last from to u b a high b_is p q l h)))

    all_there : (counter : Counter) (a : ℕ) → (a ≡ b → ⊥) → counted_in k last counter after None a ≡ counted_in k last counter cells None a
    all_there counter a apart =
        same_before k (λ u e. part counter (kept_at after u e)) (λ u e. part counter (kept_at cells u e)) None (32 * a) (block_end last a) (λ e is. absurd (none_some is))
        (λ u e l h e_there. part_elsewhere counter u e (λ p q _. apart (block_other last from to u b a high b_is p q l h)))
      where
        none_some : {m : ℕ} → None ≡ Some m → ⊥
        none_some e = cc

    in_stage : (net : Net) (stage n : ℕ) → lengths_of k last after net stage n + in_profile k net stage n c old.lengths * (to - from)
        ≡ lengths_of k last cells net stage n + in_profile k net stage n c x.lengths * (to - from)
    in_stage net stage n =
        changed_all k (λ u d. in_profile k net stage n d (kept_at after u d).lengths) (λ u d. in_profile k net stage n d (kept_at cells u d).lengths)
        c 0 from to (last + 1) (in_profile k net stage n c x.lengths) (in_profile k net stage n c old.lengths) (omega arith) some (omega (arith, high)) there
        (λ u p q. ap (λ (y : Counted). in_profile k net stage n c y.lengths) (here u p q)) (λ u p q. ap (λ (y : Counted). in_profile k net stage n c y.lengths) (old_is u p q))
        (λ u d p q apart. ap (λ (y : Counted). in_profile k net stage n d y.lengths) (elsewhere u d apart))

    small_after : IsSmall x → (u d : ℕ) → IsSmall (kept_at after u d)
    small_after small u d = subst IsSmall (sym (each u d)) (by_test (in_run from to u && (d == c)))
      where
        by_test : (v : Bool) → IsSmall (cond v x (kept_at cells u d))
        by_test true = small
        by_test false = kept.small u d

    pub put_adds : (place : ℕ) (own' all' : List Tally) (profiles' : List (List ℕ)) → length after ≡ length cells → ((d : ℕ) → (row_at after d).room ≡ (row_at cells d).room) → place ≡ block_place last c b → IsSmall x
        → length own' ≡ length own
        → ((counter : Counter) → tallied counter (tally_at own' place) + part counter old * (to - from) ≡ tallied counter (tally_at own place) + part counter x * (to - from))
        → ((i : ℕ) → (i ≡ place → ⊥) → tally_at own' i ≡ tally_at own i)
        → length all' ≡ length all
        → ((counter : Counter) → tallied counter (tally_at all' b) + part counter old * (to - from) ≡ tallied counter (tally_at all b) + part counter x * (to - from))
        → ((i : ℕ) → (i ≡ b → ⊥) → tally_at all' i ≡ tally_at all i)
        → length profiles' ≡ length profiles
        → ((net : Net) (stage n : ℕ) → stage < k → n < profile_lengths
        → slice_index (profile_at k profiles' net stage) n + in_profile k net stage n c old.lengths * (to - from)
        ≡ slice_index (profile_at k profiles net stage) n + in_profile k net stage n c x.lengths * (to - from))
        → AddsUp k last after own' all' profiles'
    put_adds place own' all' profiles' as_long as_roomy place_is small own_size own_moved own_others all_size all_moved all_others as_many lengths_moved = record {
      few = kept.few;
      within = kept.within;
      size = as_long ∙ kept.size;
      room = λ d in_machine. omega (arith, as_roomy d, kept.room d in_machine);
      each = own_size ∙ kept.each;
      among = all_size ∙ kept.among;
      stages = as_many ∙ kept.stages;
      small = small_after small;
      parts = own_after;
      whole = all_after;
      lengths = lengths_after;
    }
      where
        in_blocks : b < blocks last
        in_blocks = block_there last from b in_time b_is

        own_after : (counter : Counter) (d a : ℕ) → d < components k → a < blocks last → tallied counter (tally_at own' (block_place last d a)) ≡ counted_in k last counter after (Some d) a
        own_after counter d a lt low = by_test (block_place last d a == place) refl
          where
            by_test : (v : Bool) → (block_place last d a == place) ≡ v → tallied counter (tally_at own' (block_place last d a)) ≡ counted_in k last counter after (Some d) a
            by_test true e =
                let at_place : block_place last d a ≡ place = eqb-true (block_place last d a) place e in
                let same_component : c ≡ d = place_of_one (blocks last) c d a b low in_blocks (at_place ∙ place_is) in
                let before : c * blocks last ≡ d * blocks last = ap (λ n. n * blocks last) same_component in
                let same_block : b ≡ a = omega (arith, at_place, place_is, before) in
                let was : tallied counter (tally_at own (block_place last c b)) ≡ counted_in k last counter cells (Some c) b = kept.parts counter c b there in_blocks in
                let was_at : tallied counter (tally_at own place) ≡ tallied counter (tally_at own (block_place last c b)) = ap (λ n. tallied counter (tally_at own n)) place_is in
                let result : tallied counter (tally_at own' place) ≡ counted_in k last counter after (Some c) b = omega (arith, was, was_at, own_moved counter, own_here counter) in
                ap (λ n. tallied counter (tally_at own' n)) at_place ∙ result ∙ ap (λ n. counted_in k last counter after (Some n) b) same_component ∙ ap (λ n. counted_in k last counter after (Some d) n) same_block
            by_test false e =
                let apart : block_place last d a ≡ place → ⊥ = λ p. false≢true (sym e ∙ eq-eqb (block_place last d a) place p) in
                ap (tallied counter) (own_others (block_place last d a) apart) ∙ kept.parts counter d a lt low
                ∙ sym (own_there counter d a lt (λ (p : d ≡ c) (q : a ≡ b). apart (ap (λ n. block_place last n a) p ∙ ap (block_place last c) q ∙ sym place_is)))

        all_after : (counter : Counter) (a : ℕ) → a < blocks last → tallied counter (tally_at all' a) ≡ counted_in k last counter after None a
        all_after counter a low = by_test (a == b) refl
          where
            by_test : (v : Bool) → (a == b) ≡ v → tallied counter (tally_at all' a) ≡ counted_in k last counter after None a
            by_test true e =
                let same_block : b ≡ a = sym (eqb-true a b e) in
                let was : tallied counter (tally_at all b) ≡ counted_in k last counter cells None b = kept.whole counter b in_blocks in
                let result : tallied counter (tally_at all' b) ≡ counted_in k last counter after None b = omega (arith, was, all_moved counter, all_here counter) in
                subst (λ n. tallied counter (tally_at all' n) ≡ counted_in k last counter after None n) same_block result
            by_test false e =
                let apart : a ≡ b → ⊥ = λ p. false≢true (sym e ∙ eq-eqb a b p) in
                ap (tallied counter) (all_others a apart) ∙ kept.whole counter a low ∙ sym (all_there counter a apart)

        lengths_after : (net : Net) (stage n : ℕ) → stage < k → n < profile_lengths → slice_index (profile_at k profiles' net stage) n ≡ lengths_of k last after net stage n
        lengths_after net stage n in_net short =
            let was : slice_index (profile_at k profiles net stage) n ≡ lengths_of k last cells net stage n = kept.lengths net stage n in_net short in
            let is : slice_index (profile_at k profiles' net stage) n + in_profile k net stage n c old.lengths * (to - from)
            ≡ slice_index (profile_at k profiles net stage) n + in_profile k net stage n c x.lengths * (to - from) = lengths_moved net stage n in_net short in
            let sum_is : lengths_of k last after net stage n + in_profile k net stage n c old.lengths * (to - from)
            ≡ lengths_of k last cells net stage n + in_profile k net stage n c x.lengths * (to - from) = in_stage net stage n in
            omega (arith, was, is, sum_is)

-- the same, where the old counts were read
module _ (k last : ℕ) (cells : List Row) (own all : List Tally) (profiles : List (List ℕ)) (kept : AddsUp k last cells own all profiles) where
  pub put_read : (from to c b place : ℕ) (x old : Counted) (before row : Row) (own' all' : List Tally) (profiles' : List (List ℕ)) → from ≤ last → from ≤ to → to ≤ block_end last (from / 32)
      → c < components k → b ≡ from / 32 → place ≡ block_place last c b → ((u : ℕ) → from ≤ u → u < to → kept_at cells u c ≡ old) → IsSmall x
      → before ≡ slice_index_or cells c before → row.room ≡ before.room
      → ((u : ℕ) → slice_index_or row.counts u nothing ≡ cond (nat_le from u && nat_lt u to) x (slice_index_or before.counts u nothing))
      → length own' ≡ length own
      → ((counter : Counter) → tallied counter (tally_at own' place) + part counter old * (to - from) ≡ tallied counter (tally_at own place) + part counter x * (to - from))
      → ((i : ℕ) → (i ≡ place → ⊥) → tally_at own' i ≡ tally_at own i)
      → length all' ≡ length all
      → ((counter : Counter) → tallied counter (tally_at all' b) + part counter old * (to - from) ≡ tallied counter (tally_at all b) + part counter x * (to - from))
      → ((i : ℕ) → (i ≡ b → ⊥) → tally_at all' i ≡ tally_at all i)
      → length profiles' ≡ length profiles
      → ((net : Net) (stage n : ℕ) → stage < k → n < profile_lengths
      → slice_index (profile_at k profiles' net stage) n + in_profile k net stage n c old.lengths * (to - from)
      ≡ slice_index (profile_at k profiles net stage) n + in_profile k net stage n c x.lengths * (to - from))
      → AddsUp k last (slice_set cells c row) own' all' profiles'
  put_read from to c b place x old before row own' all' profiles' in_time some high there b_is place_is old_is small read roomy each own_size own_moved own_others all_size all_moved all_others as_many lengths_moved =
      let in_cells : c < length cells = omega (arith, there, kept.size) in
      let at_place : before ≡ row_at cells c = read ∙ get_or_default cells c before (blank 0) in_cells in
      put_adds k last cells own all profiles kept from to c b x old in_time some high there b_is old_is (slice_set cells c row)
      (kept_read from to c cells before row x in_cells read each)
      place own' all' profiles' (length-set cells c row) (room_put c cells row in_cells (roomy ∙ ap (λ (r : Row). r.room) at_place)) place_is small own_size own_moved own_others all_size all_moved all_others as_many lengths_moved
