-- What is kept, and the map that it stands for.
use Rattle.std.proofs.Common.{◌≡◌, ℕ, ◌+◌, ◌<◌, ◌≤◌, Bool, true, false, cond, List, [], length, map, get_or, Option, None, Some, ap, sym, subst, ◌∙◌, arith}
use Rattle.std.specs.Prelude.{◌==◌, ◌&&◌, slice_index, slice_index_or, option_map}
use Rattle.std.specs.Option.{ForSome}
use Rattle.std.proofs.lemmas.List.{same_lists, length-map, get_or_default}
use Rattle.std.proofs.lemmas.Option.{slice_get-map, slice_get-get_or}
use Rattle.machine_cells.specs.declared.state.MachineState.{MachineState}
use Rattle.machine_cells.proofs.Runs.{length-below, below-get}
use Rattle.omega_net.specs.declared.component.Net.{Net}
use Rattle.omega_net.specs.Numbers.{components}
use Rattle.omega_net.specs.Wires.{below}
use Rattle.monitor_sums.specs.declared.counter.Counter.{Counter}
use Rattle.monitor_sums.specs.declared.counted.Counted.{Counted}
use Rattle.monitor_sums.specs.Counts.{count, output_lengths, counted, part}
use Rattle.monitor_sums.specs.Sums.{States, sum_of, in_profile, pairs_of, profile_of, changed, NonePast}
use Rattle.monitor_sums.specs.Kept.{Kept, Row, StandsFor, kept_at}
use Rattle.monitor_sums.specs.Whole.{counted_before, lengths_of, profile_place, AddsUp}
use Rattle.monitor_sums.specs.declared.counted.Tally.{Tally}
use Rattle.monitor_sums.proofs.Counters.{part_counted}
use Rattle.monitor_sums.proofs.Profiles.{in_profile_nothing}
use Rattle.monitor_sums.proofs.Over.{same_over, over_before, cut_over}
use Rattle.monitor_sums.specs.Limits.{profile_lengths}

-- two maps that are equal at each cell stand alike
pub stands_as : (kept : Kept) (at other : States) → ((t c : ℕ) → t ≤ kept.last → c < components kept.k → at t c ≡ other t c)
    → StandsFor kept at → StandsFor kept other
stands_as kept at other same stands t c b there = stands t c b there ∙ ap counted (same t c b there)

-- what was counted of the cells is what the map's states count
pub stands_sum : (kept : Kept) (at : States) (counter : Counter) (who : Option ℕ) (from to : ℕ) → StandsFor kept at
    → ForSome who (λ c. c < components kept.k) → to ≤ kept.last → counted_before kept.k counter kept.cells who from (to + 1) ≡ sum_of kept.k counter at who from to
stands_sum kept at counter who from to stands asked within =
    sym (over_before kept.k (λ t c. part counter (kept_at kept.cells t c)) who from to)
    ∙ same_over kept.k (λ t c. part counter (kept_at kept.cells t c)) (λ t c. count counter (at t c)) who from to asked
    (λ t c b there. ap (part counter) (stands t c (omega arith) there) ∙ part_counted counter (at t c))

-- where the cells past h hold no state, they can be left out
pub stands_sum_to : (kept : Kept) (at : States) (counter : Counter) (who : Option ℕ) (h : ℕ) → StandsFor kept at
    → ForSome who (λ c. c < components kept.k) → NonePast kept.k at h kept.last → h ≤ kept.last
    → counted_before kept.k counter kept.cells who 0 (kept.last + 1) ≡ sum_of kept.k counter at who 0 h
stands_sum_to kept at counter who h stands asked none within =
    stands_sum kept at counter who 0 kept.last stands asked (omega arith)
    ∙ cut_over kept.k (λ t c. count counter (at t c)) who h kept.last asked within (λ t c a b there. ap (count counter) (none t c a b there))

-- the profile that is kept of a stage
pub profile_seen : (kept : Kept) (k last : ℕ) (cells : List Row) (own all : List Tally) (profiles : List (List ℕ)) (net : Net) (stage place : ℕ) (ns : List ℕ)
    → record { k = k; last = last; cells = cells } ≡ kept → AddsUp k last cells own all profiles → stage < kept.k → place ≡ profile_place k net stage → ns ≡ slice_index_or profiles place []
    → (n : ℕ) → n < profile_lengths → slice_index ns n ≡ lengths_of kept.k kept.last kept.cells net stage n
profile_seen kept k last cells own all profiles net stage place ns view adds in_net place_is read n short =
    let F : Kept → Type 0 = λ v. stage < v.k → slice_index ns n ≡ lengths_of v.k v.last v.cells net stage n in
    subst F view (λ lt. ap (λ ms. slice_index ms n) (read ∙ ap (λ i. slice_index_or profiles i []) place_is) ∙ adds.lengths net stage n lt short) in_net

-- how often a queue was of a length, too
pub stands_pairs : (kept : Kept) (at : States) (net : Net) (stage h n : ℕ) → StandsFor kept at → NonePast kept.k at h kept.last → h ≤ kept.last
    → lengths_of kept.k kept.last kept.cells net stage n ≡ pairs_of kept.k at net stage h n
stands_pairs kept at net stage h n stands none within =
    same_over kept.k (λ t c. in_profile kept.k net stage n c (kept_at kept.cells t c).lengths) (λ t c. in_profile kept.k net stage n c (output_lengths (at t c)))
    None 0 kept.last (λ c e. absurd (some_none e))
    (λ t c b there. ap (λ (x : Counted). in_profile kept.k net stage n c x.lengths) (stands t c b there))
    ∙ cut_over kept.k (λ t c. in_profile kept.k net stage n c (output_lengths (at t c))) None h kept.last (λ c e. absurd (some_none e)) within
    (λ t c a b there. ap (λ s. in_profile kept.k net stage n c (output_lengths s)) (none t c a b there) ∙ in_profile_nothing kept.k net stage n c)
  where
    some_none : {c : ℕ} → None ≡ Some c → ⊥
    some_none e = cc

-- a list of n numbers
pub listed : (ns : List ℕ) (f : ℕ → ℕ) (n : ℕ) → length ns ≡ n → ((i : ℕ) → i < n → slice_index ns i ≡ f i) → ns ≡ map f (below n)
listed ns f n long each =
    same_lists ns (map f (below n)) (long ∙ sym (length-map (below n) f ∙ length-below n)) at_each
  where
    size : length (map f (below n)) ≡ n
    size = length-map (below n) f ∙ length-below n

    some_is : {x y : ℕ} → Some x ≡ Some y → x ≡ y
    some_is e = cc

    found : (i : ℕ) (d : ℕ) → i < n → get_or (map f (below n)) i d ≡ f i
    found i d b = some_is (sym (slice_get-get_or (map f (below n)) i d (omega (arith, size))) ∙ slice_get-map f (below n) i ∙ ap (option_map f) (below-get n i b))

    at_each : (i d : ℕ) → i < length ns → get_or ns i d ≡ get_or (map f (below n)) i d
    at_each i d b = get_or_default ns i d 0 b ∙ each i (omega arith) ∙ sym (found i d (omega arith))

-- a profile from its numbers
pub stands_profile : (kept : Kept) (at : States) (net : Net) (stage h : ℕ) (ns : List ℕ) → StandsFor kept at → NonePast kept.k at h kept.last → h ≤ kept.last
    → length ns ≡ profile_lengths → ((n : ℕ) → n < profile_lengths → slice_index ns n ≡ lengths_of kept.k kept.last kept.cells net stage n) → ns ≡ profile_of kept.k at net stage h
unfolding profile_of
stands_profile kept at net stage h ns stands none within long each =
    listed ns (pairs_of kept.k at net stage h) profile_lengths long (λ n b. each n b ∙ stands_pairs kept at net stage h n stands none within)

-- no cell is past the last
pub none_past : (k last : ℕ) (at : States) → NonePast k at last last
none_past k last at t c a b there = absurd (omega arith)

-- so what is kept stands for the map where that cell holds that state
pub stands_changed : (old new : Kept) (t c : ℕ) (x : Counted) (s : Option MachineState) (at : States) → new.k ≡ old.k → new.last ≡ old.last → x ≡ counted s
    → ((u d : ℕ) → u ≤ old.last → d < components old.k → kept_at new.cells u d ≡ cond ((u == t) && (d == c)) x (kept_at old.cells u d))
    → StandsFor old at → StandsFor new (changed at t c s)
stands_changed old new t c x s at same same_last is each stands u d b there =
    each u d in_time old_there ∙ by_test ((u == t) && (d == c))
  where
    in_time : u ≤ old.last
    in_time = omega (arith, b, same_last)

    old_there : d < components old.k
    old_there = subst (λ k. d < components k) same there

    by_test : (v : Bool) → cond v x (kept_at old.cells u d) ≡ counted (cond v s (at u d))
    by_test true = is
    by_test false = stands u d in_time old_there
