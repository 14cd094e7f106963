-- What is kept before any cell holds a state.
use Rattle.std.proofs.Common.{◌≡◌, ℕ, ◌+◌, ◌*◌, ◌<◌, ◌≤◌, ◌⊎◌, inl, inr, List, [], get_or, replicate, Option, None, Some, refl, ap, sym, subst, ◌∙◌, arith}
use Rattle.std.specs.Prelude.{slice_index, slice_index_or}
use Rattle.std.proofs.lemmas.Bool.{cases_lt}
use Rattle.std.proofs.lemmas.List.{get_or-replicate, get_or_past, length-replicate}
use Rattle.page_map.specs.Limits.{max_k}
use Rattle.omega_net.specs.declared.component.Net.{Net}
use Rattle.omega_net.specs.Numbers.{components}
use Rattle.project_book.specs.Limits.{max_horizon}
use Rattle.monitor_sums.specs.declared.counter.Counter.{Counter}
use Rattle.monitor_sums.specs.declared.counted.Counted.{Counted}
use Rattle.monitor_sums.specs.declared.counted.Tally.{Tally}
use Rattle.monitor_sums.specs.Sums.{in_profile}
use Rattle.monitor_sums.specs.Counts.{nothing, part, tallied, none, IsSmall}
use Rattle.monitor_sums.specs.Kept.{Kept, Row, StandsFor, blank, row_at, kept_at}
use Rattle.monitor_sums.specs.Whole.{counted_in, block_end, block_place, lengths_of, profile_place, profile_at, AddsUp}
use Rattle.monitor_sums.proofs.Counters.{part_nothing, small_nothing, tallied_none}
use Rattle.monitor_sums.proofs.Profiles.{in_profile_nothing}
use Rattle.monitor_sums.proofs.Over.{none_before}
use Rattle.monitor_sums.specs.Limits.{profile_lengths, blocks}

-- a copy among copies, or the default past them
copy_or : {X : Type 0} (n i : ℕ) (x d : X) → (get_or (replicate n x) i d ≡ x) ⊎ (get_or (replicate n x) i d ≡ d)
copy_or n i x d = by_place (cases_lt i n)
  where
    by_place : (i < n) ⊎ (n ≤ i) → (get_or (replicate n x) i d ≡ x) ⊎ (get_or (replicate n x) i d ≡ d)
    by_place (inl h) = inl (get_or-replicate n i x d h)
    by_place (inr h) = inr (get_or_past (replicate n x) i d (omega (arith, length-replicate n x)))

copy_of : {X : Type 0} (n i : ℕ) (x : X) → get_or (replicate n x) i x ≡ x
copy_of n i x = by_cases (copy_or n i x x)
  where
    by_cases : (get_or (replicate n x) i x ≡ x) ⊎ (get_or (replicate n x) i x ≡ x) → get_or (replicate n x) i x ≡ x
    by_cases (inl e) = e
    by_cases (inr e) = e

module _ (k last n m : ℕ) where
  nothing_kept : (t c : ℕ) → kept_at (replicate n (blank (last + 1))) t c ≡ nothing
  nothing_kept t c = by_cases (copy_or n c (blank (last + 1)) (blank 0))
    where
      by_cases : (row_at (replicate n (blank (last + 1))) c ≡ blank (last + 1)) ⊎ (row_at (replicate n (blank (last + 1))) c ≡ blank 0) → kept_at (replicate n (blank (last + 1))) t c ≡ nothing
      by_cases (inl e) = ap (λ (r : Row). slice_index_or r.counts t nothing) e
      by_cases (inr e) = ap (λ (r : Row). slice_index_or r.counts t nothing) e

  room_kept : (c : ℕ) → c < n → last < (row_at (replicate n (blank (last + 1))) c).room
  room_kept c there =
      let is : (row_at (replicate n (blank (last + 1))) c).room ≡ last + 1 = ap (λ (r : Row). r.room) (get_or-replicate n c (blank (last + 1)) (blank 0) there) in
      omega (arith, is)

  nothing_counted : (counter : Counter) (who : Option ℕ) (b : ℕ) → counted_in k last counter (replicate n (blank (last + 1))) who b ≡ 0
  nothing_counted counter who b =
      none_before k (λ t c. part counter (kept_at (replicate n (blank (last + 1))) t c)) who (32 * b) (block_end last b)
      (λ t c. ap (part counter) (nothing_kept t c) ∙ part_nothing counter)

  nothing_long : (net : Net) (stage n' : ℕ) → lengths_of k last (replicate n (blank (last + 1))) net stage n' ≡ 0
  nothing_long net stage n' =
      none_before k (λ t c. in_profile k net stage n' c (kept_at (replicate n (blank (last + 1))) t c).lengths) None 0 (last + 1)
      (λ t c. ap (λ (x : Counted). in_profile k net stage n' c x.lengths) (nothing_kept t c) ∙ in_profile_nothing k net stage n' c)

  zero_at : (zeros : List ℕ) (net : Net) (stage i : ℕ) → ((j : ℕ) → slice_index zeros j ≡ 0) → slice_index (profile_at k (replicate m zeros) net stage) i ≡ 0
  zero_at zeros net stage i none_in = by_cases (copy_or m (profile_place k net stage) zeros [])
    where
      by_cases : (profile_at k (replicate m zeros) net stage ≡ zeros) ⊎ (profile_at k (replicate m zeros) net stage ≡ [])
          → slice_index (profile_at k (replicate m zeros) net stage) i ≡ 0
      by_cases (inl e) = ap (λ ns. slice_index ns i) e ∙ none_in i
      by_cases (inr e) = ap (λ ns. slice_index ns i) e

zeros_are : (n j : ℕ) → slice_index (replicate n 0) j ≡ 0
zeros_are n j = copy_of n j 0

-- where every cell holds no state, what is kept adds up
pub blank_adds : (k last n count m : ℕ) (zeros : List ℕ) → k ≤ max_k → last ≤ max_horizon → n ≡ components k → count ≡ components k * blocks last → m ≡ k + k → zeros ≡ replicate profile_lengths 0
    → AddsUp k last (replicate n (blank (last + 1))) (replicate count none) (replicate (blocks last) none) (replicate m zeros)
blank_adds k last n count m zeros few within cells_are count_is stages_are zeros_is = record {
  few = few;
  within = within;
  size = length-replicate n (blank (last + 1)) ∙ cells_are;
  room = λ c there. room_kept k last n m c (omega (arith, there, cells_are));
  each = length-replicate count none ∙ count_is;
  among = length-replicate (blocks last) none;
  stages = length-replicate m zeros ∙ stages_are;
  small = λ t c. subst IsSmall (sym (nothing_kept k last n m t c)) small_nothing;
  parts = λ counter c b there low. ap (tallied counter) (copy_of count (block_place last c b) none) ∙ tallied_none counter ∙ sym (nothing_counted k last n m counter (Some c) b);
  whole = λ counter b low. ap (tallied counter) (copy_of (blocks last) b none) ∙ tallied_none counter ∙ sym (nothing_counted k last n m counter None b);
  lengths = λ net stage i in_net short. zero_at k last n m zeros net stage i (λ j. ap (λ ns. slice_index ns j) zeros_is ∙ zeros_are profile_lengths j) ∙ sym (nothing_long k last n m net stage i);
}

-- and stands for the map without states
pub blank_stands : (kept : Kept) (k last n : ℕ) → kept ≡ record { k = k; last = last; cells = replicate n (blank (last + 1)) } → StandsFor kept (λ t c. None)
blank_stands kept k last n is t c b there = ap (λ (v : Kept). kept_at v.cells t c) is ∙ nothing_kept k last n 0 t c

-- what is kept at first, from what was made
pub blank_is : (k last count size stages : ℕ) (cells : List Row) (own all : List Tally) (profiles : List (List ℕ)) (z y : Tally) → k ≤ max_k → last ≤ max_horizon
    → count ≡ components k → size ≡ blocks last → stages ≡ k → cells ≡ replicate count (blank (last + 1)) → own ≡ replicate (count * size) z → z ≡ none → all ≡ replicate size y → y ≡ none
    → profiles ≡ replicate (2 * stages) (replicate profile_lengths 0) → AddsUp k last cells own all profiles
blank_is k last count size stages cells own all profiles z y few within count_is size_is stages_is cells_are own_are z_is all_are y_is profiles_are =
    let own_none : own ≡ replicate (count * size) none = own_are ∙ ap (replicate (count * size)) z_is in
    let all_none : all ≡ replicate (blocks last) none = all_are ∙ ap (replicate size) y_is ∙ ap (λ n. replicate n none) size_is in
    let places : count * size ≡ components k * blocks last = ap (λ n. n * size) count_is ∙ ap (λ n. components k * n) size_is in
    let made : AddsUp k last (replicate count (blank (last + 1))) (replicate (count * size) none) (replicate (blocks last) none) (replicate (2 * stages) (replicate profile_lengths 0)) =
    blank_adds k last count (count * size) (2 * stages) (replicate profile_lengths 0) few within count_is places (omega (arith, stages_is)) refl in
    subst (λ v. AddsUp k last v own all profiles) (sym cells_are)
    (subst (λ v. AddsUp k last (replicate count (blank (last + 1))) v all profiles) (sym own_none)
    (subst (λ v. AddsUp k last (replicate count (blank (last + 1))) (replicate (count * size) none) v profiles) (sym all_none)
    (subst (λ v. AddsUp k last (replicate count (blank (last + 1))) (replicate (count * size) none) (replicate (blocks last) none) v) (sym profiles_are) made)))
