-- The totals of blocks of cycles and the profiles that are kept beside the cells.
use Rattle.std.specs.Prelude.{◌≡◌, ℕ, ◌+◌, ◌*◌, ◌-◌, min, ◌<◌, ◌≤◌, List, [], length, Option, None, Some, slice_index, slice_index_or}
use Rattle.page_map.specs.Limits.{max_k}
use Rattle.omega_net.specs.declared.component.Net.{Net}
use Rattle.omega_net.specs.declared.component.Net.TheVariants.{Low, Comb}
use Rattle.omega_net.specs.Numbers.{components}
use Rattle.project_book.specs.Limits.{max_horizon}
use Rattle.monitor_sums.specs.declared.counter.Counter.{Counter}
use Rattle.monitor_sums.specs.declared.counted.Tally.{Tally}
use Rattle.monitor_sums.specs.Adding.{sum_below}
use Rattle.monitor_sums.specs.Sums.{sum_over, in_profile}
use Rattle.monitor_sums.specs.Counts.{part, tallied, none, IsSmall}
use Rattle.monitor_sums.specs.Kept.{Row, row_at, kept_at}
use Rattle.monitor_sums.specs.Limits.{profile_lengths, blocks}

-- the sum of f over the cells of the components asked, one or all, from the cycle `from` on and before the cycle `end`
abbrev pub sum_before : ℕ → (ℕ → ℕ → ℕ) → Option ℕ → ℕ → ℕ → ℕ
sum_before k f (Some c) from end = sum_below (λ i. f (i + from) c) (end - from)
sum_before k f None from end = sum_below (λ c. sum_below (λ i. f (i + from) c) (end - from)) (components k)

-- what those cells counted
abbrev pub counted_before : ℕ → Counter → List Row → Option ℕ → ℕ → ℕ → ℕ
counted_before k counter cells who from end = sum_before k (λ t c. part counter (kept_at cells t c)) who from end

-- the cycle before which a block of the cycles to `last` ends
abbrev pub block_end : ℕ → ℕ → ℕ
block_end last b = min (32 * b + 32) (last + 1)

-- what the components asked counted over the cycles of a block
abbrev pub counted_in : ℕ → ℕ → Counter → List Row → Option ℕ → ℕ → ℕ
counted_in k last counter cells who b = counted_before k counter cells who (32 * b) (block_end last b)

-- how often an output queue of a stage was of length n
abbrev pub lengths_of : ℕ → ℕ → List Row → Net → ℕ → ℕ → ℕ
lengths_of k last cells net stage n = sum_over k (λ t c. in_profile k net stage n c (kept_at cells t c).lengths) None 0 last

-- the tally at a place
abbrev pub tally_at : List Tally → ℕ → Tally
tally_at tallies place = slice_index_or tallies place none

-- where the tally of a component's block stands: those of component 0 by block, then those of component 1, and so on
abbrev pub block_place : ℕ → ℕ → ℕ → ℕ
block_place last c b = c * blocks last + b

-- where the profile of a stage stands: those of the low network first
abbrev pub profile_place : ℕ → Net → ℕ → ℕ
profile_place k Low stage = stage
profile_place k Comb stage = k + stage

-- that profile
abbrev pub profile_at : ℕ → List (List ℕ) → Net → ℕ → List ℕ
profile_at k profiles net stage = slice_index_or profiles (profile_place k net stage) []

-- what is kept adds up: the totals of each block and the profiles are those of the cells
pub record AddsUp (k last : ℕ) (cells : List Row) (own all : List Tally) (profiles : List (List ℕ)) : Type 0 where
  pub few : k ≤ max_k
  pub within : last ≤ max_horizon
  pub size : length cells ≡ components k
  pub room : (c : ℕ) → c < components k → last < (row_at cells c).room
  pub each : length own ≡ components k * blocks last
  pub among : length all ≡ blocks last
  pub stages : length profiles ≡ k + k
  pub small : (t c : ℕ) → IsSmall (kept_at cells t c)
  pub parts : (counter : Counter) (c b : ℕ) → c < components k → b < blocks last
      → tallied counter (tally_at own (block_place last c b)) ≡ counted_in k last counter cells (Some c) b
  pub whole : (counter : Counter) (b : ℕ) → b < blocks last → tallied counter (tally_at all b) ≡ counted_in k last counter cells None b
  pub lengths : (net : Net) (stage n : ℕ) → stage < k → n < profile_lengths
      → slice_index (profile_at k profiles net stage) n ≡ lengths_of k last cells net stage n
