-- What the levels and the wait buffers of the combining network hold when messages have crossed all stages.
use Rattle.std.specs.Prelude.{◌≡◌, ℕ, suc, ◌-◌, ◌<◌, List, [], length, slice_index_or}
use Rattle.omega_net.specs.declared.message.Request.{Request}
use Rattle.omega_net.specs.declared.message.Reply.{Reply}
use Rattle.omega_net.specs.Wires.{bit}
use Rattle.omega_net.specs.Queues.{without_head, joined}
use Rattle.comb_switch.specs.declared.state.CombState.{CombState}
use Rattle.comb_switch.specs.CombSwitch.{arrives, returns_to}
use Rattle.machine_cells.specs.Cycle.{comb_settings}
use Rattle.project_book.specs.Project.{Project}
use Rattle.flat_row.specs.Masks.{has}
use Rattle.flat_row.specs.Queues.{Queues}
use Rattle.flat_row.specs.Row.{Buffers, queue_of}
use Rattle.flat_row.specs.Rows.{if_leaves}
use Rattle.flat_row.specs.Moving.{SameShape, leaves_forth, left_back}
use Rattle.flat_row.specs.Combining.{meeting, splitting, cleared, both_come}

-- what the switches of a stage hold beside their queues
abbrev pub buffers_in : List Buffers → ℕ → Buffers
buffers_in waits s = slice_index_or waits s (record { entries = []; once = 0; twice = 0 })

-- as many stages, with as many wait buffers each
pub record SameBuffers (old new : List Buffers) : Type 0 where
  pub many : length new ≡ length old
  pub entries : (s : ℕ) → length (buffers_in new s).entries ≡ length (buffers_in old s).entries

-- a switch of a stage where requests have arrived: heads have left first, and nothing had combined
abbrev pub met_at : Project → List ℕ → ℕ → List (Queues Request) → List Buffers → ℕ → ℕ → CombState
met_at P forth enter levels waits s x =
    both_come (arrives (comb_settings P s)) (P.k - 1 - s) (has (slice_index_or forth s 0)) (queue_of levels s) x
    (meeting (P.k - 1 - s) (λ z. without_head (leaves_forth P.k forth enter (suc s) z) (queue_of levels (suc s) z)) (cleared (buffers_in waits s)) x)

-- requests have crossed all stages and entered modules
pub record CombForth (P : Project) (forth : List ℕ) (enter : ℕ) (old new : List (Queues Request)) (waits next : List Buffers) : Type 0 where
  pub shape : SameShape old new
  pub buffers : SameBuffers waits next
  pub first : (z : ℕ) → z < 64 → queue_of new 0 z ≡ without_head (leaves_forth P.k forth enter 0 z) (queue_of old 0 z)
  pub last : (z : ℕ) → z < 64 → queue_of new (suc P.k) z ≡ joined (queue_of old (suc P.k) z) (if_leaves (has enter z) (queue_of old P.k z))
  pub switches : (s x : ℕ) → s < P.k → x < 64 → bit (P.k - 1 - s) x ≡ 0 → meeting (P.k - 1 - s) (queue_of new (suc s)) (buffers_in next s) x ≡ met_at P forth enter old waits s x

-- a switch of a stage where replies have returned: heads have left first
abbrev pub returned_at : Project → List ℕ → List (Queues Reply) → List Buffers → ℕ → ℕ → CombState
returned_at P back levels waits s x =
    both_come (returns_to (comb_settings P s)) (P.k - 1 - s) (has (slice_index_or back s 0)) (queue_of levels (suc s)) x
    (splitting (P.k - 1 - s) (left_back back levels s) (buffers_in waits s) x)

-- replies have crossed all stages; what leaves the first level leaves by itself
pub record CombBack (P : Project) (back : List ℕ) (old new : List (Queues Reply)) (waits next : List Buffers) : Type 0 where
  pub shape : SameShape old new
  pub buffers : SameBuffers waits next
  pub last : (z : ℕ) → z < 64 → queue_of new P.k z ≡ left_back back old P.k z
  pub switches : (s x : ℕ) → s < P.k → x < 64 → bit (P.k - 1 - s) x ≡ 0 → splitting (P.k - 1 - s) (queue_of new s) (buffers_in next s) x ≡ returned_at P back old waits s x

-- the wait buffers of all stages are there
pub record HasBuffers (k most : ℕ) (waits : List Buffers) : Type 0 where
  pub many : length waits ≡ k
  pub each : (s : ℕ) → s < k → length (buffers_in waits s).entries ≡ most
