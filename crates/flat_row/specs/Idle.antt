-- When a row is its own successor: nothing waits, all processors rest, and no mark of the cycle before has still to fall.
use Rattle.std.specs.Prelude.{◌≡◌, ℕ, ◌<◌, [], List, true, slice_index_or}
use Rattle.omega_net.specs.Ports.{empty}
use Rattle.flat_row.specs.Masks.{has}
use Rattle.flat_row.specs.Queues.{Queues}
use Rattle.flat_row.specs.Row.{Arrays, Buffers, queue_of, combined_of}

-- no message waits in any queue of these levels
abbrev pub AllBlank : {T : Type 0} → List (Queues T) → Type 0
AllBlank levels = (l x : ℕ) → queue_of levels l x ≡ empty

-- no switch of these stages combined in the cycle before
abbrev pub NoneCombined : List Buffers → Type 0
NoneCombined buffers = (s x : ℕ) → combined_of (slice_index_or buffers s (record { entries = []; once = 0; twice = 0 })) x ≡ 0

pub record IsIdle (R : Arrays) : Type 0 where
  pub low_requests : AllBlank R.low.requests
  pub low_replies : AllBlank R.low.replies
  pub comb_requests : AllBlank R.comb.requests
  pub comb_replies : AllBlank R.comb.replies
  pub combined : NoneCombined R.buffers
  pub served : R.served ≡ 0
  pub rests : (p : ℕ) → p < 64 → has R.rests p ≡ true
