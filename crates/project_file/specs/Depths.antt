-- The key `depths`: how many places the queues and the wait buffers have.
use Rattle.std.specs.Prelude.{ℕ, List, [], ◌∷◌, Result, Ok, codes}
use Rattle.toml.specs.Data.{Data, Members}
use Rattle.project_book.specs.declared.edit.Depths.{Depths}
use Rattle.project_book.specs.declared.edit.Depths.TheVariants.{LowForward, LowReverse, CombForward, CombReverse, ModuleQueue}
use Rattle.project_book.specs.declared.depths.QueueDepths.{QueueDepths}
use Rattle.project_book.specs.Limits.{min_wait, max_depth}
use Rattle.project_book.specs.Queues.{least_depth, usual_depths, usual_wait}
use Rattle.project_file.specs.declared.fault.ProjectFault.{ProjectFault}
use Rattle.project_file.specs.Fields.{◌>>=◌, table_in, known, optional, number_in}

abbrev pub depth_keys : List (List ℕ)
depth_keys = codes "low_forward" ∷ codes "low_reverse" ∷ codes "comb_forward" ∷ codes "comb_reverse" ∷ codes "module" ∷ codes "wait" ∷ []

-- the depth of queues, or the one that stands for an absent key
abbrev pub depth_at : List ℕ → Depths → ℕ → Members → Result ℕ ProjectFault
depth_at key queue absent ms = optional key (number_in (least_depth queue) max_depth) absent ms

-- the depths of the queues, and that of the wait buffers
abbrev pub depths_of : Members → Result (QueueDepths × ℕ) ProjectFault
depths_of ms = do
  low_forward ← depth_at (codes "low_forward") LowForward usual_depths.low_forward ms
  low_reverse ← depth_at (codes "low_reverse") LowReverse usual_depths.low_reverse ms
  comb_forward ← depth_at (codes "comb_forward") CombForward usual_depths.comb_forward ms
  comb_reverse ← depth_at (codes "comb_reverse") CombReverse usual_depths.comb_reverse ms
  module_queue ← depth_at (codes "module") ModuleQueue usual_depths.module_queue ms
  wait ← optional (codes "wait") (number_in min_wait max_depth) usual_wait ms
  Ok (record { low_forward = low_forward; low_reverse = low_reverse; comb_forward = comb_forward; comb_reverse = comb_reverse; module_queue = module_queue }, wait)

abbrev pub depths_in : Data → Result (QueueDepths × ℕ) ProjectFault
depths_in d = do
  ms ← table_in d
  _ ← known depth_keys ms
  depths_of ms
