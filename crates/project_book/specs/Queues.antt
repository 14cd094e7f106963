-- The depths of queues.
use Rattle.std.specs.Prelude.{ℕ, ◌&&◌, nat_le, Bool}
use Rattle.omega_net.specs.declared.component.Net.{Net}
use Rattle.omega_net.specs.declared.component.Net.TheVariants.{Low, Comb}
use Rattle.project_book.specs.declared.edit.Depths.{Depths}
use Rattle.project_book.specs.declared.edit.Depths.TheVariants.{LowForward, LowReverse, CombForward, CombReverse, ModuleQueue}
use Rattle.project_book.specs.declared.depths.QueueDepths.{QueueDepths}
use Rattle.project_book.specs.Limits.{min_depth, min_comb_reverse, min_wait, max_depth}

-- a network's queues towards the modules, and towards the processors
abbrev pub forward_queue : Net → Depths
forward_queue Low = LowForward
forward_queue Comb = CombForward

abbrev pub reverse_queue : Net → Depths
reverse_queue Low = LowReverse
reverse_queue Comb = CombReverse

-- the depth of some queues
abbrev pub depth_in : QueueDepths → Depths → ℕ
depth_in ds LowForward = ds.low_forward
depth_in ds LowReverse = ds.low_reverse
depth_in ds CombForward = ds.comb_forward
depth_in ds CombReverse = ds.comb_reverse
depth_in ds ModuleQueue = ds.module_queue

-- the depths where these queues have this one
abbrev pub with_depth : QueueDepths → Depths → ℕ → QueueDepths
with_depth ds LowForward d = record ds { low_forward = d }
with_depth ds LowReverse d = record ds { low_reverse = d }
with_depth ds CombForward d = record ds { comb_forward = d }
with_depth ds CombReverse d = record ds { comb_reverse = d }
with_depth ds ModuleQueue d = record ds { module_queue = d }

-- the depths of queues and of wait buffers where nothing else is said
abbrev pub usual_depths : QueueDepths
usual_depths = record { low_forward = 4; low_reverse = 4; comb_forward = 4; comb_reverse = 8; module_queue = 4 }

abbrev pub usual_wait : ℕ
usual_wait = 4

-- how many places some queues have at least
abbrev pub least_depth : Depths → ℕ
least_depth LowForward = min_depth
least_depth LowReverse = min_depth
least_depth CombForward = min_depth
least_depth CombReverse = min_comb_reverse
least_depth ModuleQueue = min_depth

-- whether queues may have a depth, and whether wait buffers may
abbrev pub is_depth : Depths → ℕ → Bool
is_depth q d = nat_le (least_depth q) d && nat_le d max_depth

abbrev pub is_wait : ℕ → Bool
is_wait d = nat_le min_wait d && nat_le d max_depth
