-- The names of queues.
use Rattle.std.specs.Prelude.{ℕ, if◌then◌else◌, List, Option, None, Some, bytes_eq, codes}
use Rattle.project_book.specs.declared.edit.Depths.{Depths}
use Rattle.project_book.specs.declared.edit.Depths.TheVariants.{LowForward, LowReverse, CombForward, CombReverse, ModuleQueue}

-- the queues that a word names, if it does
abbrev pub queue_named : List ℕ → Option Depths
queue_named word =
    if bytes_eq word (codes "low-forward") then Some LowForward
    else (if bytes_eq word (codes "low-reverse") then Some LowReverse
    else (if bytes_eq word (codes "comb-forward") then Some CombForward
    else (if bytes_eq word (codes "comb-reverse") then Some CombReverse
    else (if bytes_eq word (codes "module") then Some ModuleQueue else None))))
