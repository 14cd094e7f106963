use Rattle.std.proofs.Common.{◌≡◌, replicate}
use Rattle.ref_proc.specs.RefProc.{proc_start}
use Rattle.flat_row.proofs.row.first_procs.Given as goal

abbrev pub invariant-loop-p : goal.invariant-loop-p
invariant-loop-p l = l.procs.items ≡ replicate l._p proc_start
