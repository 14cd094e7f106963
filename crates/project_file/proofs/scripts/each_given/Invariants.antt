use Rattle.std.proofs.Common.{◌≡◌, drop}
use Rattle.project_file.specs.Processors.{each_given}
use Rattle.project_file.proofs.scripts.each_given.Given as goal

abbrev pub invariant-procs : goal.invariant-procs
invariant-procs l = each_given l.fn.given l.procs ≡ each_given l.so_far (drop l.proc-index l.procs)
