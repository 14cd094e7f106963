use Rattle.std.proofs.Common.{◌≡◌, ◌≤◌, ◌*◌, ℕ, min, sum_by, slice_index, vec_len}
use Rattle.omega_net.specs.Wires.{below}
use Rattle.lab_tasks.specs.Counts.{is_of, part_count, script_times, times_of}
use Rattle.lab_tasks.proofs.hot.counts_of.Given as goal

abbrev pub invariant-loop-proc : goal.invariant-loop-proc
invariant-loop-proc l = record {
  processors : vec_len l.counts.processors ≡ part_count l.project l.parts;
  references : vec_len l.counts.references ≡ part_count l.project l.parts;
  each : (n : ℕ) → slice_index l.counts.processors.items n ≡ sum_by (λ p. min (times_of l.project (is_of l.project l.parts n) p) 1) (below l.proc);
  times : (n : ℕ) → slice_index l.counts.references.items n ≡ sum_by (times_of l.project (is_of l.project l.parts n)) (below l.proc);
  fewer : (n : ℕ) → slice_index l.counts.processors.items n ≤ l.proc;
  few : (n : ℕ) → slice_index l.counts.references.items n ≤ script_times * l.proc;
}
