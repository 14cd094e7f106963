use Rattle.std.proofs.Common.{◌≡◌, ◌≤◌, ◌*◌, ℕ, sum_by, slice_index, vec_len}
use Rattle.omega_net.specs.Wires.{below}
use Rattle.project_book.specs.Project.{entry_at}
use Rattle.lab_tasks.specs.Counts.{is_of, part_count, times_in}
use Rattle.lab_tasks.proofs.hot.script_counts.Given as goal

abbrev pub invariant-loop-index : goal.invariant-loop-index
invariant-loop-index l = record {
  long : vec_len l.counts ≡ part_count l.project l.parts;
  times : (n : ℕ) → slice_index l.counts.items n ≡ sum_by (λ i. times_in (is_of l.project l.parts n) (entry_at l.project l.proc i)) (below l.index);
  few : (n : ℕ) → slice_index l.counts.items n ≤ 1000 * l.index;
}
