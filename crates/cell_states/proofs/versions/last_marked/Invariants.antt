use Rattle.std.proofs.Common.{◌≡◌, ℕ, ◌-◌, ◌<◌, ◌≤◌, ◌&&◌, true, false, length, take}
use Rattle.cell_states.specs.Near.{has}
use Rattle.cell_states.specs.Filling.{is_awake}
use Rattle.cell_states.proofs.versions.last_marked.Given as goal

abbrev pub invariant-loop-component : goal.invariant-loop-component
invariant-loop-component l = record {
  within : l.last ≤ length l.marks;
  last : 0 < l.last → (is_awake l.marks (l.last - 1) && has (take l.component-index l.components) (l.last - 1)) ≡ true;
  behind : (k : ℕ) → l.last ≤ k → (is_awake l.marks k && has (take l.component-index l.components) k) ≡ false;
}
