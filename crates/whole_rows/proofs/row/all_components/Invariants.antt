use Rattle.std.proofs.Common.{◌≡◌, ℕ, ◌<◌, length}
use Rattle.std.specs.Prelude.{slice_get}
use Rattle.omega_net.specs.Numbers.{component_of}
use Rattle.whole_rows.proofs.row.all_components.Given as goal

abbrev pub invariant-loop-c : goal.invariant-loop-c
invariant-loop-c l = record {
  long : length l.all.items ≡ l.c;
  each : (d : ℕ) → d < l.c → slice_get l.all.items d ≡ component_of l.shape d;
}
