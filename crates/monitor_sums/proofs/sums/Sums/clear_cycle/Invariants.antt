use Rattle.std.proofs.Common.{◌≡◌, ℕ, ◌<◌, ◌≤◌, cond}
use Rattle.std.specs.Prelude.{◌==◌, ◌&&◌, nat_lt}
use Rattle.omega_net.specs.Numbers.{components}
use Rattle.monitor_sums.specs.Counts.{nothing}
use Rattle.monitor_sums.specs.Kept.{kept_at}
use Rattle.monitor_sums.proofs.sums.Sums.clear_cycle.Given as goal

abbrev pub invariant-loop-component : goal.invariant-loop-component
invariant-loop-component l = record {
  shape : l.self.k ≡ l.fn.self.k;
  last : l.self.last ≡ l.fn.self.last;
  each : (t c : ℕ) → t ≤ l.fn.self.last → c < components l.fn.self.k
      → kept_at l.self.cells t c ≡ cond ((t == l.cycle) && nat_lt c l.component) nothing (kept_at l.fn.self.cells t c);
}
