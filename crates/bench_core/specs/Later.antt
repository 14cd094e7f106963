-- A bench before and after a settling.
use Rattle.std.specs.Prelude.{◌≡◌, ◌-◌, ◌^◌, ◌≤◌}
use Rattle.bench_core.specs.Shown.{Shown, project_of}

-- it has the project and the journal that it had, and its clock hasn't fallen; at its last value that stays
pub record IsLater (old now : Shown) : Type 0 where
  pub project : project_of now ≡ project_of old
  pub journal : now.journal ≡ old.journal
  pub rises : old.table.clock ≤ now.table.clock
  pub clock : old.table.clock ≡ 2 ^ 64 - 1 → now.table.clock ≡ 2 ^ 64 - 1
