-- A pass over the cells that settles a bench.
use Rattle.std.proofs.Common.{◌≡◌, ℕ, Ok, Err}
use Rattle.cell_table.specs.declared.given.Settled.{Settled}
use Rattle.cell_table.specs.declared.given.SettleFault.{SettleFault}
use Rattle.cell_table.specs.Settling.{IsSettled, IsSpent, IsAt, computed_of, IsClockSpent}
use Rattle.cell_table.proofs.Passes.{spent_first, first_settled, all_settled}
use Rattle.machine_cells.specs.GridRules.{rp3_rules}
use Rattle.machine_cells.specs.GridLaws.{rp3_laws}
use Rattle.bench_core.specs.Later.{IsLater}
use Rattle.bench_core.specs.Shown.{Shown, IsBench}
use Rattle.bench_core.proofs.Happening.{settle_all, settle_some}
use Rattle.bench_core.proofs.Waiting.{ready}
use Rattle.wave_workers.specs.Settling.{IsSettledAs}

module _ (b next : Shown) (t0 c0 : ℕ) (same : next.journal ≡ b.journal) where
  later : (n : ℕ) → IsAt rp3_rules b.table next.table t0 c0 n → IsLater b next
  later n at = record { project = at.slots; journal = same; rises = at.rises; clock = at.clock }

  -- nothing is left
  pub settled_as : (n : ℕ) → IsAt rp3_rules b.table next.table t0 c0 n → IsBench next.table next.journal → IsSettled rp3_rules next.table → IsSettledAs b next (Ok (record { computed = n }))
  settled_as n at bench settled =
      let done : Settled = record { computed = n } in
      record {
        headline_settles = settle_all b next same {E = SettleFault} (Ok done) (at.done, all_settled rp3_rules rp3_laws b.table next.table t0 c0 n at settled);
        after_fault = tt;
        settled = settled;
        ready = ready {T = Settled} {E = SettleFault} (Ok done) next bench settled;
        later = later n at;
        spent = tt;
        differs = tt;
      }

  -- it stopped at a fault
  pub stopped_as : (f : SettleFault) → IsAt rp3_rules b.table next.table t0 c0 (computed_of f) → (IsClockSpent f → IsSpent rp3_rules next.table t0 c0) → IsSettledAs b next (Err f)
  stopped_as f at spent = record {
    headline_settles = tt;
    after_fault = settle_some b next same {T = Settled} (Err f) (at.done, first_settled rp3_rules rp3_laws b.table next.table t0 c0 (computed_of f) at);
    settled = tt;
    ready = tt;
    later = later (computed_of f) at;
    spent = λ is. (spent is).clock;
    differs = λ is. spent_first rp3_rules next.table t0 c0 at.none_before (spent is);
  }
