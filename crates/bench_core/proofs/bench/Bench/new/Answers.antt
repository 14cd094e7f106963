use Rattle.std.proofs.Common.{rules, []}
use Rattle.bench_core.specs.Shown.{IsBench}
use Rattle.bench_core.proofs.Standing.{stands_new}
use Rattle.bench_core.proofs.Keeping.{told_none}
use Rattle.bench_core.proofs.bench.Bench.new.Goals as goal

pub invariant_of-result : goal.invariant_of-result
invariant_of-result c =
    let bench : IsBench c.in-Ok-new.table c.new-in-Ok-new.result.items = search rules in (
      bench,
      rw c.none.ensures tt,
      (record { project = c.args.project; clock = c.args.clock }, [], search (rules, stands_new)),
      search (rules, told_none),
      search rules,
    )
