use Rattle.std.proofs.Common.{rules, refl}
use Rattle.shared_bench.proofs.Numbers.{draws_one}
use Rattle.shared_bench.proofs.steps.draw.Goals as goal

pub fetch_or-found-requires : goal.fetch_or-found-requires
fetch_or-found-requires c = let b = c.requires.bare in (search rules, search rules, draws_one _ _ _ _ c.args.number _ (b.4, refl) b.3 b.0 b.1 b.2)
