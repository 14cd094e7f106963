use Rattle.std.proofs.Common.{rules, ◌∙◌}
use Rattle.shared_bench.proofs.Turns.{leaves_now}
use Rattle.shared_bench.proofs.Told.{put_in}
use Rattle.shared_bench.proofs.steps.leave.Goals as goal

pub fetch_add-served-requires : goal.fetch_add-served-requires
fetch_add-served-requires c =
    let may = c.requires.may in
    (c.exchange.ensures.0 ∙ c.requires.own.0, search rules, leaves_now _ _ _ _ _ c.args.bench may.1 (put_in _ _ _ may.0 c.exchange.ensures.3))
