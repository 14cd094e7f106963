use Rattle.std.proofs.Common.{rules, ◌∙◌}
use Rattle.shared_bench.proofs.Turns.{leaves_now}
use Rattle.shared_bench.proofs.Counting.{counts_now}
use Rattle.shared_bench.proofs.Told.{put_in}
use Rattle.shared_bench.proofs.steps.leave_edited.Goals as goal

pub fetch_add-requires : goal.fetch_add-requires
fetch_add-requires c =
    let may = c.requires.may in
    (c.exchange.ensures.0 ∙ c.requires.own.0, search rules, counts_now _ _ _ _ _ c.args.bench may.1 (put_in _ _ _ may.0 c.exchange.ensures.3))

pub fetch_add-served-requires : goal.fetch_add-served-requires
fetch_add-served-requires c =
    let may = c.requires.may in
    let is = put_in c.args.seat.now.me c.exchange.new.seat.me c.args.bench may.0 c.exchange.ensures.3 in
    let counted = (rw is at c.fetch_add.ensures.2) _ _ may.1.passes.seen in
    (c.fetch_add.ensures.0 ∙ (c.exchange.ensures.0 ∙ c.requires.own.0), search rules, leaves_now _ _ _ _ _ c.args.bench may.1.passes counted)

pub returns-clause-left : goal.returns-clause-left
returns-clause-left c a n more =
    let is = put_in c.args.seat.now.me c.exchange.new.seat.me c.args.bench c.requires.may.0 c.exchange.ensures.3 in
    let counted = (rw is at c.fetch_add.ensures.2) a n more in
    (rw counted at c.fetch_add-served.ensures.2).0
