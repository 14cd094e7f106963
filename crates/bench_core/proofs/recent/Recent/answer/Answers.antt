use Rattle.std.proofs.Common.{◌∙◌, sym, ap}
use Rattle.std.specs.Option.{option_copied}
use Rattle.bench_core.proofs.Keeping.{shared_kept, looked_up}
use Rattle.bench_core.proofs.recent.Recent.answer.Goals as goal

pub returns-in_err-get-clause-stays : goal.returns-in_err-get-clause-stays
returns-in_err-get-clause-stays c = rw (← c.self.view_is) (looked_up _ c.self.inside.answers c.get.follows.lender-at-none c.get.follows.holds-at-none)

pub returns-clause-kept : goal.returns-clause-kept
returns-clause-kept c =
    rw (← c.self.view_is, c.ok.ensures.value) (shared_kept c.self.inside.answers.entries c.args.asking c.in_ok-get.field-0.now c.share.result (sym c.get.ensures.value ∙ ap option_copied c.in_ok-get.was) c.share.ensures)

pub returns-clause-stays : goal.returns-clause-stays
returns-clause-stays c = rw (← c.self.view_is) (looked_up _ c.self.inside.answers c.get.follows.lender-at-none c.get.follows.holds-at-none)
