use Rattle.std.proofs.Common.{◌<◌, ◌∙◌, ap, sym, subst, length, length-set}
use Rattle.std.proofs.lemmas.List.{get_or_default}
use Rattle.omega_net.specs.Ports.{message_at}
use Rattle.ref_proc.specs.RefProc.{proc_start}
use Rattle.flat_row.specs.Row.{Rests}
use Rattle.flat_row.specs.Ends.{HasIssued, acted, proc_at}
use Rattle.flat_row.proofs.Processing.{with_out, put_acted, put_others, rests_then}
use Rattle.flat_row.proofs.acting.act.Goals as goal

pub show-requires-clause-issued : goal.show-requires-clause-issued
show-requires-clause-issued c = subst (λ o. HasIssued o c.acted-next.result) c.shown.ensures c.acted-next.ensures.issued

pub returns-clause-one : goal.returns-clause-one
returns-clause-one c = c.show.ensures.one

pub returns-clause-acted : goal.returns-clause-acted
returns-clause-acted c =
    let there : c.args.p < length c.args.procs.now.items = subst (λ n. c.args.p < n) (sym c.requires.procs.many) c.requires.there in
    put_acted c.args.procs.now.items c.show.new.low c.show.new.comb c.args.p there c.acted-next.result c.show.ensures.shown
    ∙ c.acted-next.ensures.acted
    ∙ ap (acted c.args.project.now c.args.p (message_at c.args.replies 0) (message_at c.args.replies 1))
    (ap (λ s. with_out s c.shown.result) (c.index.ensures ∙ get_or_default c.args.procs.now.items c.args.p c.index.result.now proc_start there) ∙ ap (with_out (proc_at c.args.procs.now.items c.args.p)) c.shown.ensures)

pub returns-clause-stay : goal.returns-clause-stay
returns-clause-stay c = λ so.
    let there : c.args.p < length c.args.procs.now.items = subst (λ n. c.args.p < n) (sym c.requires.procs.many) c.requires.there in
    put_acted c.args.procs.now.items c.show.new.low c.show.new.comb c.args.p there c.acted-next.result c.show.ensures.shown
    ∙ c.stays.ensures.same so
    ∙ (ap (λ s. with_out s c.shown.result) (c.index.ensures ∙ get_or_default c.args.procs.now.items c.args.p c.index.result.now proc_start there) ∙ ap (with_out (proc_at c.args.procs.now.items c.args.p)) c.shown.ensures)

pub returns-clause-rest : goal.returns-clause-rest
returns-clause-rest c = λ so.
    let there : c.args.p < length c.args.procs.now.items = subst (λ n. c.args.p < n) (sym c.requires.procs.many) c.requires.there in
    subst (λ s. Rests c.args.project.now c.args.p s) (sym (put_acted c.args.procs.now.items c.show.new.low c.show.new.comb c.args.p there c.acted-next.result c.show.ensures.shown))
    (rests_then c.args.project.now c.args.p (message_at c.args.replies 0) (message_at c.args.replies 1) (with_out c.index.result.now c.shown.result) c.acted-next.result c.acted-next.ensures.acted (c.stays.ensures.low so) (c.stays.ensures.comb so) (c.stays.ensures.same so))

pub returns-clause-only : goal.returns-clause-only
returns-clause-only c =
    let there : c.args.p < length c.args.procs.now.items = subst (λ n. c.args.p < n) (sym c.requires.procs.many) c.requires.there in
    record {
      many = length-set c.args.procs.now.items c.args.p c.acted-next.result;
      others = put_others c.args.procs.now.items c.show.new.low c.show.new.comb c.args.p there c.acted-next.result c.show.ensures.shown;
      shown = c.show.ensures.only;
    }
