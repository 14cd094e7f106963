use Rattle.std.proofs.Common.{◌<◌, sym, subst}
use Rattle.std.proofs.Math.ListN.{set}
use Rattle.omega_net.specs.declared.component.Component.TheVariants.{Proc as ProcAt}
use Rattle.omega_net.specs.Numbers.{lines}
use Rattle.flat_row.specs.Row.{Arrays}
use Rattle.flat_row.specs.Loading.{OnlyState}
use Rattle.flat_row.proofs.Loading.{line_small, only_proc}
use Rattle.flat_row.proofs.row.Row.load_proc.Goals as goal

pub with_mark-self-inside-requires : goal.with_mark-self-inside-requires
with_mark-self-inside-requires c = line_small c.self.inside.shape c.args.p c.self.invariant.small (subst (λ (r : Arrays). c.args.p < lines r.k) (sym c.self.view_is) c.requires)

pub returns-clause-only : goal.returns-clause-only
returns-clause-only c =
    let i = c.self.inside in
    let R : Arrays = record { k = i.shape; low = i.low; comb = i.comb; buffers = i.waits.items; procs = i.procs.items; words = i.words.items; module_turns = i.module_turns; served = i.served; rests = i.rests } in
    subst (λ (r : Arrays). OnlyState (ProcAt c.args.p) r (record R { low = c.hold_request.new.self; comb = c.hold_request-2.new.self; procs = set R.procs c.args.p c.read_proc-state.result; rests = c.with_mark-self-inside.result })) c.self.view_is
    (only_proc R c.self.invariant c.args.p _ _ c.hold_request.new.self c.hold_request-2.new.self c.read_proc-state.result c.with_mark-self-inside.result
    (subst (λ (r : Arrays). c.args.p < lines r.k) (sym c.self.view_is) c.requires) c.hold_request.ensures c.hold_request-2.ensures c.with_mark-self-inside.ensures)
