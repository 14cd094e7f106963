use Rattle.std.proofs.Common.{◌<◌, sym, subst}
use Rattle.omega_net.specs.declared.component.Net.TheVariants.{Low as LowNet}
use Rattle.omega_net.specs.declared.component.Component.TheVariants.{Switch}
use Rattle.omega_net.specs.Numbers.{half}
use Rattle.flat_row.specs.Row.{Arrays}
use Rattle.flat_row.specs.Loading.{OnlyState}
use Rattle.flat_row.proofs.Loading.{low_is_row, only_low}
use Rattle.flat_row.proofs.row.Row.load_low.Goals as goal

pub invariant_of-self : goal.invariant_of-self
invariant_of-self c =
    let i = c.self.inside in
    let R : Arrays = record { k = i.shape; low = i.low; comb = i.comb; buffers = i.waits.items; procs = i.procs.items; words = i.words.items; module_turns = i.module_turns; served = i.served; rests = i.rests } in
    low_is_row R c.self.invariant c.args.stage c.args.index c.ports-x.result.0 c.ports-x.result.1 c.args.head _ _ _ _ c.args.words.now c.put_low.new.self
    (subst (λ (r : Arrays). c.args.stage < r.k) (sym c.self.view_is) c.requires.stage) (subst (λ (r : Arrays). c.args.index < half r.k) (sym c.self.view_is) c.requires.index)
    c.ports-x.ensures.first c.ports-x.ensures.second c.put_low.ensures.put c.put_low.ensures.turns c.put_low.ensures.back_turns

pub returns-clause-only : goal.returns-clause-only
returns-clause-only c =
    let i = c.self.inside in
    let R : Arrays = record { k = i.shape; low = i.low; comb = i.comb; buffers = i.waits.items; procs = i.procs.items; words = i.words.items; module_turns = i.module_turns; served = i.served; rests = i.rests } in
    subst (λ (r : Arrays). OnlyState (Switch LowNet c.args.stage c.args.index) r (record R { low = c.put_low.new.self })) c.self.view_is
    (only_low R c.self.invariant c.args.stage c.args.index c.ports-x.result.0 c.ports-x.result.1 c.args.head _ _ _ _ c.args.words.now c.put_low.new.self
    (subst (λ (r : Arrays). c.args.stage < r.k) (sym c.self.view_is) c.requires.stage) (subst (λ (r : Arrays). c.args.index < half r.k) (sym c.self.view_is) c.requires.index)
    c.ports-x.ensures.first c.ports-x.ensures.second c.put_low.ensures.put c.put_low.ensures.turns c.put_low.ensures.back_turns)
