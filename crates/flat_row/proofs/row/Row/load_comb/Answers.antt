use Rattle.std.proofs.Common.{◌<◌, sym, subst}
use Rattle.std.proofs.Math.ListN.{set}
use Rattle.omega_net.specs.declared.component.Net.TheVariants.{Comb as CombNet}
use Rattle.omega_net.specs.declared.component.Component.TheVariants.{Switch}
use Rattle.omega_net.specs.Numbers.{half}
use Rattle.flat_row.specs.Row.{Arrays}
use Rattle.flat_row.specs.Loading.{OnlyState}
use Rattle.flat_row.proofs.Loading.{entries_there, comb_is_row, only_comb}
use Rattle.flat_row.proofs.row.Row.load_comb.Goals as goal

pub put-requires-clause-there : goal.put-requires-clause-there
put-requires-clause-there c =
    let i = c.self.inside in
    let R : Arrays = record { k = i.shape; low = i.low; comb = i.comb; buffers = i.waits.items; procs = i.procs.items; words = i.words.items; module_turns = i.module_turns; served = i.served; rests = i.rests } in
    entries_there R c.self.invariant c.args.stage c.ports-x.result.0 c.index_mut-waits.result.now (subst (λ (r : Arrays). c.args.stage < r.k) (sym c.self.view_is) c.requires.stage)
    c.ports-x.ensures.within.0 c.index_mut-waits.ensures.value

pub invariant_of-self : goal.invariant_of-self
invariant_of-self c =
    let i = c.self.inside in
    let R : Arrays = record { k = i.shape; low = i.low; comb = i.comb; buffers = i.waits.items; procs = i.procs.items; words = i.words.items; module_turns = i.module_turns; served = i.served; rests = i.rests } in
    comb_is_row R c.self.invariant c.args.stage c.args.index c.ports-x.result.0 c.ports-x.result.1 c.args.head _ _ _ c.args.words.now c.put_comb-rest.new.self
    (subst (λ (r : Arrays). c.args.stage < r.k) (sym c.self.view_is) c.requires.stage) (subst (λ (r : Arrays). c.args.index < half r.k) (sym c.self.view_is) c.requires.index)
    c.ports-x.ensures.first c.ports-x.ensures.second c.put_comb-rest.ensures.put c.put_comb-rest.ensures.turns c.put_comb-rest.ensures.back_turns
    c.index_mut-waits.result.now c.put.new.self _ c.index_mut-waits.ensures.value c.put.ensures.entries c.put.ensures.others

pub returns-clause-only : goal.returns-clause-only
returns-clause-only c =
    let i = c.self.inside in
    let R : Arrays = record { k = i.shape; low = i.low; comb = i.comb; buffers = i.waits.items; procs = i.procs.items; words = i.words.items; module_turns = i.module_turns; served = i.served; rests = i.rests } in
    subst (λ (r : Arrays). OnlyState (Switch CombNet c.args.stage c.args.index) r (record R { comb = c.put_comb-rest.new.self; buffers = set R.buffers c.args.stage c.put.new.self })) c.self.view_is
    (only_comb R c.self.invariant c.args.stage c.args.index c.ports-x.result.0 c.ports-x.result.1 c.args.head _ _ _ c.args.words.now c.put_comb-rest.new.self
    (subst (λ (r : Arrays). c.args.stage < r.k) (sym c.self.view_is) c.requires.stage) (subst (λ (r : Arrays). c.args.index < half r.k) (sym c.self.view_is) c.requires.index)
    c.ports-x.ensures.first c.ports-x.ensures.second c.put_comb-rest.ensures.put c.put_comb-rest.ensures.turns c.put_comb-rest.ensures.back_turns
    c.index_mut-waits.result.now c.put.new.self _ c.index_mut-waits.ensures.value c.put.ensures.entries c.put.ensures.others)
