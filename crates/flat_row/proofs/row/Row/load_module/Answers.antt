use Rattle.std.proofs.Common.{◌≡◌, suc, ◌+◌, ◌<◌, ◌∙◌, ap, sym, subst, arith}
use Rattle.std.specs.Prelude.{slice_index_or, []}
use Rattle.omega_net.specs.declared.component.Component.TheVariants.{Module as ModuleAt}
use Rattle.omega_net.specs.Numbers.{lines}
use Rattle.state_words.specs.Reading.{module_from, queue_from}
use Rattle.state_words.specs.Messages.{reply_from}
use Rattle.flat_row.specs.Row.{Arrays}
use Rattle.flat_row.specs.Loading.{OnlyState, RepliesPut}
use Rattle.flat_row.proofs.Loading.{line_small, module_loaded, only_module}
use Rattle.flat_row.proofs.row.Row.load_module.Goals as goal

pub with_mark-self-inside-requires : goal.with_mark-self-inside-requires
with_mark-self-inside-requires c = line_small c.self.inside.shape c.args.m c.self.invariant.small (subst (λ (r : Arrays). c.args.m < lines r.k) (sym c.self.view_is) c.requires)

pub with_mark-self-inside-requires-2 : goal.with_mark-self-inside-requires-2
with_mark-self-inside-requires-2 c = line_small c.self.inside.shape c.args.m c.self.invariant.small (subst (λ (r : Arrays). c.args.m < lines r.k) (sym c.self.view_is) c.requires)

pub returns-clause-loaded : goal.returns-clause-loaded
returns-clause-loaded c =
    let i = c.self.inside in
    let R : Arrays = record { k = i.shape; low = i.low; comb = i.comb; buffers = i.waits.items; procs = i.procs.items; words = i.words.items; module_turns = i.module_turns; served = i.served; rests = i.rests } in
    let behind : c.k-k.result + 1 ≡ suc i.shape = omega (arith, c.k-k.ensures.value) in
    let three = subst (λ n. RepliesPut n c.args.m (queue_from reply_from c.count_in-3.result c.put_requests-rest-2.result.now) c.put_requests-rest.new.self c.put_replies-rest.new.self) c.k-k.ensures.value c.put_replies-rest.ensures.put in
    let four = subst (λ n. RepliesPut n c.args.m (queue_from reply_from c.count_in-4.result c.put_replies-rest.result.now) c.put_requests-rest-2.new.self c.put_replies.new.self) c.k-k.ensures.value c.put_replies.ensures.put in
    module_loaded R c.self.invariant c.args.m (c.k-k.result + 1) c.args.head c.args.words.now c.put_requests-rest.result.now c.put_requests-rest-2.result.now c.put_replies-rest.result.now
    c.count_in.result c.count_in-2.result c.count_in-3.result c.count_in-4.result c.put_requests-rest.new.self c.put_replies-rest.new.self c.put_requests-rest-2.new.self c.put_replies.new.self
    c.mark_in.result c.mark_in-2.result c.with_mark-self-inside.result c.with_mark-self-inside-2.result
    (subst (λ (r : Arrays). c.args.m < lines r.k) (sym c.self.view_is) c.requires) behind c.put_requests-rest.ensures.put c.put_requests-rest-2.ensures.put three four c.with_mark-self-inside.ensures c.with_mark-self-inside-2.ensures
    c.mark_in.ensures c.mark_in-2.ensures c.count_in.ensures.value c.count_in-2.ensures.value c.count_in-3.ensures.value c.count_in-4.ensures.value
    c.put_requests-rest.ensures.rest c.put_requests-rest-2.ensures.rest c.put_replies-rest.ensures.rest
    ∙ ap (λ (r : Arrays). module_from c.args.head c.args.words.now (slice_index_or r.words c.args.m [])) c.self.view_is

pub returns-clause-only : goal.returns-clause-only
returns-clause-only c =
    let i = c.self.inside in
    let R : Arrays = record { k = i.shape; low = i.low; comb = i.comb; buffers = i.waits.items; procs = i.procs.items; words = i.words.items; module_turns = i.module_turns; served = i.served; rests = i.rests } in
    let behind : c.k-k.result + 1 ≡ suc i.shape = omega (arith, c.k-k.ensures.value) in
    let three = subst (λ n. RepliesPut n c.args.m (queue_from reply_from c.count_in-3.result c.put_requests-rest-2.result.now) c.put_requests-rest.new.self c.put_replies-rest.new.self) c.k-k.ensures.value c.put_replies-rest.ensures.put in
    let four = subst (λ n. RepliesPut n c.args.m (queue_from reply_from c.count_in-4.result c.put_replies-rest.result.now) c.put_requests-rest-2.new.self c.put_replies.new.self) c.k-k.ensures.value c.put_replies.ensures.put in
    subst (λ (r : Arrays). OnlyState (ModuleAt c.args.m) r (record R { low = c.put_replies-rest.new.self; comb = c.put_replies.new.self; module_turns = c.with_mark-self-inside.result; served = c.with_mark-self-inside-2.result })) c.self.view_is
    (only_module R c.self.invariant c.args.m (c.k-k.result + 1) c.args.head c.args.words.now c.put_requests-rest.result.now c.put_requests-rest-2.result.now c.put_replies-rest.result.now
    c.count_in.result c.count_in-2.result c.count_in-3.result c.count_in-4.result c.put_requests-rest.new.self c.put_replies-rest.new.self c.put_requests-rest-2.new.self c.put_replies.new.self
    c.mark_in.result c.mark_in-2.result c.with_mark-self-inside.result c.with_mark-self-inside-2.result
    (subst (λ (r : Arrays). c.args.m < lines r.k) (sym c.self.view_is) c.requires) behind c.put_requests-rest.ensures.put c.put_requests-rest-2.ensures.put three four c.with_mark-self-inside.ensures c.with_mark-self-inside-2.ensures)
