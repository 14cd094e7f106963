use Rattle.std.proofs.Common.{◌<◌, ◌∙◌, ap, sym, subst, length}
use Rattle.omega_net.specs.Ports.{queue_at}
use Rattle.flat_row.proofs.Meeting.{meets_does, meets_some, meets_none}
use Rattle.flat_row.proofs.combining.meets.Goals as goal

pub messages-requires-clause-there : goal.messages-requires-clause-there
messages-requires-clause-there c = subst (λ n. n < length c.args.level.now.queues) (sym c.port_of-y.ensures) (c.requires.places.ports c.args.output c.requires.at.output)

pub bounds-messages-index : goal.bounds-messages-index
bounds-messages-index c = subst (λ n. c.args.index < n) (ap length (ap (λ n. (queue_at c.args.level.now.queues n).items) (sym c.port_of-y.ensures) ∙ sym c.messages.ensures.value)) c.requires.at.index

pub combined_in-requires-clause-does_both : goal.combined_in-requires-clause-does_both
combined_in-requires-clause-does_both c = meets_does c.args.settings.now c.args.x c.requires.port.by c.requires.port.there c.requires.port.first c.args.level.now c.port_of-y.result c.args.output c.port_of-y.ensures c.requires.at.output (subst (λ n. n < length c.args.level.now.queues) (sym c.port_of-y.ensures) (c.requires.places.ports c.args.output c.requires.at.output)) c.messages.result.now c.args.index _ c.args.request c.at.result.now c.args.waits.now c.messages.ensures.value (subst (λ n. c.args.index < n) (ap length (ap (λ n. (queue_at c.args.level.now.queues n).items) (sym c.port_of-y.ensures) ∙ sym c.messages.ensures.value)) c.requires.at.index) c.at.ensures c.in-Some.op c.in-Some.ensures

pub returns-in-Some-clause-shape : goal.returns-in-Some-clause-shape
returns-in-Some-clause-shape c = c.combined_in.ensures.shape

pub returns-in-Some-clause-met : goal.returns-in-Some-clause-met
returns-in-Some-clause-met c = meets_some c.args.settings.now c.args.x c.requires.port.by c.requires.port.there c.requires.port.first c.args.level.now c.port_of-y.result c.args.output c.port_of-y.ensures c.requires.at.output (subst (λ n. n < length c.args.level.now.queues) (sym c.port_of-y.ensures) (c.requires.places.ports c.args.output c.requires.at.output)) c.messages.result.now c.args.index _ c.args.request c.at.result.now c.args.waits.now c.messages.ensures.value (subst (λ n. c.args.index < n) (ap length (ap (λ n. (queue_at c.args.level.now.queues n).items) (sym c.port_of-y.ensures) ∙ sym c.messages.ensures.value)) c.requires.at.index) c.at.ensures c.in-Some.op _ c.in-Some.ensures c.combined_in.ensures.met

pub returns-in-Some-clause-only : goal.returns-in-Some-clause-only
returns-in-Some-clause-only c = c.combined_in.ensures.only

pub returns-in-None-clause-shape : goal.returns-in-None-clause-shape
returns-in-None-clause-shape c = c.last_in.ensures.shape

pub returns-in-None-clause-met : goal.returns-in-None-clause-met
returns-in-None-clause-met c = meets_none c.args.settings.now c.args.x c.requires.port.by c.requires.port.there c.requires.port.first c.args.level.now c.port_of-y.result c.args.output c.port_of-y.ensures c.requires.at.output (subst (λ n. n < length c.args.level.now.queues) (sym c.port_of-y.ensures) (c.requires.places.ports c.args.output c.requires.at.output)) c.messages.result.now c.args.index _ c.args.request c.at.result.now c.args.waits.now c.messages.ensures.value (subst (λ n. c.args.index < n) (ap length (ap (λ n. (queue_at c.args.level.now.queues n).items) (sym c.port_of-y.ensures) ∙ sym c.messages.ensures.value)) c.requires.at.index) c.at.ensures _ c.in-None.ensures c.last_in.ensures.met

pub returns-in-None-clause-only : goal.returns-in-None-clause-only
returns-in-None-clause-only c = c.last_in.ensures.only
