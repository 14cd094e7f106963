use Rattle.std.proofs.Common.{◌<◌, ap, sym, subst, length, refl}
use Rattle.std.specs.Prelude.{unwrap_or}
use Rattle.omega_net.specs.Ports.{queue_at}
use Rattle.flat_row.specs.Row.{combined_of}
use Rattle.flat_row.proofs.Meeting.{level_same, combined_is, combined_only}
use Rattle.flat_row.proofs.combining.combined_in.Goals as goal

pub set-requires-clause-there : goal.set-requires-clause-there
set-requires-clause-there c = subst (λ n. n < length c.args.level.now.queues) (sym c.port_of-y.ensures) (c.requires.places.ports c.args.output c.requires.at.output)

pub set-requires-clause-index : goal.set-requires-clause-index
set-requires-clause-index c = subst (λ n. c.args.index < length (queue_at c.args.level.now.queues n).items) (sym c.port_of-y.ensures) c.requires.at.index

pub count-requires-clause-few : goal.count-requires-clause-few
count-requires-clause-few c = subst (λ s. combined_of s c.args.x < 2) (sym c.join.ensures) c.requires.few

pub returns-clause-shape : goal.returns-clause-shape
returns-clause-shape c = level_same c.args.settings.now.bit c.args.x c.requires.port.by c.requires.port.there c.requires.port.first c.args.level.now c.set.new.self c.port_of-y.result c.args.output c.port_of-y.ensures c.requires.at.output (subst (λ n. n < length c.args.level.now.queues) (sym c.port_of-y.ensures) (c.requires.places.ports c.args.output c.requires.at.output)) _ c.set.ensures

pub returns-clause-met : goal.returns-clause-met
returns-clause-met c = combined_is c.args.settings.now.bit c.args.x c.requires.port.by c.requires.port.there c.requires.port.first c.args.level.now c.set.new.self c.port_of-y.result c.args.output c.port_of-y.ensures c.requires.at.output (subst (λ n. n < length c.args.level.now.queues) (sym c.port_of-y.ensures) (c.requires.places.ports c.args.output c.requires.at.output)) c.args.index c.args.queued c.args.request _ c.set.ensures (ap (λ o. record c.args.queued { op = unwrap_or o c.args.queued.op }) c.requires.does_both) c.args.waits.now c.join.new.self c.count.new.self _ refl c.join.ensures c.count.ensures.entries c.count.ensures.more c.requires.places.entries

pub returns-clause-only : goal.returns-clause-only
returns-clause-only c = combined_only c.args.settings.now.bit c.args.x c.requires.port.by c.requires.port.there c.requires.port.first c.args.level.now c.set.new.self c.port_of-y.result c.args.output c.port_of-y.ensures c.requires.at.output (subst (λ n. n < length c.args.level.now.queues) (sym c.port_of-y.ensures) (c.requires.places.ports c.args.output c.requires.at.output)) c.args.index c.args.queued c.args.request _ c.set.ensures (ap (λ o. record c.args.queued { op = unwrap_or o c.args.queued.op }) c.requires.does_both) c.args.waits.now c.join.new.self c.count.new.self _ refl c.join.ensures c.count.ensures.entries c.count.ensures.more c.requires.places.entries c.count.ensures.others
