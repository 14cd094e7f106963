use Rattle.std.proofs.Common.{◌<◌, sym, subst, length}
use Rattle.flat_row.proofs.Meeting.{level_same, level_only, last_in_is}
use Rattle.flat_row.proofs.combining.last_in.Goals as goal

pub give-requires-clause-there : goal.give-requires-clause-there
give-requires-clause-there c = subst (λ n. n < length c.args.level.now.queues) (sym c.port_of-y.ensures) (c.requires.ports c.args.output c.requires.output)

pub returns-clause-shape : goal.returns-clause-shape
returns-clause-shape c = level_same c.args.settings.now.bit c.args.x c.requires.port.by c.requires.port.there c.requires.port.first c.args.level.now c.give.new.self c.port_of-y.result c.args.output c.port_of-y.ensures c.requires.output (subst (λ n. n < length c.args.level.now.queues) (sym c.port_of-y.ensures) (c.requires.ports c.args.output c.requires.output)) _ c.give.ensures

pub returns-clause-met : goal.returns-clause-met
returns-clause-met c = last_in_is c.args.settings.now.bit c.args.x c.requires.port.by c.requires.port.there c.requires.port.first c.args.level.now c.give.new.self c.port_of-y.result c.args.output c.port_of-y.ensures c.requires.output (subst (λ n. n < length c.args.level.now.queues) (sym c.port_of-y.ensures) (c.requires.ports c.args.output c.requires.output)) c.args.request c.give.ensures c.args.waits.now

pub returns-clause-only : goal.returns-clause-only
returns-clause-only c = level_only c.args.settings.now.bit c.args.x c.requires.port.by c.requires.port.there c.requires.port.first c.args.level.now c.give.new.self c.port_of-y.result c.args.output c.port_of-y.ensures c.requires.output (subst (λ n. n < length c.args.level.now.queues) (sym c.port_of-y.ensures) (c.requires.ports c.args.output c.requires.output)) _ c.give.ensures c.args.waits.now
