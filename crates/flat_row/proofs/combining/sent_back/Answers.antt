use Rattle.std.proofs.Common.{◌<◌, sym, subst, length}
use Rattle.std.proofs.lemmas.Nat.Bits.{bit_at-lt}
use Rattle.flat_row.proofs.Meeting.{level_same, level_only, sent_back_is}
use Rattle.flat_row.proofs.combining.sent_back.Goals as goal

pub port_of-y-requires-clause-bit : goal.port_of-y-requires-clause-bit
port_of-y-requires-clause-bit c = subst (λ n. n < 2) (sym c.bit_of-input.ensures) (bit_at-lt c.args.reply.tag.proc c.args.settings.now.bit)

pub give-requires-clause-there : goal.give-requires-clause-there
give-requires-clause-there c = subst (λ n. n < length c.args.level.now.queues) (sym c.port_of-y.ensures) (c.requires.ports c.bit_of-input.result (subst (λ n. n < 2) (sym c.bit_of-input.ensures) (bit_at-lt c.args.reply.tag.proc c.args.settings.now.bit)))

pub returns-clause-shape : goal.returns-clause-shape
returns-clause-shape c = level_same c.args.settings.now.bit c.args.x c.requires.port.by c.requires.port.there c.requires.port.first c.args.level.now c.give.new.self c.port_of-y.result c.bit_of-input.result c.port_of-y.ensures (subst (λ n. n < 2) (sym c.bit_of-input.ensures) (bit_at-lt c.args.reply.tag.proc c.args.settings.now.bit)) (subst (λ n. n < length c.args.level.now.queues) (sym c.port_of-y.ensures) (c.requires.ports c.bit_of-input.result (subst (λ n. n < 2) (sym c.bit_of-input.ensures) (bit_at-lt c.args.reply.tag.proc c.args.settings.now.bit)))) _ c.give.ensures

pub returns-clause-met : goal.returns-clause-met
returns-clause-met c = sent_back_is c.args.settings.now c.args.x c.requires.port.by c.requires.port.there c.requires.port.first c.args.level.now c.give.new.self c.port_of-y.result c.bit_of-input.result c.port_of-y.ensures (subst (λ n. n < 2) (sym c.bit_of-input.ensures) (bit_at-lt c.args.reply.tag.proc c.args.settings.now.bit)) (subst (λ n. n < length c.args.level.now.queues) (sym c.port_of-y.ensures) (c.requires.ports c.bit_of-input.result (subst (λ n. n < 2) (sym c.bit_of-input.ensures) (bit_at-lt c.args.reply.tag.proc c.args.settings.now.bit)))) c.args.reply c.bit_of-input.ensures c.give.ensures c.args.waits.now

pub returns-clause-only : goal.returns-clause-only
returns-clause-only c = level_only c.args.settings.now.bit c.args.x c.requires.port.by c.requires.port.there c.requires.port.first c.args.level.now c.give.new.self c.port_of-y.result c.bit_of-input.result c.port_of-y.ensures (subst (λ n. n < 2) (sym c.bit_of-input.ensures) (bit_at-lt c.args.reply.tag.proc c.args.settings.now.bit)) (subst (λ n. n < length c.args.level.now.queues) (sym c.port_of-y.ensures) (c.requires.ports c.bit_of-input.result (subst (λ n. n < 2) (sym c.bit_of-input.ensures) (bit_at-lt c.args.reply.tag.proc c.args.settings.now.bit)))) _ c.give.ensures c.args.waits.now
