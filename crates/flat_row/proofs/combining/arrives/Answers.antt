use Rattle.std.proofs.Common.{◌<◌, ◌∙◌, ap, sym, subst, length}
use Rattle.std.proofs.Common.{None, Some}
use Rattle.std.proofs.lemmas.Nat.Bits.{bit_at-lt}
use Rattle.omega_net.specs.Ports.{queue_at}
use Rattle.flat_row.proofs.Meeting.{arrives_is}
use Rattle.flat_row.proofs.combining.arrives.Goals as goal

pub port_of-y-requires-clause-bit : goal.port_of-y-requires-clause-bit
port_of-y-requires-clause-bit c = subst (λ n. n < 2) (sym c.bit_of-output.ensures) (bit_at-lt c.args.request.place.«module» c.args.settings.now.bit)

pub messages-requires-clause-there : goal.messages-requires-clause-there
messages-requires-clause-there c = subst (λ n. n < length c.args.level.now.queues) (sym c.port_of-y.ensures) (c.requires.places.ports c.bit_of-output.result (subst (λ n. n < 2) (sym c.bit_of-output.ensures) (bit_at-lt c.args.request.place.«module» c.args.settings.now.bit)))

pub meets-requires-clause-at : goal.meets-requires-clause-at
meets-requires-clause-at c = record { output = subst (λ n. n < 2) (sym c.bit_of-output.ensures) (bit_at-lt c.args.request.place.«module» c.args.settings.now.bit); index = subst (λ n. c.in-Some.index < n) (ap length (c.messages.ensures.value ∙ ap (λ n. (queue_at c.args.level.now.queues n).items) c.port_of-y.ensures)) c.in-Some.ensures.within }

pub last_in-requires-clause-output : goal.last_in-requires-clause-output
last_in-requires-clause-output c = subst (λ n. n < 2) (sym c.bit_of-output.ensures) (bit_at-lt c.args.request.place.«module» c.args.settings.now.bit)

pub returns-in-Some-clause-shape : goal.returns-in-Some-clause-shape
returns-in-Some-clause-shape c = c.meets.ensures.shape

pub returns-in-Some-clause-met : goal.returns-in-Some-clause-met
returns-in-Some-clause-met c = arrives_is c.args.settings.now c.args.x c.requires.port.by c.requires.port.there c.requires.port.first c.args.level.now c.port_of-y.result c.bit_of-output.result c.port_of-y.ensures (subst (λ n. n < 2) (sym c.bit_of-output.ensures) (bit_at-lt c.args.request.place.«module» c.args.settings.now.bit)) (subst (λ n. n < length c.args.level.now.queues) (sym c.port_of-y.ensures) (c.requires.places.ports c.bit_of-output.result (subst (λ n. n < 2) (sym c.bit_of-output.ensures) (bit_at-lt c.args.request.place.«module» c.args.settings.now.bit)))) c.args.request c.args.waits.now (Some c.in-Some.index) c.messages.result.now _ c.bit_of-output.ensures c.in-Some.ensures.index c.messages.ensures.value c.meets.ensures.met

pub returns-in-Some-clause-only : goal.returns-in-Some-clause-only
returns-in-Some-clause-only c = c.meets.ensures.only

pub returns-in-None-clause-shape : goal.returns-in-None-clause-shape
returns-in-None-clause-shape c = c.last_in.ensures.shape

pub returns-in-None-clause-met : goal.returns-in-None-clause-met
returns-in-None-clause-met c = arrives_is c.args.settings.now c.args.x c.requires.port.by c.requires.port.there c.requires.port.first c.args.level.now c.port_of-y.result c.bit_of-output.result c.port_of-y.ensures (subst (λ n. n < 2) (sym c.bit_of-output.ensures) (bit_at-lt c.args.request.place.«module» c.args.settings.now.bit)) (subst (λ n. n < length c.args.level.now.queues) (sym c.port_of-y.ensures) (c.requires.places.ports c.bit_of-output.result (subst (λ n. n < 2) (sym c.bit_of-output.ensures) (bit_at-lt c.args.request.place.«module» c.args.settings.now.bit)))) c.args.request c.args.waits.now None c.messages.result.now _ c.bit_of-output.ensures c.in-None.ensures.index c.messages.ensures.value c.last_in.ensures.met

pub returns-in-None-clause-only : goal.returns-in-None-clause-only
returns-in-None-clause-only c = c.last_in.ensures.only
