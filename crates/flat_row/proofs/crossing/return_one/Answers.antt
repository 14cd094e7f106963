use Rattle.std.proofs.Common.{◌<◌, ◌∙◌, ap, sym, subst, length, arith}
use Rattle.std.specs.Prelude.{IsSome}
use Rattle.comb_switch.specs.CombSwitch.{returns_to}
use Rattle.omega_net.specs.Wires.{bit}
use Rattle.omega_net.specs.Queues.{head}
use Rattle.omega_net.specs.Ports.{queue_at}
use Rattle.flat_row.specs.Labels.{port}
use Rattle.flat_row.specs.Combining.{splitting}
use Rattle.flat_row.proofs.Carrying.{port_small, port_bit}
use Rattle.flat_row.proofs.Passing.{level_found, found_behind}
use Rattle.flat_row.proofs.Crossed.{met_is, label_there, ports_there, entry_there}
use Rattle.flat_row.proofs.crossing.return_one.Goals as goal

pub port_of-x-requires-clause-by : goal.port_of-x-requires-clause-by
port_of-x-requires-clause-by c = c.requires.can.by

pub take-reply-requires-clause-there : goal.take-reply-requires-clause-there
take-reply-requires-clause-there c = subst (λ v. c.args.y < length v.queues) (sym (level_found c.args.levels.now.items c.args.crossing.now.from c.index_mut-before.result.now c.index_mut-before.ensures.value c.requires.from)) (label_there c.args.crossing.now.settings.bit c.args.crossing.now.from c.args.crossing.now.to c.args.levels.now.items c.args.waits.now c.requires.can c.args.y c.requires.there c.requires.some)

pub take-reply-requires-clause-some : goal.take-reply-requires-clause-some
take-reply-requires-clause-some c = subst (λ v. IsSome (head (queue_at v.queues c.args.y))) (sym (level_found c.args.levels.now.items c.args.crossing.now.from c.index_mut-before.result.now c.index_mut-before.ensures.value c.requires.from)) c.requires.some

pub returns_to-requires-clause-port : goal.returns_to-requires-clause-port
returns_to-requires-clause-port c =
    record {
      by = c.requires.can.by;
      there = subst (λ n. n < 64) (sym c.port_of-x.ensures) (port_small c.args.crossing.now.settings.bit c.args.y 0 c.requires.can.by c.requires.there (omega arith));
      first = ap (bit c.args.crossing.now.settings.bit) c.port_of-x.ensures ∙ port_bit c.args.crossing.now.settings.bit c.args.y 0 c.requires.can.by c.requires.there (omega arith);
    }

pub returns_to-requires-clause-places : goal.returns_to-requires-clause-places
returns_to-requires-clause-places c =
    record {
      ports = λ i h. subst (λ n. port c.args.crossing.now.settings.bit i n < length c.index_mut-behind.result.now.queues) (sym c.port_of-x.ensures) (subst (λ v. port c.args.crossing.now.settings.bit i (port c.args.crossing.now.settings.bit 0 c.args.y) < length v.queues) (sym (found_behind c.args.levels.now.items c.args.crossing.now.from c.args.crossing.now.to c.index_mut-before.result.now c.take-reply.new.self c.index_mut-behind.result.now c.index_mut-behind.result.now c.requires.from c.requires.to c.requires.can.apart c.index_mut-before.ensures.value c.index_mut-behind.ensures.value)) (ports_there c.args.crossing.now.settings.bit c.args.crossing.now.from c.args.crossing.now.to c.args.levels.now.items c.args.waits.now c.requires.can c.args.y c.requires.there c.requires.some i h));
      entries = subst (λ n. n < length c.args.waits.now.entries) (sym c.port_of-x.ensures) (entry_there c.args.crossing.now.settings.bit c.args.crossing.now.from c.args.crossing.now.to c.args.levels.now.items c.args.waits.now c.requires.can c.args.y c.requires.there c.requires.some);
    }

pub returns : goal.returns
returns c =
    met_is (splitting c.args.crossing.now.settings.bit) (returns_to c.args.crossing.now.settings) c.args.crossing.now.settings.bit c.args.crossing.now.from c.args.crossing.now.to c.args.y c.args.levels.now.items c.index_mut-before.result.now c.take-reply.new.self c.index_mut-behind.result.now c.returns_to.new.level c.take-reply.result
    c.args.waits.now c.returns_to.new.waits c.requires.from c.requires.to c.requires.can.apart c.index_mut-before.ensures.value c.index_mut-behind.ensures.value
    (subst (λ v. c.args.y < length v.queues) (sym (level_found c.args.levels.now.items c.args.crossing.now.from c.index_mut-before.result.now c.index_mut-before.ensures.value c.requires.from)) (label_there c.args.crossing.now.settings.bit c.args.crossing.now.from c.args.crossing.now.to c.args.levels.now.items c.args.waits.now c.requires.can c.args.y c.requires.there c.requires.some)) c.take-reply.ensures.after c.take-reply.ensures.value c.returns_to.ensures.shape c.port_of-x.result c.port_of-x.ensures c.returns_to.ensures.met c.returns_to.ensures.only
