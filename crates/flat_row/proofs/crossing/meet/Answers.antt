use Rattle.std.proofs.Common.{◌<◌, ◌∙◌, ap, sym, subst, length, arith}
use Rattle.std.specs.Prelude.{IsSome}
use Rattle.comb_switch.specs.CombSwitch.{arrives}
use Rattle.omega_net.specs.Wires.{bit}
use Rattle.omega_net.specs.Queues.{head}
use Rattle.omega_net.specs.Ports.{queue_at}
use Rattle.flat_row.specs.Labels.{port}
use Rattle.flat_row.specs.Row.{combined_of}
use Rattle.flat_row.specs.Combining.{meeting}
use Rattle.flat_row.proofs.Carrying.{port_small, port_bit}
use Rattle.flat_row.proofs.Passing.{level_found, found_behind}
use Rattle.flat_row.proofs.Crossed.{met_is, label_there, ports_there, entry_there}
use Rattle.flat_row.proofs.crossing.meet.Goals as goal

pub port_of-x-requires-clause-by : goal.port_of-x-requires-clause-by
port_of-x-requires-clause-by c = c.requires.can.by

pub take-request-requires-clause-there : goal.take-request-requires-clause-there
take-request-requires-clause-there c = subst (λ v. c.args.y < length v.queues) (sym (level_found c.args.levels.now.items c.args.crossing.now.from c.index_mut-before.result.now c.index_mut-before.ensures.value c.requires.from)) (label_there c.args.crossing.now.settings.bit c.args.crossing.now.from c.args.crossing.now.to c.args.levels.now.items c.args.waits.now c.requires.can c.args.y c.requires.there c.requires.some)

pub take-request-requires-clause-some : goal.take-request-requires-clause-some
take-request-requires-clause-some c = subst (λ v. IsSome (head (queue_at v.queues c.args.y))) (sym (level_found c.args.levels.now.items c.args.crossing.now.from c.index_mut-before.result.now c.index_mut-before.ensures.value c.requires.from)) c.requires.some

pub arrives-requires-clause-port : goal.arrives-requires-clause-port
arrives-requires-clause-port c =
    record {
      by = c.requires.can.by;
      there = subst (λ n. n < 64) (sym c.port_of-x.ensures) (port_small c.args.crossing.now.settings.bit c.args.y 0 c.requires.can.by c.requires.there (omega arith));
      first = ap (bit c.args.crossing.now.settings.bit) c.port_of-x.ensures ∙ port_bit c.args.crossing.now.settings.bit c.args.y 0 c.requires.can.by c.requires.there (omega arith);
    }

pub arrives-requires-clause-places : goal.arrives-requires-clause-places
arrives-requires-clause-places c =
    record {
      ports = λ i h. subst (λ n. port c.args.crossing.now.settings.bit i n < length c.index_mut-behind.result.now.queues) (sym c.port_of-x.ensures) (subst (λ v. port c.args.crossing.now.settings.bit i (port c.args.crossing.now.settings.bit 0 c.args.y) < length v.queues) (sym (found_behind c.args.levels.now.items c.args.crossing.now.from c.args.crossing.now.to c.index_mut-before.result.now c.take-request.new.self c.index_mut-behind.result.now c.index_mut-behind.result.now c.requires.from c.requires.to c.requires.can.apart c.index_mut-before.ensures.value c.index_mut-behind.ensures.value)) (ports_there c.args.crossing.now.settings.bit c.args.crossing.now.from c.args.crossing.now.to c.args.levels.now.items c.args.waits.now c.requires.can c.args.y c.requires.there c.requires.some i h));
      entries = subst (λ n. n < length c.args.waits.now.entries) (sym c.port_of-x.ensures) (entry_there c.args.crossing.now.settings.bit c.args.crossing.now.from c.args.crossing.now.to c.args.levels.now.items c.args.waits.now c.requires.can c.args.y c.requires.there c.requires.some);
    }

pub arrives-requires-clause-few : goal.arrives-requires-clause-few
arrives-requires-clause-few c = subst (λ n. combined_of c.args.waits.now n < 2) (sym c.port_of-x.ensures) c.requires.few

pub returns : goal.returns
returns c =
    met_is (meeting c.args.crossing.now.settings.bit) (arrives c.args.crossing.now.settings) c.args.crossing.now.settings.bit c.args.crossing.now.from c.args.crossing.now.to c.args.y c.args.levels.now.items c.index_mut-before.result.now c.take-request.new.self c.index_mut-behind.result.now c.arrives.new.level c.take-request.result
    c.args.waits.now c.arrives.new.waits c.requires.from c.requires.to c.requires.can.apart c.index_mut-before.ensures.value c.index_mut-behind.ensures.value
    (subst (λ v. c.args.y < length v.queues) (sym (level_found c.args.levels.now.items c.args.crossing.now.from c.index_mut-before.result.now c.index_mut-before.ensures.value c.requires.from)) (label_there c.args.crossing.now.settings.bit c.args.crossing.now.from c.args.crossing.now.to c.args.levels.now.items c.args.waits.now c.requires.can c.args.y c.requires.there c.requires.some)) c.take-request.ensures.after c.take-request.ensures.value c.arrives.ensures.shape c.port_of-x.result c.port_of-x.ensures c.arrives.ensures.met c.arrives.ensures.only
