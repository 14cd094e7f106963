use Rattle.std.proofs.Common.{◌<◌, sym, subst}
use Rattle.flat_row.specs.Labels.{port}
use Rattle.flat_row.proofs.Carrying.{port_small}
use Rattle.flat_row.proofs.next.beside.arrive.Goals as goal

pub arrives-requires-clause-places : goal.arrives-requires-clause-places
arrives-requires-clause-places c =
    record {
      ports = λ i h. subst (λ n. port c.args.settings.now.bit i c.args.x < n) (sym c.requires.all) (port_small c.args.settings.now.bit c.args.x i c.requires.port.by c.requires.port.there h);
      entries = subst (λ n. c.args.x < n) (sym c.requires.entries) c.requires.port.there;
    }
