use Rattle.std.specs.Option.{option_copied}
use Rattle.monitor_sums.proofs.Standing.{stands_changed}
use Rattle.monitor_sums.proofs.sums.Sums.change.Goals as goal

pub returns-clause-stands : goal.returns-clause-stands
returns-clause-stands c = λ at stands.
    stands_changed c.args.self.now c.put.new.self c.args.cycle c.args.component c.of.result (option_copied c.args.new) at
    c.put.ensures.shape c.put.ensures.last c.of.ensures.value c.put.ensures.each stands
