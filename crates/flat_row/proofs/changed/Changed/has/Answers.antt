use Rattle.std.proofs.Common.{◌≤◌, subst, arith}
use Rattle.omega_net.specs.Numbers.{Exists}
use Rattle.flat_row.proofs.Processing.{label_small}
use Rattle.flat_row.proofs.changed.Changed.has.Goals as goal

pub has-requires : goal.has-requires
has-requires c =
    let few : c.args.shape ≤ 6 = omega (arith, c.k-k.ensures.within, c.k-k.ensures.value) in
    let within = subst (Exists c.args.shape) c.in-Proc.is c.requires in
    omega (arith, c.from.ensures, label_small {p = c.in-Proc.p} few within)

pub has-requires-in-Module : goal.has-requires-in-Module
has-requires-in-Module c =
    let few : c.args.shape ≤ 6 = omega (arith, c.k-k.ensures.within, c.k-k.ensures.value) in
    let within = subst (Exists c.args.shape) c.in-Module.is c.requires in
    omega (arith, c.from-in-Module.ensures, label_small {p = c.in-Module.m} few within)
