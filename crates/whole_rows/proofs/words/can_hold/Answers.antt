use Rattle.std.proofs.Common.{◌≡◌, sym, subst, arith}
use Rattle.omega_net.specs.declared.component.Component.{Component}
use Rattle.omega_net.specs.declared.component.Component.TheVariants.{Switch}
use Rattle.omega_net.specs.declared.component.Net.TheVariants.{Low as LowNet, Comb as CombNet}
use Rattle.flat_row.specs.Loading.{CanHold}
use Rattle.whole_rows.proofs.Fitting.{holds_low, holds_comb}
use Rattle.whole_rows.proofs.words.can_hold.Goals as goal

pub returns-then-head-eq2 : goal.returns-then-head-eq2
returns-then-head-eq2 c = λ yes x told words.
    let at = c.in-Switch-Low-default-default in
    let it : c.args.component ≡ Switch LowNet at.stage at.index = grind (arith, at.is, at.net-is) in
    subst (λ (d : Component). CanHold d x) (sym it) (holds_low c.args.words.now c.head_in-head.result c.head_in-head.ensures x told words at.stage at.index c.if-head-eq2.true (c.are_low_turns.ensures yes))

pub returns-then-head-eq3 : goal.returns-then-head-eq3
returns-then-head-eq3 c = λ yes x told words.
    let at = c.in-Switch-Comb-default-default in
    let it : c.args.component ≡ Switch CombNet at.stage at.index = grind (arith, at.is, at.net-is) in
    subst (λ (d : Component). CanHold d x) (sym it) (holds_comb c.args.words.now c.head_in-head.result c.head_in-head.ensures x told words at.stage at.index c.if-head-eq3.true (c.are_comb_turns.ensures yes))
