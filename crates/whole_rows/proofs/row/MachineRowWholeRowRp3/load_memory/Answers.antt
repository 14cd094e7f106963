use Rattle.std.proofs.Common.{◌≡◌, ℕ, ◌∙◌, ap, sym, subst, arith}
use Rattle.omega_net.specs.declared.component.Component.{Component}
use Rattle.omega_net.specs.declared.component.Component.TheVariants.{Module as ModuleAt}
use Rattle.omega_net.specs.Numbers.{number_of}
use Rattle.flat_row.specs.Row.{Arrays}
use Rattle.flat_row.specs.Loading.{OnlyState}
use Rattle.whole_rows.proofs.Loading.{others_hold}
use Rattle.whole_rows.proofs.row.MachineRowWholeRowRp3.load_memory.Goals as goal

pub returns-in-Module-clause-others : goal.returns-in-Module-clause-others
returns-in-Module-clause-others c =
    let x = c.component.result in
    let N = c.put_memory.new.row in
    let it : x ≡ ModuleAt c.from.result = grind (arith, c.in-Module.is, c.from.ensures) in
    let only : OnlyState x c.args.self.now N = subst (λ (r : Arrays). OnlyState x r N) c.self.view_is (subst (λ (d : Component). OnlyState d c.self.inside.row N) (sym it) c.put_memory.ensures.only) in
    others_hold c.args.s.now c.args.self.now N x c.args.c c.requires.stands (only.size ∙ c.requires.stands.size)
    (ap (λ (k : ℕ). number_of k x) (sym c.requires.stands.size) ∙ c.component.ensures.number) only.others
