use Rattle.std.proofs.Common.{◌≡◌, ◌∙◌, ap, sym, arith}
use Rattle.std.specs.Option.{option_copied}
use Rattle.omega_net.specs.Numbers.{component_of}
use Rattle.machine_cells.proofs.Agreeing.{agreeing_later, agreeing_start}
use Rattle.machine_cells.proofs.grid.Rp3Grid.agree.Goals as goal

pub returns-in-Some : goal.returns-in-Some
returns-in-Some c =
    let k : c.args.a.now.k ≡ c.args.b.now.k = omega arith in
    let is = ap (λ n. component_of n c.args.c) (sym c.shape.ensures) ∙ c.component_at-component.ensures.is in
    let first = sym c.state_at.ensures ∙ ap option_copied c.in-Some.is in
    agreeing_later _ _ _ c.args.c c.component_at-component.result c.in-Some.own.now c.agree_later.result k is first c.agree_later.ensures

pub returns-in-None : goal.returns-in-None
returns-in-None c =
    let k : c.args.a.now.k ≡ c.args.b.now.k = omega arith in
    let is = ap (λ n. component_of n c.args.c) (sym c.shape.ensures) ∙ c.component_at-component.ensures.is in
    let first = sym c.state_at.ensures ∙ ap option_copied c.in-None.is in
    agreeing_start _ _ _ c.args.c c.component_at-component.result c.agree_start.result k is first c.agree_start.ensures
