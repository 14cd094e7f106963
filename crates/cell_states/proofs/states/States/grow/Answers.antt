use Rattle.std.proofs.Common.{◌∙◌, sym, ap, arith, subst}
use Rattle.cell_states.specs.Sets.{IsWide}
use Rattle.change_rows.specs.Rows.{Table}
use Rattle.cell_states.proofs.Coded.{seen_cycles}
use Rattle.cell_states.proofs.Grown.{coded_more, states_more}
use Rattle.cell_states.proofs.states.States.grow.Goals as goal

pub grow-requires : goal.grow-requires
grow-requires g c =
    let i = c.self.inside in
    omega (arith, c.requires.fits, seen_cycles g.G.Grid.codec i.words i.memories c.args.self.now c.self.view_is)

pub invariant_of-self-2 : goal.invariant_of-self-2
invariant_of-self-2 g c =
    let i = c.self.inside in (
      coded_more g.G.Grid.codec i.words c.grow.new.self i.memories i.memories c.self.invariant.0 c.args.self.now c.self.view_is c.args.m c.in-Ok.ensures,
      c.self.invariant.1 ∙ sym (ap (λ (w : Table). w.width) c.in-Ok.ensures),
      subst (λ n. IsWide n c.self.inside.sets) (sym (ap (λ (w : Table). w.width) c.in-Ok.ensures)) c.self.invariant.2,
    )

pub returns-clause-ok : goal.returns-clause-ok
returns-clause-ok g c =
    let i = c.self.inside in
    states_more g.G.Grid.codec i.words c.grow.new.self i.memories i.memories c.self.invariant.0 c.args.self.now c.self.view_is c.args.m c.in-Ok.ensures
