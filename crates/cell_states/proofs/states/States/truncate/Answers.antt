use Rattle.std.proofs.Common.{◌∙◌, sym, ap, subst}
use Rattle.cell_states.specs.Sets.{IsWide}
use Rattle.change_rows.specs.Rows.{Table}
use Rattle.cell_states.proofs.Grown.{coded_cut, states_cut}
use Rattle.cell_states.proofs.states.States.truncate.Goals as goal

pub invariant_of-self : goal.invariant_of-self
invariant_of-self g c =
    let i = c.self.inside in (
      coded_cut g.G.Grid.codec i.words c.truncate.new.self i.memories c.truncate-2.new.self c.self.invariant.0 c.args.self.now c.self.view_is c.args.n c.truncate.ensures c.truncate-2.ensures.cut c.truncate-2.ensures.width,
      c.self.invariant.1 ∙ sym (ap (λ (w : Table). w.width) c.truncate.ensures),
      subst (λ n. IsWide n c.self.inside.sets) (sym (ap (λ (w : Table). w.width) c.truncate.ensures)) c.self.invariant.2,
    )

pub returns : goal.returns
returns g c =
    let i = c.self.inside in
    states_cut g.G.Grid.codec i.words c.truncate.new.self i.memories c.truncate-2.new.self c.self.invariant.0 c.args.self.now c.self.view_is c.args.n c.truncate.ensures c.truncate-2.ensures.cut
