use Rattle.std.proofs.Common.{◌++◌, ◌∙◌, sym, ap, subst, replicate, []}
use Rattle.change_rows.specs.Rows.{Table}
use Rattle.cell_states.specs.Sets.{IsWide}
use Rattle.cell_states.proofs.Grown.{coded_new, states_new}
use Rattle.cell_states.proofs.states.States.new.Goals as goal

pub invariant_of-result : goal.invariant_of-result
invariant_of-result g c =
    let e = c.in_ok-grow.ensures ∙ ap (λ (w : Table). record { width = w.width; rows = w.rows ++ replicate c.args.cycles (replicate w.width []) }) c.in_ok-words.ensures in (
      coded_new g.G.Grid.codec c.grow.new.self c.in_ok-memories.memories c.args.count c.args.cycles e c.in_ok-memories.ensures.width,
      c.in_ok-ready.ensures ∙ sym (ap (λ (w : Table). w.width) e),
      subst (λ n. IsWide n c.in_ok-sets.sets) (sym (ap (λ (w : Table). w.width) e)) c.in_ok-sets.ensures,
    )

pub returns : goal.returns
returns g c =
    let e = c.in_ok-grow.ensures ∙ ap (λ (w : Table). record { width = w.width; rows = w.rows ++ replicate c.args.cycles (replicate w.width []) }) c.in_ok-words.ensures in
    states_new g.G.Grid.codec c.grow.new.self c.in_ok-memories.memories c.args.count c.args.cycles e
