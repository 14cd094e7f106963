use Rattle.std.proofs.Common.{◌∙◌, sym, ap, subst, arith, length}
use Rattle.change_rows.specs.Rows.{Table}
use Rattle.change_lists.specs.Changes.{held_at as memory_at}
use Rattle.cell_states.specs.Sets.{IsWide}
use Rattle.cell_states.proofs.Coded.{seen_width, seen_cycles, coded_err, states_err, many_same}
use Rattle.cell_states.proofs.Changed.{coded_repeated, many_repeated, state_repeated, earlier_kept, later_kept}
use Rattle.cell_states.proofs.states.States.repeat_changed.Goals as goal

pub repeat_changed-requires-clause-within : goal.repeat_changed-requires-clause-within
repeat_changed-requires-clause-within g c =
    let i = c.self.inside in
    omega (arith, c.requires.within, seen_cycles g.G.Grid.codec i.words i.memories c.args.self.now c.self.view_is)

pub repeat_changed-requires-clause-width : goal.repeat_changed-requires-clause-width
repeat_changed-requires-clause-width g c =
    let i = c.self.inside in
    c.requires.width ∙ seen_width g.G.Grid.codec i.words i.memories c.args.self.now c.self.view_is

pub invariant_of-self : goal.invariant_of-self
invariant_of-self g c =
    let i = c.self.inside in
    let C = g.G.Grid.codec in
    let e = c.in-Err.ensures.err in (
      coded_err C i.words c.repeat_changed.new.rows i.memories c.repeat_changed.new.memories c.self.invariant.0 e.0 (λ d u. ap (λ m. memory_at m d u) e.1) (ap length e.1),
      c.self.invariant.1 ∙ sym (ap (λ (w : Table). w.width) e.0),
      subst (λ n. IsWide n c.self.inside.sets) (sym (ap (λ (w : Table). w.width) e.0)) c.self.invariant.2,
    )

pub returns-in-Err-clause-many : goal.returns-in-Err-clause-many
returns-in-Err-clause-many g c =
    let i = c.self.inside in
    let C = g.G.Grid.codec in
    let e = c.in-Err.ensures.err in
    (states_err C i.words c.repeat_changed.new.rows i.memories c.repeat_changed.new.memories c.self.invariant.0 e.0 (λ d u. ap (λ m. memory_at m d u) e.1) c.args.self.now c.self.view_is).many

pub returns-in-Err-clause-err : goal.returns-in-Err-clause-err
returns-in-Err-clause-err g c =
    let i = c.self.inside in
    let C = g.G.Grid.codec in
    let e = c.in-Err.ensures.err in
    states_err C i.words c.repeat_changed.new.rows i.memories c.repeat_changed.new.memories c.self.invariant.0 e.0 (λ d u. ap (λ m. memory_at m d u) e.1) c.args.self.now c.self.view_is

pub returns-then-from-to-clause-many : goal.returns-then-from-to-clause-many
returns-then-from-to-clause-many g c = many_same c.args.self.now

pub invariant_of-self-2 : goal.invariant_of-self-2
invariant_of-self-2 g c =
    let i = c.self.inside in
    let ok = c.in-Ok.ensures.ok in (
      coded_repeated g.G.Grid.codec i.words c.repeat_changed.new.rows i.memories c.repeat_changed.new.memories c.self.invariant.0 c.args.changes.now c.args.from c.args.to ok,
      c.self.invariant.1 ∙ sym ok.cells.width,
      subst (λ n. IsWide n i.sets) (sym ok.cells.width) c.self.invariant.2,
    )

pub returns-clause-many : goal.returns-clause-many
returns-clause-many g c =
    let i = c.self.inside in
    many_repeated g.G.Grid.codec i.words c.repeat_changed.new.rows i.memories c.repeat_changed.new.memories c.self.invariant.0 c.args.changes.now c.args.from c.args.to c.in-Ok.ensures.ok c.args.self.now c.self.view_is

pub returns-clause-repeated : goal.returns-clause-repeated
returns-clause-repeated g c =
    let i = c.self.inside in
    record {
      repeated = state_repeated g.G.Grid.codec i.words c.repeat_changed.new.rows i.memories c.repeat_changed.new.memories c.self.invariant.0 c.args.changes.now c.args.from c.args.to c.in-Ok.ensures.ok c.args.self.now c.self.view_is;
      earlier = earlier_kept g.G.Grid.codec i.words c.repeat_changed.new.rows i.memories c.repeat_changed.new.memories c.self.invariant.0 c.args.changes.now c.args.from c.args.to c.in-Ok.ensures.ok c.args.self.now c.self.view_is;
      later = later_kept g.G.Grid.codec i.words c.repeat_changed.new.rows i.memories c.repeat_changed.new.memories c.self.invariant.0 c.args.changes.now c.args.from c.args.to c.in-Ok.ensures.ok c.args.self.now c.self.view_is;
    }
