use Rattle.std.proofs.Common.{◌≡◌, ℕ, ◌<◌, ◌-◌, ◌∙◌, sym, ap, subst, arith}
use Rattle.grid_law.specs.Run.{run}
use Rattle.change_rows.specs.Rows.{Table}
use Rattle.cell_states.specs.Sets.{IsWide}
use Rattle.cell_states.proofs.Coded.{seen_width, seen_cycles, seen_at, coded_err, states_err}
use Rattle.cell_states.proofs.Next.{holds_run}
use Rattle.cell_states.proofs.PutRow.{coded_row, states_put}
use Rattle.cell_states.proofs.states.States.put_each.Goals as goal

pub put_each-requires-clause-at : goal.put_each-requires-clause-at
put_each-requires-clause-at g c =
    let i = c.self.inside in
    record {
      later = c.requires.at.later;
      within = omega (arith, c.requires.at.within, seen_cycles g.G.Grid.codec i.words i.memories c.args.self.now c.self.view_is);
      wide = c.requires.at.wide ∙ seen_width g.G.Grid.codec i.words i.memories c.args.self.now c.self.view_is;
      components = c.requires.at.components;
    }

pub put_each-requires-clause-each : goal.put_each-requires-clause-each
put_each-requires-clause-each g c =
    let i = c.self.inside in
    let wide : i.words.width ≡ g.G.Grid.rules.components c.args.slots.now = sym (c.requires.at.wide ∙ seen_width g.G.Grid.codec i.words i.memories c.args.self.now c.self.view_is) ∙ c.requires.at.components in
    record {
      each = record {
        lists = c.self.invariant.0.many ∙ wide;
        places = c.self.invariant.1 ∙ wide;
        marked = c.requires.marks.marks ∙ c.requires.at.components;
      };
      other = c.requires.marks.others ∙ c.requires.at.components;
    }

pub put_each-requires-clause-run : goal.put_each-requires-clause-run
put_each-requires-clause-run g c =
    let i = c.self.inside in
    let C = g.G.Grid.codec in
    let R = g.G.Grid.rules in
    let s = c.args.slots.now in
    let later = c.requires.at.later in
    let at = λ (u : ℕ) (k : u < c.args.cycle). holds_run R C g.G.Grid.codec_laws s i.words.rows i.memories u (c.self.invariant.0.codes u) (λ d h. sym (seen_at C i.words i.memories c.args.self.now c.self.view_is c.self.invariant.0.whole u d) ∙ c.requires.before u d k (subst (λ n. d < n) (sym c.requires.at.components) h)) in
    record {
      later = later;
      before = at (c.args.cycle - 1) (omega (arith, later));
      earlier = λ more. at (c.args.cycle - 1 - 1) (omega (arith, more));
    }

pub invariant_of-self : goal.invariant_of-self
invariant_of-self g c =
    let i = c.self.inside in
    let e = c.in-Err.ensures.err in
    let each = c.put_each.ensures.each.each in
    let wide : i.words.width ≡ g.G.Grid.rules.components c.args.slots.now = sym (c.requires.at.wide ∙ seen_width g.G.Grid.codec i.words i.memories c.args.self.now c.self.view_is) ∙ c.requires.at.components in
    let same : c.put_each.new.rows.width ≡ i.words.width = ap (λ (w : Table). w.width) e.0 in (
      coded_err g.G.Grid.codec i.words c.put_each.new.rows i.memories c.put_each.new.memories c.self.invariant.0 e.0 e.1 (each.lists ∙ sym wide ∙ sym c.self.invariant.0.many),
      each.places ∙ sym wide ∙ sym same,
      subst (λ n. IsWide n i.sets) (sym same) c.self.invariant.2,
    )

pub returns-in-Err-clause-marks : goal.returns-in-Err-clause-marks
returns-in-Err-clause-marks g c =
    let e = c.put_each.ensures.each in
    record {
      marks = e.each.marked ∙ sym c.requires.at.components;
      others = e.other ∙ sym c.requires.at.components;
    }

pub returns-in-Err-clause-err : goal.returns-in-Err-clause-err
returns-in-Err-clause-err g c =
    let i = c.self.inside in
    let e = c.in-Err.ensures.err in
    states_err g.G.Grid.codec i.words c.put_each.new.rows i.memories c.put_each.new.memories c.self.invariant.0 e.0 e.1 c.args.self.now c.self.view_is

pub invariant_of-self-2 : goal.invariant_of-self-2
invariant_of-self-2 g c =
    let i = c.self.inside in
    let put = c.in-Ok.ensures.put in
    let each = c.put_each.ensures.each.each in
    let wide : i.words.width ≡ g.G.Grid.rules.components c.args.slots.now = sym (c.requires.at.wide ∙ seen_width g.G.Grid.codec i.words i.memories c.args.self.now c.self.view_is) ∙ c.requires.at.components in
    let same : c.put_each.new.rows.width ≡ i.words.width = put.words.cells.width in (
      coded_row g.G.Grid.codec g.G.Grid.codec_laws i.words c.put_each.new.rows i.memories c.put_each.new.memories c.self.invariant.0 (each.lists ∙ sym wide ∙ sym c.self.invariant.0.many) c.args.cycle c.args.set.now c.put_each.new.changes c.put_each.new.worded (run g.G.Grid.rules c.args.slots.now c.args.cycle) put,
      each.places ∙ sym wide ∙ sym same,
      subst (λ n. IsWide n i.sets) (sym same) c.self.invariant.2,
    )

pub returns-clause-marks : goal.returns-clause-marks
returns-clause-marks g c =
    let e = c.put_each.ensures.each in
    record {
      marks = e.each.marked ∙ sym c.requires.at.components;
      others = e.other ∙ sym c.requires.at.components;
    }

pub returns-clause-put : goal.returns-clause-put
returns-clause-put g c =
    let i = c.self.inside in
    let each = c.put_each.ensures.each.each in
    let wide : i.words.width ≡ g.G.Grid.rules.components c.args.slots.now = sym (c.requires.at.wide ∙ seen_width g.G.Grid.codec i.words i.memories c.args.self.now c.self.view_is) ∙ c.requires.at.components in
    states_put g.G.Grid.codec g.G.Grid.codec_laws i.words c.put_each.new.rows i.memories c.put_each.new.memories c.self.invariant.0 (each.lists ∙ sym wide ∙ sym c.self.invariant.0.many) c.args.cycle c.args.set.now c.put_each.new.changes c.put_each.new.worded (run g.G.Grid.rules c.args.slots.now c.args.cycle) c.in-Ok.ensures.put c.args.self.now c.self.view_is
