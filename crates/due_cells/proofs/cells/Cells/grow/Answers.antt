use Rattle.std.proofs.Common.{◌+◌, ◌++◌, ◌<◌, ◌^◌, ◌∙◌, ap, arith, length, length-append, replicate}
use Rattle.std.proofs.lemmas.List.{length-replicate}
use Rattle.cell_marks.specs.Marked.{Marked}
use Rattle.cell_states.specs.Stated.{state_at}
use Rattle.cell_states.specs.Versions.{lists}
use Rattle.due_cells.proofs.Keeping.{seen_cycles, layout_more, rows_more}
use Rattle.due_cells.proofs.Stated.{bounded_by, same_before, none_behind, stated_more}
use Rattle.due_cells.proofs.cells.Cells.grow.Goals as goal

pub grow-requires : goal.grow-requires
grow-requires g c =
    let i = c.self.inside in
    omega (arith, c.requires.fits, c.self.invariant.0.cycles, seen_cycles (state_at i.states) i.due (lists i.versions.items) c.args.self.now c.self.view_is)

pub grow_due-requires : goal.grow_due-requires
grow_due-requires g c =
    let i = c.self.inside in
    omega (arith, c.requires.fits, seen_cycles (state_at i.states) i.due (lists i.versions.items) c.args.self.now c.self.view_is)

pub invariant_of-self-in-Ok-grow_due : goal.invariant_of-self-in-Ok-grow_due
invariant_of-self-in-Ok-grow_due g c =
    let i = c.self.inside in
    let states1 = c.grow.new.self in
    let due1 = c.grow_due.new.due in
    let m = c.args.m in
    let fits : length i.due.rows + m < 2 ^ 32 = omega (arith, c.requires.fits, seen_cycles (state_at i.states) i.due (lists i.versions.items) c.args.self.now c.self.view_is) in
    let e = c.in-Ok.ensures.ok in
    let de = c.in-Ok-grow_due.ensures.due in
    let versions = c.in-Ok-grow_due.ensures.ok ∙ ap (λ k. (lists i.versions.items) ++ replicate m (replicate k c.args.version)) (omega (arith, c.width-count.ensures, c.self.invariant.0.width)) in
    let cycles = ap (λ (k : Marked). length k.rows) de ∙ length-append i.due.rows _ ∙ ap (λ k. length i.due.rows + k) (length-replicate m _) in (
      stated_more i.states states1 i.due m c.self.invariant.0 e due1 (ap (λ (k : Marked). k.width) de) cycles,
      layout_more (state_at i.states) (state_at states1) i.due due1 (lists i.versions.items) (lists c.grow_due.new.versions.items) c.args.self.now m c.args.version (bounded_by i.states i.due c.self.invariant.0) c.self.invariant.1 c.self.view_is de versions
          (same_before i.states states1 i.due m c.self.invariant.0 e) (none_behind i.states states1 i.due m c.self.invariant.0 e) fits,
    )

pub returns-clause-ok : goal.returns-clause-ok
returns-clause-ok g c =
    let i = c.self.inside in
    let states1 = c.grow.new.self in
    let m = c.args.m in
    let e = c.in-Ok.ensures.ok in
    let de = c.in-Ok-grow_due.ensures.due in
    let versions = c.in-Ok-grow_due.ensures.ok ∙ ap (λ k. (lists i.versions.items) ++ replicate m (replicate k c.args.version)) (omega (arith, c.width-count.ensures, c.self.invariant.0.width)) in
    rows_more (state_at i.states) (state_at states1) i.due c.grow_due.new.due (lists i.versions.items) (lists c.grow_due.new.versions.items) c.args.self.now m c.args.version (bounded_by i.states i.due c.self.invariant.0) c.self.invariant.1 c.self.view_is de versions
    (same_before i.states states1 i.due m c.self.invariant.0 e) (none_behind i.states states1 i.due m c.self.invariant.0 e) c.requires.some
