use Rattle.std.proofs.Common.{◌∙◌, ap, sym, arith}
use Rattle.omega_net.specs.Numbers.{lines}
use Rattle.flat_row.specs.Masks.{has}
use Rattle.flat_row.specs.Ends.{acted, got_at, shown_with}
use Rattle.flat_row.proofs.Processing.{none_acted, none_there, one_acted, all_acted, label_small, not_true}
use Rattle.flat_row.proofs.acting.act_all.Goals as goal
use Rattle.flat_row.proofs.acting.act_all.Goals.{then-p-lines, else-p-lines}

pub loop-p-init : goal.loop-p-init
loop-p-init c = record {
  within = omega arith;
  partly = none_acted c.args.project.now c.args.low_got.now c.args.comb_got.now c.args.active c.args.procs.now.items c.args.low.now c.args.comb.now c.requires.others c.requires.one c.not_in-rests.result (λ p small so. not_true (has c.args.active p) (sym (c.not_in-rests.ensures p small) ∙ so));
}

pub of-requires : goal.of-requires
of-requires c = c.in-Some.ensures.there.1

pub of-requires-then-p-lines : goal.of-requires-then-p-lines
of-requires-then-p-lines c = c.in-Some.ensures.there.1

pub act-stays-requires-clause-there : goal.act-stays-requires-clause-there
act-stays-requires-clause-there c =
    let size = c.lines-lines.ensures.value ∙ ap lines c.shape.ensures in
    omega (arith, c.if-p-lines.true, size)

pub act-stays-requires-clause-procs : goal.act-stays-requires-clause-procs
act-stays-requires-clause-procs c =
    record {
      many = c.loop-p.invariant.partly.many ∙ c.requires.procs.many;
      low_many = c.loop-p.invariant.partly.low_same.many ∙ c.requires.procs.low_many;
      comb_many = c.loop-p.invariant.partly.comb_same.many ∙ c.requires.procs.comb_many;
    }

pub act-stays-requires-clause-one : goal.act-stays-requires-clause-one
act-stays-requires-clause-one c = c.loop-p.invariant.partly.one c.in-Some.p

pub with_mark-rests-requires : goal.with_mark-rests-requires
with_mark-rests-requires c = c.in-Some.ensures.there.1

pub with_mark-rests-requires-else-p-lines : goal.with_mark-rests-requires-else-p-lines
with_mark-rests-requires-else-p-lines c = c.in-Some.ensures.there.1

pub loop-p-smaller : goal.loop-p-smaller
loop-p-smaller c = omega (arith, c.in-Some.ensures.there.0, c.in-Some.ensures.there.1)

pub loop-p-preserved : goal.loop-p-preserved
loop-p-preserved c = record {
  within = omega (arith, c.in-Some.ensures.there.1);
  partly = elim c.if-p-lines.branch [
    | then-p-lines w ↦ rw (w.procs-is, w.low-is, w.comb-is, w.rests-is)
        (one_acted c.args.project.now c.args.low_got.now c.args.comb_got.now c.args.active c.args.procs.now.items c.args.low.now c.args.comb.now c.requires.others
        c.loop-p.next c.loop-p.rests c.loop-p.procs.items c.loop-p.low c.loop-p.comb c.loop-p.invariant.partly
        c.in-Some.p c.in-Some.ensures.there.1 c.in-Some.ensures.there.0 c.in-Some.ensures.passed
        w.act-stays.new.procs.items w.act-stays.new.low w.act-stays.new.comb w.with_mark-rests.result w.act-stays.result
        w.act-stays.ensures.only.many w.act-stays.ensures.only.shown.low_same w.act-stays.ensures.only.shown.comb_same w.act-stays.ensures.one
        (w.act-stays.ensures.acted
        ∙ ap (λ y. acted c.args.project.now c.in-Some.p y w.of-then-p-lines.result (shown_with c.loop-p.procs.items c.loop-p.low c.loop-p.comb c.in-Some.p)) w.of.ensures
        ∙ ap (λ y. acted c.args.project.now c.in-Some.p (got_at c.args.low_got.now c.in-Some.p) y (shown_with c.loop-p.procs.items c.loop-p.low c.loop-p.comb c.in-Some.p)) w.of-then-p-lines.ensures)
        w.act-stays.ensures.stay w.act-stays.ensures.rest w.act-stays.ensures.only.others w.act-stays.ensures.only.shown.low_others w.act-stays.ensures.only.shown.comb_others w.with_mark-rests.ensures)
    | else-p-lines w ↦ rw (w.procs-is, w.low-is, w.comb-is, w.rests-is)
        (none_there c.args.project.now c.args.low_got.now c.args.comb_got.now c.args.active c.args.procs.now.items c.args.low.now c.args.comb.now c.requires.others
        c.loop-p.next c.loop-p.rests c.loop-p.procs.items c.loop-p.low c.loop-p.comb c.loop-p.invariant.partly
        c.in-Some.p c.in-Some.ensures.there.1 c.in-Some.ensures.there.0 c.in-Some.ensures.passed
        (let size = c.lines-lines.ensures.value ∙ ap lines c.shape.ensures in omega (arith, w.if-p-lines.false, size)) w.with_mark-rests-else-p-lines.result w.with_mark-rests-else-p-lines.ensures)
  ];
}

pub returns-clause-same : goal.returns-clause-same
returns-clause-same c = record { many = c.loop-p.invariant.partly.many; low_same = c.loop-p.invariant.partly.low_same; comb_same = c.loop-p.invariant.partly.comb_same }

pub returns-clause-one : goal.returns-clause-one
returns-clause-one c = c.loop-p.invariant.partly.one

pub returns-clause-acted : goal.returns-clause-acted
returns-clause-acted c = all_acted c.args.project.now c.args.low_got.now c.args.comb_got.now c.args.active c.args.procs.now.items c.args.low.now c.args.comb.now c.requires.others
    c.loop-p.next c.loop-p.rests c.loop-p.procs.items c.loop-p.low c.loop-p.comb c.loop-p.invariant.partly c.in_default.ensures.passed c.is_project.ensures.project.small

pub returns-clause-stay : goal.returns-clause-stay
returns-clause-stay c = λ p within so. c.loop-p.invariant.partly.stay p (label_small c.is_project.ensures.project.small within) within so

pub returns-clause-rest : goal.returns-clause-rest
returns-clause-rest c = λ p within so. c.loop-p.invariant.partly.rest p (label_small c.is_project.ensures.project.small within) within so
