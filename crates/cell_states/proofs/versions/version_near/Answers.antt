use Rattle.std.proofs.Common.{◌≡◌, ◌+◌, ◌-◌, ◌<◌, ◌∙◌, sym, ap, arith, take}
use Rattle.cell_marks.specs.Marked.{count_in}
use Rattle.cell_states.proofs.Since.{version_unseen, version_last}
use Rattle.cell_states.proofs.versions.version_near.Goals as goal

pub returns-then-last-eq0 : goal.returns-then-last-eq0
returns-then-last-eq0 c =
    sym (version_unseen c.args.changes.now c.args.near.now c.args.clock c.args.own _ (λ k h. c.last_marked-last.ensures.behind k (omega (arith, h, c.if-last-eq0.true))))

pub returns : goal.returns
returns c =
    let last = c.last_marked-last.result in
    let e = c.last_marked-last.ensures in
    let some : 0 < last = omega (arith, c.if-last-eq0.false) in
    let one : last - 1 + 1 ≡ last = omega (arith, some) in
    ap (λ k. c.args.clock + k) (c.from.ensures ∙ c.count_to.ensures ∙ ap (λ k. count_in (take k c.args.changes.now)) (sym one))
    ∙ sym (version_last c.args.changes.now c.args.near.now c.args.clock c.args.own (last - 1) _ (omega (arith, some, e.within)) (omega arith) (e.last some) (λ k h. e.behind k (omega (arith, h, one))))
