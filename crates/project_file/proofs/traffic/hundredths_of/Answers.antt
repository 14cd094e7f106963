use Rattle.std.proofs.Common.{◌≡◌, ◌+◌, ◌-◌, suc, true, false, sym, ap, subst, ◌∙◌, arith}
use Rattle.std.specs.Float.{binary64, fin}
use Rattle.std.specs.Float.Ieee.{div, eq, of_bits}
use Rattle.std.specs.Prelude.{pos, Float}
use Rattle.project_file.specs.Traffic.{sought}
use Rattle.project_file.proofs.Shares.{sought_behind, sought_here, sought_nowhere}
use Rattle.project_file.proofs.traffic.hundredths_of.Goals as goal

pub returns-then-from-share : goal.returns-then-from-share
unfolding of_bits
returns-then-from-share c =
    let x = c.args.share in
    let n = c.tried.rate in
    let left : 101 - n ≡ suc (101 - (n + 1)) = omega arith in
    let here = subst (λ (y : Float). eq (div binary64 y (fin false 25 (pos 2))) x ≡ true) c.from.ensures c.if-from-share.true in
    sym (c.tried.invariant ∙ ap (sought x n) left ∙ sought_here x n (101 - (n + 1)) here)

pub tried-preserved : goal.tried-preserved
unfolding of_bits
tried-preserved c =
    let x = c.args.share in
    let n = c.tried.rate in
    let left : 101 - n ≡ suc (101 - (n + 1)) = omega arith in
    let other = subst (λ (y : Float). eq (div binary64 y (fin false 25 (pos 2))) x ≡ false) c.from.ensures c.if-from-share.false in
    c.tried.invariant ∙ ap (sought x n) left ∙ sought_behind x n (101 - (n + 1)) other

pub returns : goal.returns
returns c =
    let x = c.args.share in
    let n = c.tried.rate in
    let done : 101 - n ≡ 0 = omega arith in
    sym (c.tried.invariant ∙ ap (sought x n) done ∙ sought_nowhere x n)
