use Rattle.std.proofs.Common.{◌≡◌, ◌++◌, None, refl, get_or, take, take_all, codes, subst, ◌∙◌, arith}
use Rattle.std.specs.List.{flat_map}
use Rattle.std.specs.Fmt.{HasWritten}
use Rattle.std.proofs.lemmas.Grind.{put_two}
use Rattle.saturation.proofs.Printing.{part, one_more_part}
use Rattle.saturation.proofs.report.TreeDisplay.fmt.Goals as goal

pub loop-first-init : goal.loop-first-init
loop-first-init g c plain = c.in_ok-write.ensures.writes plain refl

pub loop-first-preserved : goal.loop-first-preserved
loop-first-preserved g c plain =
    let xs = c.as_slice-first-items.result.now in
    let before = c.loop-first.invariant plain in
    let added : HasWritten g.W.Write.write_str_gives c.loop-first.f (part (get_or xs c.loop-first.first-index None)) c.write-in-loop-first.new.self =
    c.in_ok-write-2.ensures.writes before.plain refl in
    put_two g.W.Write.write_str_gives _ _ _ _ _ _ before added
    (one_more_part xs c.loop-first.first-index None c.loop-first-test.true)

pub returns-clause-writes : goal.returns-clause-writes
returns-clause-writes g c plain ok =
    let xs = c.as_slice-first-items.result.now in
    let all : take c.loop-first.first-index xs ≡ xs = take_all c.loop-first.first-index xs (omega arith) in
    subst (λ ys. HasWritten g.W.Write.write_str_gives c.args.f.now (codes "first" ++ flat_map part ys) c.loop-first.f)
    (all ∙ c.as_slice-first-items.ensures.value) (c.loop-first.invariant plain)
