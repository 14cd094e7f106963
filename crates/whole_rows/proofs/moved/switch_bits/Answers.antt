use Rattle.std.proofs.Common.{◌≡◌, ◌^◌, ◌<◌, ap, w64, arith}
use Rattle.std.specs.Prelude.{◌==◌}
use Rattle.std.proofs.lemmas.Nat.Bits.{bit_at-trailing_zeros}
use Rattle.whole_rows.proofs.Placing.{stages_few}
use Rattle.whole_rows.proofs.Switching.{less_left, none_left, one_less}
use Rattle.whole_rows.proofs.moved.switch_bits.Goals as goal

pub loop-rest-smaller : goal.loop-rest-smaller
loop-rest-smaller c =
    let some : 0 < c.loop-rest.rest = omega (arith, c.loop-rest-test.true) in
    let fits : c.loop-rest.rest < 2 ^ 64 = omega (arith, c.loop-rest.auto.rest-fits) in
    let z = bit_at-trailing_zeros w64 c.loop-rest.rest some fits in
    less_left c.loop-rest.rest _ z.0 z.1

pub loop-rest-preserved : goal.loop-rest-preserved
loop-rest-preserved c =
    let some : 0 < c.loop-rest.rest = omega (arith, c.loop-rest-test.true) in
    let fits : c.loop-rest.rest < 2 ^ 64 = omega (arith, c.loop-rest.auto.rest-fits) in
    let z = bit_at-trailing_zeros w64 c.loop-rest.rest some fits in
    one_less c.args.shape c.args.stage c.args.set c.loop-rest.bits c.loop-rest.rest _ c.switch_bit-bits.result (stages_few c.args.shape c.switch_bit-bits.ensures.few) c.requires z.0 (ap (λ b. b == 1) z.1)
    c.switch_bit-bits.ensures.bits c.loop-rest.invariant

pub returns : goal.returns
returns c =
    let none : c.loop-rest.rest ≡ 0 = omega (arith, c.loop-rest-test.false) in
    none_left c.args.shape c.args.stage c.args.set c.loop-rest.bits c.loop-rest.rest none c.loop-rest.invariant
