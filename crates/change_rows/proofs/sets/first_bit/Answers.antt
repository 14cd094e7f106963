use lib.Bits.{and_le_l}
use Rattle.std.proofs.Common.{◌<◌, ◌^◌, ◌*◌, ◌%◌, w64, arith}
use Rattle.std.proofs.lemmas.Nat.Bits.{bit_at-trailing_zeros}
use Rattle.change_rows.proofs.FirstBit.{masked, none_from, first_from}
use Rattle.change_rows.proofs.sets.first_bit.Goals as goal

pub returns-then-rest-eq0 : goal.returns-then-rest-eq0
returns-then-rest-eq0 c = none_from c.args.word c.args.from c.requires c.if-rest-eq0.true

pub returns-else-rest-eq0 : goal.returns-else-rest-eq0
returns-else-rest-eq0 c =
    let m = masked c.args.word c.args.from in
    let fits : m < 2 ^ 64 = omega (arith, and_le_l c.args.word (18446744073709551615 * 2 ^ c.args.from % 18446744073709551616)) in
    let some : 0 < m = omega (arith, c.if-rest-eq0.false) in
    let z = bit_at-trailing_zeros w64 m some fits in
    first_from c.args.word c.args.from _ c.requires z.0 z.1 z.2
