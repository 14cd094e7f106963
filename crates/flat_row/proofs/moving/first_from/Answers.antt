use lib.Bits.{and_le_l}
use Rattle.std.proofs.Common.{◌<◌, ◌^◌, ◌*◌, ◌%◌, w64, arith}
use Rattle.std.proofs.lemmas.Nat.Bits.{bit_at-trailing_zeros}
use Rattle.flat_row.proofs.FirstBit.{masked, none_from, first_at, passed_by}
use Rattle.flat_row.proofs.moving.first_from.Goals as goal

pub returns-then-rest-eq0-clause-passed : goal.returns-then-rest-eq0-clause-passed
returns-then-rest-eq0-clause-passed c = none_from c.args.set c.args.from (omega (arith, c.if-from-ge64.false)) c.if-rest-eq0.true

pub returns-else-rest-eq0-clause-there : goal.returns-else-rest-eq0-clause-there
returns-else-rest-eq0-clause-there c =
    let m = masked c.args.set c.args.from in
    let fits : m < 2 ^ 64 = omega (arith, and_le_l c.args.set (18446744073709551615 * 2 ^ c.args.from % 18446744073709551616)) in
    let some : 0 < m = omega (arith, c.if-rest-eq0.false) in
    let z = bit_at-trailing_zeros w64 m some fits in
    first_at c.args.set c.args.from _ (omega (arith, c.if-from-ge64.false)) z.0 z.1

pub returns-else-rest-eq0-clause-passed : goal.returns-else-rest-eq0-clause-passed
returns-else-rest-eq0-clause-passed c =
    let m = masked c.args.set c.args.from in
    let fits : m < 2 ^ 64 = omega (arith, and_le_l c.args.set (18446744073709551615 * 2 ^ c.args.from % 18446744073709551616)) in
    let some : 0 < m = omega (arith, c.if-rest-eq0.false) in
    let z = bit_at-trailing_zeros w64 m some fits in
    passed_by c.args.set c.args.from _ (omega (arith, c.if-from-ge64.false)) z.0 z.2
