use Rattle.std.proofs.Common.{◌≡◌, ◌≤◌, ◌*◌, ◌^◌, ◌%◌, arith}
use Rattle.std.proofs.lemmas.Nat.{one_shl}
use Rattle.flat_row.proofs.Staying.{ports_within, ports_small}
use Rattle.flat_row.proofs.read.ports.Goals as goal

pub returns-clause-within : goal.returns-clause-within
returns-clause-within c =
    let few : c.args.shape ≤ 6 = omega (arith, c.k-k.ensures.within, c.k-k.ensures.value) in
    let whole : 1 * 2 ^ c.deciding_bit.result % 2 ^ 32 ≡ 2 ^ c.deciding_bit.result = one_shl c.deciding_bit.result 32 (omega (arith, few, c.deciding_bit.ensures)) in
    ports_within c.args.shape c.args.stage c.args.index c.label_of-x.result c.deciding_bit.result _ c.requires.stage c.requires.index c.label_of-x.ensures.value c.label_of-x.ensures.within c.deciding_bit.ensures whole

pub returns-clause-small : goal.returns-clause-small
returns-clause-small c =
    let few : c.args.shape ≤ 6 = omega (arith, c.k-k.ensures.within, c.k-k.ensures.value) in
    let whole : 1 * 2 ^ c.deciding_bit.result % 2 ^ 32 ≡ 2 ^ c.deciding_bit.result = one_shl c.deciding_bit.result 32 (omega (arith, few, c.deciding_bit.ensures)) in
    ports_small c.args.shape few c.args.stage c.args.index c.label_of-x.result c.deciding_bit.result _ c.requires.stage c.requires.index c.label_of-x.ensures.value c.label_of-x.ensures.within c.deciding_bit.ensures whole
