use Rattle.std.proofs.Common.{◌<◌, ◌^◌}
use Rattle.std.specs.Int.Bits.{bit_or}
use Rattle.std.proofs.lemmas.Bool.{le-leb, leb-true}
use Rattle.std.proofs.lemmas.Nat.{or_lt, xor_lt}
use Rattle.cell_marks.proofs.Unions.{unlike, union_below, union_up_to}
use Rattle.cell_marks.proofs.word.is_union.Goals as goal

pub returns : goal.returns
returns c =
    let a = c.args.one in
    let b = c.args.other in
    let w = c.args.union in
    let small : unlike a b w < 2 ^ 64 = xor_lt 64 (bit_or a b) w (or_lt 64 a b c.ranges.one.fits c.ranges.other.fits) c.ranges.union.fits in (
      λ yes. union_below a b w c.args.n small (leb-true _ _ yes),
      λ each. le-leb _ _ (union_up_to a b w c.args.n small c.requires each),
    )
