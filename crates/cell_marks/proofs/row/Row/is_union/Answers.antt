use Rattle.std.proofs.Common.{◌≡◌, ◌∙◌, ap, length, arith}
use Rattle.cell_marks.specs.Bits.{bits_of}
use Rattle.cell_marks.proofs.Unions.{len_of, shown, union_of_rows, union_of_words}
use Rattle.cell_marks.proofs.row.Row.is_union.Goals as goal

pub is_union_in-requires-clause-one : goal.is_union_in-requires-clause-one
is_union_in-requires-clause-one c =
    let len = len_of c.self.inside.words.items c.self.inside.len c.args.self.now c.self.view_is in
    let one = len_of c.one.inside.words.items c.one.inside.len c.args.one.now c.one.view_is in
    omega (arith, len, one, c.requires.one, c.one.invariant.0, ap length c.deref.ensures)

pub is_union_in-requires-clause-other : goal.is_union_in-requires-clause-other
is_union_in-requires-clause-other c =
    let len = len_of c.self.inside.words.items c.self.inside.len c.args.self.now c.self.view_is in
    let other = len_of c.other.inside.words.items c.other.inside.len c.args.other.now c.other.view_is in
    omega (arith, len, other, c.requires.other, c.other.invariant.0, ap length c.deref-2.ensures)

pub returns : goal.returns
returns c =
    let n = c.self.inside.len in
    let xs = c.deref.result.now in
    let ys = c.deref-2.result.now in
    let zs = c.deref-3.result.now in
    let a = c.args.one.now in
    let b = c.args.other.now in
    let w = c.args.self.now in
    let len = len_of c.self.inside.words.items n w c.self.view_is in
    let one : n ≡ c.one.inside.len = omega (arith, len, len_of c.one.inside.words.items c.one.inside.len a c.one.view_is, c.requires.one) in
    let other : n ≡ c.other.inside.len = omega (arith, len, len_of c.other.inside.words.items c.other.inside.len b c.other.view_is, c.requires.other) in
    let ea : bits_of xs n ≡ a = shown c.one.inside.words.items xs c.one.inside.len n a c.deref.ensures one c.one.view_is in
    let eb : bits_of ys n ≡ b = shown c.other.inside.words.items ys c.other.inside.len n b c.deref-2.ensures other c.other.view_is in
    let ew : bits_of zs n ≡ w = ap (λ ws. bits_of ws n) c.deref-3.ensures ∙ c.self.view_is in (
      λ yes. union_of_rows xs ys zs n a b w ea eb ew (c.is_union_in.ensures.0 yes),
      λ each. c.is_union_in.ensures.1 (union_of_words xs ys zs n a b w ea eb ew each),
    )
