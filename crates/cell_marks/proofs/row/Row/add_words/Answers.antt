use Rattle.std.proofs.Common.{◌≡◌, ◌∙◌, ap, sym, arith, length}
use Rattle.smallvec.proofs.SmallVecLemmas.{items-with_items}
use Rattle.cell_marks.specs.Bits.{bits_of}
use Rattle.cell_marks.specs.Marked.{union}
use Rattle.cell_marks.proofs.Unions.{len_of}
use Rattle.cell_marks.proofs.row.Row.add_words.Goals as goal

pub add_in-more-requires-clause-other : goal.add_in-more-requires-clause-other
add_in-more-requires-clause-other c =
    let mine = len_of c.self.inside.words.items c.self.inside.len c.args.self.now c.self.view_is in
    omega (arith, mine, c.requires)

pub returns : goal.returns
returns c =
    let n = c.self.inside.len in
    let ws = c.add_in-more.new.words in
    let a = c.args.self.now in
    let lent = c.deref_mut.ensures.value in
    let mine = len_of c.self.inside.words.items n a c.self.view_is in
    let ea : bits_of c.deref_mut.result.now n ≡ a = ap (λ ys. bits_of ys n) lent ∙ c.self.view_is in
    ap (λ ys. bits_of ys n) (items-with_items c.self.inside.words ws (c.add_in-more.ensures.len ∙ ap length lent))
    ∙ c.add_in-more.ensures.bits
    ∙ ap (λ r. union r (bits_of c.args.words.now n)) ea
    ∙ ap (λ m. union a (bits_of c.args.words.now m)) (sym mine)
