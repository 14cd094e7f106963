use Rattle.std.proofs.Common.{◌≡◌, ℕ, ◌<◌, ◌*◌, ◌∙◌, sym, ap, subst, arith, length, replicate, false}
use Rattle.smallvec.proofs.SmallVecLemmas.{items-with_items}
use Rattle.cell_marks.specs.Bits.{bit_in, bits_of}
use Rattle.cell_marks.specs.Marked.{count_in}
use Rattle.cell_marks.proofs.Bits.{bits_alike, count_one, length_bits}
use Rattle.cell_marks.proofs.row.Row.clear_all.Goals as goal

pub invariant_of-self : goal.invariant_of-self
invariant_of-self c =
    let i = c.self.inside in
    let ws = c.clear_all_in.new.words in
    let lent = c.deref_mut.ensures.value in
    let len : length ws ≡ length i.words.items = c.clear_all_in.ensures.len ∙ ap length lent in
    let all = items-with_items i.words ws len in
    let bits = subst (λ ys. (k : ℕ) → k < 64 * length ys → bit_in ws k ≡ false) lent c.clear_all_in.ensures.bits in
    let blank = bits_alike ws (length i.words.items) i.len false (omega (arith, c.self.invariant.0)) bits in (
      omega (arith, ap length all, len, c.self.invariant.0),
      omega (arith, ap length all, len, c.self.invariant.1),
      sym (ap (λ ys. count_in (bits_of ys i.len)) all ∙ ap count_in blank ∙ count_one i.len false),
    )

pub returns : goal.returns
returns c =
    let i = c.self.inside in
    let ws = c.clear_all_in.new.words in
    let lent = c.deref_mut.ensures.value in
    let all = items-with_items i.words ws (c.clear_all_in.ensures.len ∙ ap length lent) in
    let bits = subst (λ ys. (k : ℕ) → k < 64 * length ys → bit_in ws k ≡ false) lent c.clear_all_in.ensures.bits in
    let blank = bits_alike ws (length i.words.items) i.len false (omega (arith, c.self.invariant.0)) bits in
    ap (λ ys. bits_of ys i.len) all ∙ blank ∙ ap (λ n. replicate n false) (sym (length_bits i.words.items i.len) ∙ ap length c.self.view_is)
