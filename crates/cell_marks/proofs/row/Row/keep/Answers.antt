use Rattle.std.proofs.Common.{◌≡◌, ◌∙◌, ◌&&◌, ap, sym, arith, length}
use Rattle.smallvec.proofs.SmallVecLemmas.{items-with_items}
use Rattle.cell_marks.specs.Bits.{bit_in, bits_of}
use Rattle.cell_marks.specs.Marked.{is_set, count_in}
use Rattle.cell_marks.proofs.Bits.{at_bits}
use Rattle.cell_marks.proofs.Unions.{len_of, bit_of_row}
use Rattle.cell_marks.proofs.row.Row.keep.Goals as goal

pub keep_in-self-inside-requires-clause-other : goal.keep_in-self-inside-requires-clause-other
keep_in-self-inside-requires-clause-other c =
    let mine = len_of c.self.inside.words.items c.self.inside.len c.args.self.now c.self.view_is in
    let its = len_of c.other.inside.words.items c.other.inside.len c.args.other.now c.other.view_is in
    omega (arith, mine, its, c.requires, c.other.invariant.0, ap length c.deref.ensures)

pub invariant_of-self : goal.invariant_of-self
invariant_of-self c =
    let i = c.self.inside in
    let ws = c.keep_in-self-inside.new.words in
    let lent = c.deref_mut.ensures.value in
    let len : length ws ≡ length i.words.items = c.keep_in-self-inside.ensures.len ∙ ap length lent in
    let all = items-with_items i.words ws len in (
      omega (arith, ap length all, len, c.self.invariant.0),
      omega (arith, ap length all, len, c.self.invariant.1),
      c.keep_in-self-inside.ensures.count ∙ sym (ap (λ ys. count_in (bits_of ys i.len)) all),
    )

pub returns-clause-marks : goal.returns-clause-marks
returns-clause-marks c = λ k h.
    let i = c.self.inside in
    let ws = c.keep_in-self-inside.new.words in
    let lent = c.deref_mut.ensures.value in
    let mine = len_of i.words.items i.len c.args.self.now c.self.view_is in
    let its = len_of c.other.inside.words.items c.other.inside.len c.args.other.now c.other.view_is in
    ap (λ ys. is_set (bits_of ys i.len) k) (items-with_items i.words ws (c.keep_in-self-inside.ensures.len ∙ ap length lent))
    ∙ at_bits ws i.len k (omega (arith, h, mine))
    ∙ c.keep_in-self-inside.ensures.bits k (omega (arith, h, mine))
    ∙ ap (λ ys. bit_in ys k && (bit_in c.deref.result.now k)) lent
    ∙ ap (λ ys. bit_in i.words.items k && (bit_in ys k)) c.deref.ensures
    ∙ ap (λ b. b && (bit_in c.other.inside.words.items k)) (sym (bit_of_row i.words.items i.len c.args.self.now c.self.view_is k (omega (arith, h, mine))))
    ∙ ap (λ b. is_set c.args.self.now k && b) (sym (bit_of_row c.other.inside.words.items c.other.inside.len c.args.other.now c.other.view_is k (omega (arith, h, its, c.requires))))
