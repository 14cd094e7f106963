use Rattle.std.proofs.Common.{◌≡◌, ◌/◌, ◌%◌, ◌∙◌, ◌&&◌, ◌||◌, eqb, ap, sym, arith, length}
use Rattle.std.specs.Int.{bit_at}
use Rattle.smallvec.proofs.SmallVecLemmas.{items-with_items}
use Rattle.cell_marks.specs.Bits.{bit_in, bits_of}
use Rattle.cell_marks.specs.Marked.{is_set, count_in}
use Rattle.cell_marks.proofs.Added.{count_le}
use Rattle.cell_marks.proofs.Bits.{at_bits}
use Rattle.cell_marks.proofs.Unions.{len_of, bit_of_row}
use Rattle.cell_marks.proofs.row.Row.add_word.Goals as goal

pub add_one-fresh-requires-clause-there : goal.add_one-fresh-requires-clause-there
add_one-fresh-requires-clause-there c =
    let mine = len_of c.self.inside.words.items c.self.inside.len c.args.self.now c.self.view_is in
    omega (arith, mine, c.requires)

pub overflow_add-self : goal.overflow_add-self
overflow_add-self c =
    let i = c.self.inside in
    let lent = c.deref_mut.ensures.value in
    omega (arith, c.add_one-fresh.ensures.count, ap (λ ys. count_in (bits_of ys i.len)) lent, c.self.invariant.2, count_le c.add_one-fresh.new.words i.len, c.self.ranges)

pub invariant_of-self : goal.invariant_of-self
invariant_of-self c =
    let i = c.self.inside in
    let ws = c.add_one-fresh.new.words in
    let lent = c.deref_mut.ensures.value in
    let len : length ws ≡ length i.words.items = c.add_one-fresh.ensures.len ∙ ap length lent in
    let all = items-with_items i.words ws len in (
      omega (arith, ap length all, len, c.self.invariant.0),
      omega (arith, ap length all, len, c.self.invariant.1),
      omega (arith, c.add_one-fresh.ensures.count, ap (λ ys. count_in (bits_of ys i.len)) lent, c.self.invariant.2, ap (λ ys. count_in (bits_of ys i.len)) all),
    )

pub returns-clause-marks : goal.returns-clause-marks
returns-clause-marks c = λ k h.
    let i = c.self.inside in
    let ws = c.add_one-fresh.new.words in
    let lent = c.deref_mut.ensures.value in
    let mine = len_of i.words.items i.len c.args.self.now c.self.view_is in
    ap (λ ys. is_set (bits_of ys i.len) k) (items-with_items i.words ws (c.add_one-fresh.ensures.len ∙ ap length lent))
    ∙ at_bits ws i.len k (omega (arith, h, mine))
    ∙ c.add_one-fresh.ensures.bits k (omega (arith, h, mine))
    ∙ ap (λ ys. bit_in ys k || (eqb (k / 64) c.args.w && eqb (bit_at c.args.word (k % 64)) 1)) lent
    ∙ ap (λ b. b || (eqb (k / 64) c.args.w && eqb (bit_at c.args.word (k % 64)) 1)) (sym (bit_of_row i.words.items i.len c.args.self.now c.self.view_is k (omega (arith, h, mine))))
