use Rattle.std.proofs.Common.{◌≡◌, ◌+◌, ◌*◌, ◌/◌, ◌∙◌, sym, ap, arith, length, replicate}
use Rattle.std.proofs.lemmas.List.{length-replicate}
use Rattle.cell_marks.specs.Bits.{bits_of}
use Rattle.cell_marks.specs.Marked.{count_in}
use Rattle.cell_marks.proofs.Bits.{bits_of_one, count_one}
use Rattle.cell_marks.proofs.row.Row.new.Goals as goal

pub invariant_of-result : goal.invariant_of-result
invariant_of-result c =
    let n = c.args.n in
    let m = n / 256 * 4 + 4 in
    let words = c.in_ok-words.words.items in
    let w = c.word_of-word.result in
    let alike : words ≡ replicate m w = c.in_ok-words.ensures.items_if_clones_equal (λ x h. h) in
    let len : length words ≡ m = ap length alike ∙ length-replicate m w in (
      omega (arith, len),
      omega (arith, len),
      c.all_or_none.ensures ∙ sym (ap (λ ws. count_in (bits_of ws n)) alike ∙ ap count_in (bits_of_one m n w c.args.is_marked (omega arith) c.word_of-word.ensures) ∙ count_one n c.args.is_marked),
    )
