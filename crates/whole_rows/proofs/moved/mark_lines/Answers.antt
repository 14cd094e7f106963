use Rattle.std.proofs.Common.{◌≡◌, ℕ, ◌-◌, ◌/◌, ◌^◌, ◌<◌, ◌≤◌, ◌∙◌, ap, subst, arith}
use Rattle.std.specs.Prelude.{◌||◌, ◌&&◌, nat_lt, bit_and}
use Rattle.omega_net.specs.Numbers.{lines}
use Rattle.cell_states.specs.Filling.{is_awake}
use Rattle.flat_row.specs.Masks.{has}
use Rattle.whole_rows.proofs.Placing.{below_bits, word_marks}
use Rattle.whole_rows.proofs.moved.mark_lines.Goals as goal

pub returns-clause-marks : goal.returns-clause-marks
returns-clause-marks c = λ d h.
    let few : c.lines.result ≤ 64 = omega (arith, c.lines.ensures.within) in
    let n = c.lines.result in
    c.add_word.ensures.marks d h
    ∙ ap (λ b. is_awake c.args.marks.now d || b) (
    word_marks c.args.first (lines c.args.shape) _ d (has c.args.set) c.requires.word
    (subst (λ m. (j : ℕ) → j < 64 → has (bit_and c.args.set (18446744073709551615 / 2 ^ (64 - n))) j ≡ (nat_lt j m && has c.args.set j)) c.lines.ensures.value (below_bits c.args.set n few)))
