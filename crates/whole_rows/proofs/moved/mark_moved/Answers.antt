use Rattle.std.proofs.Common.{◌≡◌, ℕ, ◌+◌, ◌*◌, ◌%◌, ◌<◌, ◌≤◌, ◌∙◌, ap, sym, subst, length, arith}
use Rattle.omega_net.specs.Numbers.{half, lines}
use Rattle.whole_rows.proofs.Marking.{all_moved, comb_in_word, low_in_word}
use Rattle.whole_rows.proofs.Placing.{lines_in_word, stages_few}
use Rattle.whole_rows.proofs.moved.mark_moved.Goals as goal

pub mark_lines-requires-2-clause-word : goal.mark_lines-requires-2-clause-word
mark_lines-requires-2-clause-word c =
    let k = c.args.shape in
    subst (λ n. n % 64 + lines k ≤ 64) (sym c.lines-lines.ensures.value) (lines_in_word k (stages_few k (omega (arith, c.lines-lines.ensures.value, c.lines-lines.ensures.within))))

pub mark_stages-requires-clause-words : goal.mark_stages-requires-clause-words
mark_stages-requires-clause-words c =
    let k = c.args.shape in
    subst (λ n. (s : ℕ) → s < k → (2 * n + s * half k) % 64 + half k ≤ 64) (sym c.lines-lines.ensures.value)
    (λ s h. low_in_word k s (stages_few k (omega (arith, c.lines-lines.ensures.value, c.lines-lines.ensures.within))) h)

pub mark_stages-requires-2-clause-words : goal.mark_stages-requires-2-clause-words
mark_stages-requires-2-clause-words c =
    let k = c.args.shape in
    let first : 2 * c.lines-lines.result + c.k.result * c.half.result ≡ 2 * lines k + k * half k =
    ap (λ n. 2 * n + c.k.result * c.half.result) c.lines-lines.ensures.value ∙ ap (λ n. 2 * lines k + n * c.half.result) c.k.ensures.value ∙ ap (λ n. 2 * lines k + k * n) c.half.ensures.value in
    subst (λ n. (s : ℕ) → s < k → (n + s * half k) % 64 + half k ≤ 64) (sym first)
    (λ s h. comb_in_word k s (stages_few k (omega (arith, c.lines-lines.ensures.value, c.lines-lines.ensures.within))) h)

pub returns-clause-marks : goal.returns-clause-marks
returns-clause-marks c = λ d h.
    let k = c.args.shape in
    let first : 2 * c.lines-lines.result + c.k.result * c.half.result ≡ 2 * lines k + k * half k =
    ap (λ n. 2 * n + c.k.result * c.half.result) c.lines-lines.ensures.value ∙ ap (λ n. 2 * lines k + n * c.half.result) c.k.ensures.value ∙ ap (λ n. 2 * lines k + k * n) c.half.ensures.value in
    all_moved k c.args.step.now d (length c.args.moved.now) c.lines-lines.result c.clear_all.new.self c.mark_lines.new.marks c.clear_all.ensures c.requires c.lines-lines.ensures.value h
    c.mark_lines-2.new.marks c.mark_stages.new.marks c.mark_stages-2.new.marks (2 * c.lines-lines.result) (2 * c.lines-lines.result + c.k.result * c.half.result)
    (ap (λ n. 2 * n) c.lines-lines.ensures.value) first c.mark_lines.ensures.len c.mark_lines.ensures.marks c.mark_lines-2.ensures.marks c.mark_stages.ensures.marks c.mark_stages-2.ensures.marks
