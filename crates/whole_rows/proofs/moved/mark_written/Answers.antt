use Rattle.std.proofs.Common.{◌≤◌, ◌%◌, ◌+◌, sym, subst, length, arith}
use Rattle.omega_net.specs.Numbers.{lines}
use Rattle.whole_rows.proofs.Marking.{written_is}
use Rattle.whole_rows.proofs.Placing.{lines_in_word, stages_few}
use Rattle.whole_rows.proofs.moved.mark_written.Goals as goal

pub mark_lines-requires-clause-word : goal.mark_lines-requires-clause-word
mark_lines-requires-clause-word c =
    subst (λ n. n % 64 + lines c.args.shape ≤ 64) (sym c.lines.ensures.value) (lines_in_word c.args.shape (stages_few c.args.shape (omega (arith, c.lines.ensures.value, c.lines.ensures.within))))

pub returns-clause-marks : goal.returns-clause-marks
returns-clause-marks c = λ d h.
    written_is c.args.shape c.args.step.now d (length c.args.written.now) c.lines.result c.clear_all.new.self c.mark_lines.new.marks c.clear_all.ensures c.requires c.lines.ensures.value h c.mark_lines.ensures.marks
