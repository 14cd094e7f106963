use Rattle.std.proofs.Common.{◌∙◌, ap, arith}
use Rattle.std.specs.Prelude.{◌||◌}
use Rattle.omega_net.specs.Numbers.{half}
use Rattle.omega_net.proofs.Numbering.{half_some}
use Rattle.cell_states.specs.Filling.{is_awake}
use Rattle.whole_rows.specs.Among.{in_stage}
use Rattle.whole_rows.proofs.Placing.{word_marks}
use Rattle.whole_rows.proofs.moved.mark_stage.Goals as goal

pub add_word-requires : goal.add_word-requires
add_word-requires c = omega (arith, c.requires.room, half_some c.args.shape c.args.stage c.requires.stage)

pub returns-clause-marks : goal.returns-clause-marks
returns-clause-marks c = λ d h.
    c.add_word.ensures.marks d h
    ∙ ap (λ b. is_awake c.args.marks.now d || b) (
    word_marks c.args.first (half c.args.shape) c.switch_bits-bits.result d (in_stage c.args.shape c.args.stage c.args.set) c.requires.word c.switch_bits-bits.ensures)
