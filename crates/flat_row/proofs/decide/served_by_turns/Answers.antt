use Rattle.std.proofs.Common.{arith, ◌<◌, ◌^◌}
use Rattle.std.specs.Prelude.{bit_and}
use Rattle.std.specs.Int.{bit_not, w64}
use Rattle.std.proofs.lemmas.Nat.{and_le_l}
use Rattle.flat_row.proofs.Deciding.{served_low, served_comb, served_turn}
use Rattle.flat_row.proofs.decide.served_by_turns.Goals as goal

pub returns-clause-low : goal.returns-clause-low
returns-clause-low c = served_low c.args.low c.args.comb c.args.turn (omega arith)

pub returns-clause-comb : goal.returns-clause-comb
returns-clause-comb c = served_comb c.args.low c.args.comb c.args.turn (omega arith) (omega arith)

pub returns-clause-turn : goal.returns-clause-turn
returns-clause-turn c =
    let serve = bit_and c.args.comb (bit_not w64 (bit_and c.args.low (bit_not w64 c.args.turn))) in
    let fits : serve < 2 ^ 64 = omega (arith, and_le_l c.args.comb (bit_not w64 (bit_and c.args.low (bit_not w64 c.args.turn)))) in
    served_turn c.args.low c.args.comb c.args.turn _ _ fits (served_low c.args.low c.args.comb c.args.turn (omega arith)) (served_comb c.args.low c.args.comb c.args.turn (omega arith) (omega arith))
