use Rattle.std.specs.Prelude.{option_map}
use Rattle.machine_cells.specs.Codec.{or_none}
use Rattle.machine_cells.proofs.Telling.{comb_read}
use Rattle.machine_cells.proofs.words.read_state.Goals as goal

pub returns-in_ok-read_comb : goal.returns-in_ok-read_comb
returns-in_ok-read_comb c = comb_read c.args.words.now (or_none (option_map (λ held. held.now) c.args.memory)) c.split_first-head.result.0 c.split_first-head.result.1.now c.in_ok-read_comb.field-0 c.split_first-head.ensures.first c.split_first-head.ensures.rest c.if-kind-eq0.false c.if-kind-eq1.false c.if-kind-eq2.false c.in_ok-read_comb.ensures
