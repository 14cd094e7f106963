use Rattle.std.specs.Prelude.{option_map}
use Rattle.machine_cells.specs.Codec.{or_none}
use Rattle.machine_cells.proofs.Telling.{read_back}
use Rattle.machine_cells.proofs.words.decode.Goals as goal

pub returns : goal.returns
returns c = read_back c.read_state.result c.args.words.now (or_none (option_map (λ held. held.now) c.args.memory)) c.read_state.ensures
