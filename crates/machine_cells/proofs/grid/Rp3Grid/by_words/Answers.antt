use Rattle.machine_cells.proofs.Forgetting.{by_words}
use Rattle.machine_cells.proofs.grid.Rp3Grid.by_words.Goals as goal

pub returns : goal.returns
returns c = by_words c.args.s.now
