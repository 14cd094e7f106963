use Rattle.machine_cells.specs.Texts.{state_text}
use Rattle.run_queries.proofs.Printing.{state_shows}
use Rattle.lab_shell.proofs.Reasoning.{written}
use Rattle.lab_shell.proofs.json.text_of_state.Goals as goal

pub returns : goal.returns
returns c = written (state_text c.args.state.now) _ (state_shows c.args.state.now) c.in_ok-text.ensures.ok
