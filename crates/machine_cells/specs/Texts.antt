-- How a component's state prints.
use Rattle.std.specs.Prelude.{ℕ, List, Option, Some}
use Rattle.ref_proc.specs.Texts.{proc_text}
use Rattle.mem_module.specs.Texts.{module_text}
use Rattle.low_switch.specs.Texts.{low_text}
use Rattle.comb_switch.specs.Texts.{comb_text}
use Rattle.machine_cells.specs.declared.state.MachineState.{MachineState}
use Rattle.machine_cells.specs.declared.state.MachineState.TheVariants.{Proc, Module, Low, Comb}

-- its kind's text, where that prints
abbrev pub state_text : MachineState → Option (List ℕ)
state_text (Proc s) = Some (proc_text s)
state_text (Module s) = module_text s
state_text (Low s) = low_text s
state_text (Comb s) = comb_text s
