-- The machine as a grid keeps the laws of a grid.
use Rattle.grid_law.specs.Rules.{Laws}
use Rattle.machine_cells.specs.GridRules.{rp3_rules}
use Rattle.machine_cells.specs.laws.Grid.{the_laws}

pub rp3_laws : Laws rp3_rules
rp3_laws = the_laws
