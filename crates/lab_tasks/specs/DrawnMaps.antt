-- The document that `map` draws of a run.
use Rattle.std.specs.Prelude.{◌≡◌, ℕ, List}
use Rattle.project_book.specs.Project.{Project}
use Rattle.svg_plots.specs.declared.map.CellMap.{CellMap}
use Rattle.svg_plots.specs.CellMaps.{map_text}
use Rattle.lab_tasks.specs.declared.map_rows.Over.{Over}
use Rattle.lab_tasks.specs.declared.map_rows.Over.TheVariants.{Tree, Modules}
use Rattle.lab_tasks.specs.declared.map_rows.Way.{Way}
use Rattle.lab_tasks.specs.declared.map_rows.Way.TheVariants.{Forward, Reverse}
use Rattle.lab_tasks.specs.declared.plan.MapPlan.{MapPlan}
use Rattle.lab_tasks.specs.MapPictures.{IsShown}
use Rattle.lab_tasks.specs.RowMaps.{IsRowMap}

-- tree saturation for the requests towards a module, which alone have a level; else the rows alone
abbrev pub IsMapOf : Way → Over → Project → MapPlan → CellMap → Type 0
IsMapOf Forward Tree P plan m = IsShown P plan m
IsMapOf Reverse Tree P plan m = IsRowMap P plan m
IsMapOf way Modules P plan m = IsRowMap P plan m

abbrev pub IsMapDrawn : Project → MapPlan → List ℕ → Type 0
IsMapDrawn P plan text = (m : CellMap) × IsMapOf plan.way plan.over P plan m × (text ≡ map_text m)
