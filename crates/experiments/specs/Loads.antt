-- Scripts in which a share of the references is hot.
use Rattle.std.specs.Prelude.{ℕ, ◌≤◌, ◌^◌, max, nat_le, if◌then◌else◌, List, [], map, replicate}
use Rattle.drawn_scripts.specs.declared.mix.Mix.{Mix}
use Rattle.drawn_scripts.specs.Draws.{next_references, stream}
use Rattle.omega_net.specs.declared.script.ScriptEntry.{ScriptEntry}
use Rattle.omega_net.specs.Wires.{below}
use Rattle.page_map.specs.Limits.{max_k}
use Rattle.page_map.specs.Pages.{whole_pages}
use Rattle.project_book.specs.Limits.{script_entries, usual_entries}
use Rattle.project_book.specs.Project.{Project}
use Rattle.project_book.specs.declared.scale.Scale.{Scale}
use Rattle.project_book.specs.declared.scale.Scale.TheVariants.{Usual, Large}
use Rattle.project_book.specs.Queues.{usual_depths, usual_wait}
use Rattle.experiments.specs.declared.load.Load.{Load}

-- what its references are: one adds 1 to word 0, the others load a word of page 1
abbrev pub mix_of : Load → Mix
mix_of load = record { sync = load.sync; hot = load.hot; word = 0; page = 1 }

-- how many references a processor has: one for each cycle, and 256 at least; and the scale of a project with so many
abbrev pub entries_of : Load → ℕ
entries_of load = max usual_entries load.cycles

abbrev pub scale_of : Load → Scale
scale_of load = if nat_le load.cycles usual_entries then Usual else Large

-- a processor's script: its references, drawn from the load's seed by the stream of the processor's number
abbrev pub script_drawn : Load → ℕ → List ScriptEntry
script_drawn load p = next_references (mix_of load) (entries_of load) (stream load.seed p)

-- THE PROJECT OF A LOAD: its scripts, 8 references unanswered at once, the usual depths, and each stage combines or none
abbrev pub loaded : Load → Project
loaded load = record {
  scale = scale_of load;
  k = load.k;
  horizon = load.cycles;
  window = 8;
  depths = usual_depths;
  wait = usual_wait;
  combine = replicate max_k load.combine;
  pages = whole_pages load.k;
  words = [];
  scripts = map (script_drawn load) (below (2 ^ load.k));
}

-- there is such a machine, and it may be run as long
abbrev pub IsLoad : Load → Type 0
IsLoad load = (load.k ≤ max_k) × (load.cycles ≤ script_entries)
