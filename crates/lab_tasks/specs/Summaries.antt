-- What a project is, in words.
use Rattle.std.specs.Prelude.{◌≡◌, ℕ, ◌^◌, List, ◌++◌, codes, decimal}
use Rattle.std.specs.List.{flat_map}
use Rattle.omega_net.specs.Wires.{below}
use Rattle.project_book.specs.declared.edit.Depths.TheVariants.{LowForward, LowReverse, CombForward, CombReverse, ModuleQueue}
use Rattle.project_book.specs.Project.{Project, depth_of, combines_at}
use Rattle.lab_tasks.specs.Counts.{any, script_count, entry_count, references, hot_of, AreHottest}
use Rattle.lab_tasks.specs.declared.hot.Hot.{Hot}
use Rattle.lab_tasks.specs.declared.hot.Parts.TheVariants.{Words, Modules}
use Rattle.lab_tasks.specs.Heats.{hot_lines}
use Rattle.lab_tasks.specs.Tables.{switch_text}

-- the machine: its processors and modules, its stages; the cycles and the window
abbrev pub size_text : Project → List ℕ
size_text P = decimal (2 ^ P.k) ++ (codes " processors, " ++ (decimal (2 ^ P.k) ++ (codes " modules, " ++ (decimal P.k ++ codes " stages"))))

abbrev pub machine_line : Project → List ℕ
machine_line P =
    size_text P ++ (codes "; cycles 0 to " ++ (decimal P.horizon ++ (codes "; at most " ++ (decimal P.window ++ codes " unanswered\n"))))

-- how many places the queues and the wait buffers have
abbrev pub low_places : Project → List ℕ
low_places P = codes "low-forward " ++ (decimal (depth_of P LowForward) ++ (codes ", low-reverse " ++ decimal (depth_of P LowReverse)))

abbrev pub comb_places : Project → List ℕ
comb_places P = codes "comb-forward " ++ (decimal (depth_of P CombForward) ++ (codes ", comb-reverse " ++ decimal (depth_of P CombReverse)))

abbrev pub other_places : Project → List ℕ
other_places P = codes "module " ++ (decimal (depth_of P ModuleQueue) ++ (codes ", wait " ++ decimal P.wait))

abbrev pub places_line : Project → List ℕ
places_line P = codes "places: " ++ (low_places P ++ (codes ", " ++ (comb_places P ++ (codes ", " ++ (other_places P ++ codes "\n")))))

-- whether the switches of each stage combine, from the first stage on
abbrev pub combining_line : Project → List ℕ
combining_line P = codes "combining:" ++ (flat_map (λ stage. codes " " ++ switch_text (combines_at P stage)) (below P.k) ++ codes "\n")

-- the scripts that have an entry, the entries, the references
abbrev pub scripts_line : Project → List ℕ
scripts_line P =
    codes "scripts: " ++ (decimal (script_count P) ++ (codes ", with " ++ (decimal (entry_count P) ++ (codes " entries, "
    ++ (decimal (references P any) ++ codes " references at most\n")))))

-- these lines, the last two with the words and the modules that are hottest
abbrev pub IsSummary : Project → List ℕ → Type 0
IsSummary P text =
    (words : List Hot) × (modules : List Hot) × AreHottest (hot_of P Words) words × AreHottest (hot_of P Modules) modules
    × (text ≡ machine_line P ++ (places_line P ++ (combining_line P ++ (scripts_line P ++ hot_lines words modules))))
