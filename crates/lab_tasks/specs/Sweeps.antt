-- The rows of a sweep.
use Rattle.std.specs.Prelude.{◌≡◌, ◌<◌, ℕ, ◌+◌, ◌-◌, ◌&&◌, true, List, [], ◌∷◌, map, MatchBool, Option, None, Some, codes}
use Rattle.std.specs.List.{flat_map}
use Rattle.omega_net.specs.Wires.{below}
use Rattle.project_book.specs.declared.edit.Depths.{Depths}
use Rattle.project_book.specs.declared.edit.Depths.TheVariants.{LowForward, LowReverse, CombForward, CombReverse, ModuleQueue}
use Rattle.project_book.specs.declared.edit.Edit.TheVariants.{Depth}
use Rattle.project_book.specs.Queues.{is_depth, least_depth}
use Rattle.project_book.specs.Limits.{max_depth}
use Rattle.project_book.specs.Edits.{edited}
use Rattle.project_book.specs.Project.{Project}
use Rattle.commands.specs.Queues.{queue_named}
use Rattle.lab_tasks.specs.declared.end.End.{End}
use Rattle.lab_tasks.specs.declared.swept.Swept.{Swept}
use Rattle.lab_tasks.specs.declared.swept.Setting.{Setting}
use Rattle.lab_tasks.specs.Ends.{RefusesForm, RefusesRange, RefusesBackwards}
use Rattle.lab_tasks.specs.Numbers.{parts_at, range_of}

-- the name of some queues in a table
abbrev pub queue_text : Depths → List ℕ
queue_text LowForward = codes "low-forward"
queue_text LowReverse = codes "low-reverse"
queue_text CombForward = codes "comb-forward"
queue_text CombReverse = codes "comb-reverse"
queue_text ModuleQueue = codes "module"

-- the queues and the two depths of a word `QUEUES=FROM..TO`
abbrev pub both_in : Option Depths → Option (ℕ × ℕ) → Option (Depths × (ℕ × ℕ))
both_in (Some queue) (Some range) = Some (queue, range)
both_in _ _ = None

abbrev pub depths_parts : Option (List ℕ × List ℕ) → Option (Depths × (ℕ × ℕ))
depths_parts (Some (name, range)) = both_in (queue_named name) (range_of range)
depths_parts None = None

abbrev pub depths_in : List ℕ → Option (Depths × (ℕ × ℕ))
depths_in word = depths_parts (parts_at 61 word)

-- what a word sweeps: queues, from one of their depths to another that isn't less
abbrev pub IsSwept : List ℕ → Swept → Type 0
IsSwept word swept =
    (depths_in word ≡ Some (swept.queue, (swept.from, swept.to))) × (is_depth swept.queue swept.from ≡ true) × (is_depth swept.queue swept.to ≡ true)

-- why a word sweeps nothing
abbrev pub RefusesDepths : List ℕ → Option (Depths × (ℕ × ℕ)) → End → Type 0
RefusesDepths word (Some (queue, (from, to))) end =
    MatchBool (is_depth queue from && is_depth queue to) ((to < from) × RefusesBackwards (codes "--depth") word end)
    (RefusesRange (codes "--depth") word (least_depth queue) max_depth end)
RefusesDepths word None end = RefusesForm (codes "--depth") word (codes "QUEUES=FROM..TO, as low-forward=2..16") end

-- the depths that are gone through
abbrev pub settings_of : Swept → List Setting
settings_of swept = map (λ i. record { queue = swept.queue; depth = swept.from + i }) (below (swept.to + 1 - swept.from))

-- the rows of a table: each depth of the first queues with each row of the others, in that order
abbrev pub rows_of : List Swept → List (List Setting)
rows_of [] = [] ∷ []
rows_of (swept ∷ others) = flat_map (λ setting. map (λ row. setting ∷ row) (rows_of others)) (settings_of swept)

-- the project with the depths of a row
abbrev pub with_settings : Project → List Setting → Project
with_settings P [] = P
with_settings P (setting ∷ others) = with_settings (edited P (Depth setting.queue setting.depth)) others
