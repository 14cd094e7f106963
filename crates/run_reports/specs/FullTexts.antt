-- What a report of full queues says.
use Rattle.std.specs.Prelude.{ℕ, suc, ◌==◌, Bool, false, if◌then◌else◌, List, [], ◌++◌, Option, None, Some, codes, decimal, is_some, length}
use Rattle.std.specs.List.{count_by, flat_map}
use Rattle.omega_net.specs.Numbers.{component_of}
use Rattle.omega_net.specs.declared.component.Net.TheVariants.{Low, Comb}
use Rattle.omega_net.specs.Wires.{below}
use Rattle.run_reports.specs.declared.full_queues.Part.{Part}
use Rattle.run_reports.specs.declared.full_queues.Part.TheVariants.{Forward, Reverse, Requests, Replies, Wait}
use Rattle.run_reports.specs.declared.full_queues.FirstFull.{FirstFull}
use Rattle.run_reports.specs.TraceTexts.{place_text}

-- a queue's name in its component, as the component's state has it
abbrev pub part_text : Part → List ℕ
part_text (Forward o) = codes "f" ++ decimal o
part_text (Reverse i) = codes "r" ++ decimal i
part_text (Requests Low) = codes "q0"
part_text (Requests Comb) = codes "q1"
part_text (Replies Low) = codes "a0"
part_text (Replies Comb) = codes "a1"
part_text Wait = codes "wait"

-- whether a cycle is this one
abbrev pub is_cycle : ℕ → Option ℕ → Bool
is_cycle t None = false
is_cycle t (Some u) = u == t

-- the row of a queue among those of cycle t
abbrev pub full_row : ℕ → ℕ → FirstFull → List ℕ
full_row k t f =
    if is_cycle t f.cycle then decimal t ++ codes "," ++ place_text (component_of k f.queue.place) ++ codes "," ++ part_text f.queue.part ++ codes "\n"
    else []

-- the rows of the cycles up to a last one: by cycle, and of one cycle by component
abbrev pub full_rows : ℕ → ℕ → List FirstFull → List ℕ
full_rows k last fs = flat_map (λ t. flat_map (full_row k t) fs) (below (suc last))

-- how many of the queues were full
abbrev pub were_full : List FirstFull → ℕ
were_full fs = count_by (λ f. is_some f.cycle) fs

abbrev pub counted_text : List FirstFull → List ℕ
counted_text fs = codes "full " ++ decimal (were_full fs) ++ codes " of " ++ decimal (length fs) ++ codes "\n"

-- the report: how many were full, and the table behind an empty line
abbrev pub full_text : ℕ → ℕ → List FirstFull → List ℕ
full_text k last fs = counted_text fs ++ codes "\ncycle,component,queue\n" ++ full_rows k last fs
