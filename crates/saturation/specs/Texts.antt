-- How a report prints.
use Rattle.std.specs.Prelude.{ℕ, List, ◌++◌, Option, None, Some, codes, decimal}
use Rattle.std.specs.List.{flat_map}
use Rattle.saturation.specs.declared.report.Tree.{Tree}

-- a level's first cycle, or `-` where no cycle has it
abbrev pub first_text : Option ℕ → List ℕ
first_text None = codes "-"
first_text (Some t) = decimal t

-- `first`, then each level's first cycle, after a space
abbrev pub tree_text : Tree → List ℕ
tree_text r = codes "first" ++ flat_map (λ o. codes " " ++ first_text o) r.first.items
