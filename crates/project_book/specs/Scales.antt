-- What a project of a scale may be.
use Rattle.std.specs.Prelude.{ℕ}
use Rattle.project_book.specs.Limits.{max_horizon, usual_horizon, script_entries, usual_entries}
use Rattle.project_book.specs.declared.scale.Scale.{Scale}
use Rattle.project_book.specs.declared.scale.Scale.TheVariants.{Usual, Large}

-- the last cycle that its horizon may name
abbrev pub most_horizon : Scale → ℕ
most_horizon Usual = usual_horizon
most_horizon Large = max_horizon

-- how many entries its scripts may have
abbrev pub most_entries : Scale → ℕ
most_entries Usual = usual_entries
most_entries Large = script_entries
