use Rattle.std.proofs.Common.{◌≡◌, drop}
use Rattle.std.specs.List.{list_all}
use Rattle.project_file.specs.Scripts.{is_entry}
use Rattle.project_file.proofs.scripts.are_entries.Given as goal

abbrev pub invariant-loop-entry : goal.invariant-loop-entry
invariant-loop-entry l = list_all is_entry (drop l.entry-index l.entries) ≡ list_all is_entry l.entries
