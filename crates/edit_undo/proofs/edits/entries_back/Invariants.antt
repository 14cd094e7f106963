use Rattle.std.proofs.Common.{◌≡◌, ◌++◌, ℕ, ◌<◌, ◌≤◌, drop}
use Rattle.std.specs.Prelude.{IfSome}
use Rattle.project_book.specs.Scripts.{script_of, IsEntry}
use Rattle.project_book.specs.Project.{entry_at}
use Rattle.edit_undo.specs.Undoing.{entries_back}
use Rattle.edit_undo.proofs.edits.entries_back.Given as goal

abbrev pub invariant-loop-index : goal.invariant-loop-index
invariant-loop-index l = record {
  made : l.edits.items ++ entries_back l.proc l.index (drop l.index (script_of l.project.scripts l.proc))
      ≡ entries_back l.proc l.from (drop l.from (script_of l.project.scripts l.proc));
  within : (j : ℕ) → l.from ≤ j → j < l.index → IfSome (entry_at l.project l.proc j) IsEntry;
}
