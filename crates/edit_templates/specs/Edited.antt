-- A project after several edits.
use Rattle.std.specs.Prelude.{List, [], ◌∷◌, Result, Ok, Err}
use Rattle.project_book.specs.declared.edit.Edit.{Edit}
use Rattle.project_book.specs.declared.fault.EditFault.{EditFault}
use Rattle.project_book.specs.Project.{Project}
use Rattle.project_book.specs.Edits.{accepts, edited}

abbrev pub if_accepted : Result (Unit {0}) EditFault → Result Project EditFault → Result Project EditFault
if_accepted (Ok _) next = next
if_accepted (Err fault) next = Err fault

-- the project after some edits in turn, or the fault of the first one that is refused
abbrev pub after_edits : Project → List Edit → Result Project EditFault
after_edits P [] = Ok P
after_edits P (edit ∷ edits) = if_accepted (accepts P 0 edit) (after_edits (edited P edit) edits)
