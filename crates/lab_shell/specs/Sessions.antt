-- What a session holds, and what takes back its edits.
use Rattle.std.specs.Prelude.{◌-◌, Bool, nat_le, if◌then◌else◌, List, [], ◌∷◌, length, Option, None, Some}
use Rattle.project_book.specs.declared.edit.Edit.{Edit}
use Rattle.project_book.specs.Limits.{max_edits}
use Rattle.commands.specs.declared.command.Command.TheVariants as command
use Rattle.edit_undo.specs.Undoing.{undoing}
use Rattle.bench_shell.specs.Lines.{Line}
use Rattle.bench_shell.specs.Store.{Store, version_in}
use Rattle.bench_shell.specs.Own.{edit_in}
use Rattle.bench_shell.specs.Output.{reply, after, after_lines, is_ok}
use Rattle.bench_shell.specs.declared.answer.Answer.{Answer}
use Rattle.bench_shell.specs.declared.answer.Answer.TheVariants.{Refused}

-- the bench's project and journal, and what takes back each edit that was accepted in this session and not yet taken back,
-- the last one first
pub record Session : Type 0 where
  pub store : Store
  pub undos : List (List Edit)

abbrev pub held : Store → List (List Edit) → Session
held s undos = record { store = s; undos = undos }

-- what takes back an edit, where it is accepted, comes first
abbrev pub noted : Store → Option Edit → List (List Edit) → List (List Edit)
noted s None undos = undos
noted s (Some e) undos = if is_ok (reply s (Some (command.Edit e))) then undoing s.project e ∷ undos else undos

-- the session after a command
abbrev pub after_line : Session → Line → Session
after_line s l = held (after_lines s.store (l ∷ [])) (noted s.store (edit_in s.store.project.k l) s.undos)

-- what these edits are answered in turn, and the store after them
abbrev pub replies : Store → List Edit → List Answer
replies s [] = []
replies s (e ∷ es) = reply s (Some (command.Edit e)) ∷ replies (after s (Some (command.Edit e))) es

abbrev pub after_edits : Store → List Edit → Store
after_edits s [] = s
after_edits s (e ∷ es) = after_edits (after s (Some (command.Edit e))) es

-- whether the journal has room for these edits
abbrev pub has_room : Store → List Edit → Bool
has_room s es = nat_le (length es) (max_edits - version_in s)

-- what is answered where the last edit is taken back, and the session after it: where the journal has no room for all that
-- takes it back, nothing is made
abbrev pub undo_answers : Store → List Edit → List Answer
undo_answers s es = if has_room s es then replies s es else Refused 1 ∷ []

abbrev pub after_undo : Session → List Edit → List (List Edit) → Session
after_undo s es undos = if has_room s.store es then held (after_edits s.store es) undos else s
