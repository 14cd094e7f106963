-- The edits that a run has made itself, whoever else edits.
use Rattle.std.specs.Prelude.{◌≡◌, ◌⊎◌, ℕ, List, [], ◌∷◌, Option, None, Some, if◌then◌else◌}
use Rattle.std.specs.Io.KnownBytes.{Consumes}
use Rattle.project_book.specs.declared.edit.Edit.{Edit}
use Rattle.line_words.specs.Words.{words_of}
use Rattle.commands.specs.Commands.{command_of}
use Rattle.commands.specs.declared.command.Command.{Command}
use Rattle.commands.specs.declared.command.Command.TheVariants as command
use Rattle.bench_shell.specs.Lines.{Line, Whole, Cut, lines_of}
use Rattle.bench_shell.specs.Store.{Store, edited_store}
use Rattle.bench_shell.specs.Output.{is_long}

-- the edit that a command is
abbrev pub edit_of : Option Command → Option Edit
edit_of (Some (command.Edit e)) = Some e
edit_of _ = None

-- the edit that a line asks for, on a machine of 2^k processors
abbrev pub edit_in : ℕ → Line → Option Edit
edit_in k (Whole l) = if is_long l then None else edit_of (command_of k (words_of l))
edit_in k (Cut l) = None

-- these edits are asked for by some of the lines, in their order
abbrev pub AreAsked : ℕ → List Line → List Edit → Type 0
AreAsked k ls [] = Unit {0}
AreAsked k [] (e ∷ es) = ⊥
AreAsked k (l ∷ ls) (e ∷ es) = ((edit_in k l ≡ Some e) × AreAsked k ls es) ⊎ AreAsked k ls (e ∷ es)

-- the store after these edits in turn
abbrev pub edited_by : Store → List Edit → Store
edited_by s [] = s
edited_by s (e ∷ es) = edited_by (edited_store s e) es

-- THE OWN EDITS: the desk has made those of some of the lines that were read, in their order, and no others
abbrev pub EditsAsRead : Option (List ℕ) → Option (List ℕ) → Store → Store → Type 0
EditsAsRead reader reader' s t =
    (read : List ℕ) × (edits : List Edit) × Consumes reader reader' read × AreAsked s.project.k (lines_of read) edits × (t ≡ edited_by s edits)
