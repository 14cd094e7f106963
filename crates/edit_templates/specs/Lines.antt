-- The edits that the lines of a template are.
use Rattle.std.specs.Prelude.{ℕ, List, [], ◌∷◌, map, Option, None, Some, option_map}
use Rattle.line_words.specs.Words.{words_of}
use Rattle.project_book.specs.declared.edit.Edit.{Edit}
use Rattle.commands.specs.Commands.{command_of}
use Rattle.commands.specs.declared.command.Command.{Command}
use Rattle.commands.specs.declared.command.Command.TheVariants as command
use Rattle.edit_templates.specs.Templates.{Template, all_of, line_of, names_of}
use Rattle.edit_templates.specs.Steps.{Step, each, puts_of}

-- the edit that a line is
abbrev pub edit_in : Option Command → Option Edit
edit_in (Some (command.Edit edit)) = Some edit
edit_in _ = None

abbrev pub edit_of : ℕ → List ℕ → Option Edit
edit_of k line = edit_in (command_of k (words_of line))

-- the step with these words, and the steps of a template, where all its lines are edits
abbrev pub step_for : ℕ → Template → List (List ℕ) → Option Step
step_for k template words = option_map (λ edit. (words, edit ∷ [])) (edit_of k (line_of template words))

abbrev pub steps_of : ℕ → Template → Option (List Step)
steps_of k template = all_of (map (λ fill. step_for k template fill.0) (each (map puts_of template.1)))

-- the names of a template's braces, and its steps
abbrev pub Axis : Type 0
Axis = List (List ℕ) × List Step

abbrev pub axis_of : ℕ → Template → Option Axis
axis_of k template = option_map (λ steps. (names_of template, steps)) (steps_of k template)
