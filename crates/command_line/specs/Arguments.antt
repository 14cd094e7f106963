-- The command line of the program, as `clap` reads it.
use Rattle.std.specs.Prelude.{◌≡◌, ℕ, true, false, List, [], ◌∷◌, Option, Some, None, Ok, codes, pos}
use Rattle.std.specs.Str.Parse.{ParsesUnsigned}
use Rattle.std.specs.declared.num.ParseIntError.{ParseIntError}
use Rattle.clap.specs.Words.{App, Row, Rule, Text, IsPlain, app_of, args_of, first_of, matches_of, one_of, new_app, new_rule, rule_of, with_rule}
use Rattle.clap.specs.Simple.{on_top}
use Rattle.clap.specs.Built.{SameRules}
use Rattle.clap.specs.Facts.{WantsDefault}
use Rattle.clap.specs.declared.builder.action.ArgAction.TheVariants.{Set}
use Rattle.clap.specs.declared.builder.arg.Arg.{Arg}
use Rattle.clap.specs.declared.builder.command.Command.{Command}
use Rattle.clap.specs.declared.builder.command.Command.TheViews.{out-Command}
use Rattle.clap.specs.declared.builder.value_parser.ValueParser.TheVariants.{Signed}

abbrev pub file_rule : Rule
file_rule = new_rule (codes "FILE")

-- a whole number from 0 to 16, without which it is 0
abbrev pub workers_rule : Rule
workers_rule = record (new_rule (codes "workers")) {
  long = Some (codes "workers");
  action = Some Set;
  value_names = 1;
  defaults = codes "0" ∷ [];
  parser = Some (Signed (pos 0) (pos 16));
}

-- `hotspot [FILE] [--workers N]`, with a version; the words are those behind the program's name
unfoldable pub hotspot : App
hotspot = with_rule (with_rule (on_top (λ s. record s { no_binary_name = true; has_version = true }) (new_app (codes "hotspot"))) file_rule) workers_rule

-- the FILE that the words name, if they do
abbrev pub file_in : List Text → Option Text
file_in words = first_of (codes "FILE") (matches_of hotspot words)

-- the matches hold a text at `--workers` that reads as this number
abbrev pub IsNumberHeld : List Row → ℕ → Type 0
IsNumberHeld rows n = (text : Text) × (one_of (codes "workers") rows ≡ Some text) × ParsesUnsigned {E = ParseIntError} 8 10 text (Ok n)

-- an argument `--workers N`
pub record IsWorkers (a : Arg) : Type 0 where
  pub rule : rule_of a ≡ workers_rule
  pub wants_default : WantsDefault a
  pub no_delimiter : a.val_delim ≡ None
  pub no_range : a.num_vals ≡ None

-- the program's command, as it was built
pub record IsHotspot (c : Command) : Type 0 where
  pub app : app_of c ≡ hotspot
  pub plain : IsPlain c
  pub globals : (out-Command c).has_globals ≡ false
  pub file : Arg
  pub workers : Arg
  pub both : args_of c ≡ file ∷ workers ∷ []
  pub file_id : file.id.now ≡ codes "FILE"
  pub made : Arg
  pub is_workers : IsWorkers made
  pub same : SameRules made workers
