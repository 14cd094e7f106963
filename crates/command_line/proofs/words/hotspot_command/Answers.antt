use Rattle.std.proofs.Common.{◌≡◌, ◌∙◌, ap, ap₂, sym, refl, rules, subst, false, true, codes, [], ◌∷◌, ◌++◌}
use Rattle.std.specs.List.{All}
use Rattle.std.proofs.lemmas.List.Elements.{All-nil}
use Rattle.clap.specs.Words.{IsPlain, IsPlainArg, app_of, args_of, groups_of, new_app, with_rule}
use Rattle.clap.specs.Simple.{on_top}
use Rattle.clap.specs.declared.builder.command.Command.TheViews.{out-Command}
use Rattle.clap.proofs.CallerLemmas.{added_plain}
use Rattle.command_line.specs.Arguments.{hotspot}
use Rattle.command_line.proofs.words.hotspot_command.Goals as goal

pub returns : goal.returns
unfolding hotspot
returns c =
    let start = c.after_long_help-described.result in
    let file = c.file_argument.result in
    let workers = c.workers_argument.result in
    let first = c.in_ok-with_file.ensures in
    let second = c.in_ok-whole.ensures in
    let none : args_of start ≡ [] = search rules in
    let no_groups : groups_of start ≡ [] = search rules in
    let no_globals : (out-Command start).has_globals ≡ false = search rules in
    let start_is : app_of start ≡ on_top (λ s. record s { no_binary_name = true; has_version = true }) (new_app (codes "hotspot")) = search rules in
    let plain_start : IsPlain start = (subst (All IsPlainArg) (sym none) (All-nil IsPlainArg), no_groups) in
    record {
      app = second.shape c.workers_argument.ensures.global ∙ ap₂ with_rule (first.shape c.file_argument.ensures.global ∙ ap₂ with_rule start_is c.file_argument.ensures.rule) c.workers_argument.ensures.is.rule;
      plain = added_plain _ _ workers second (added_plain _ _ file first plain_start c.file_argument.ensures.plain) c.workers_argument.ensures.plain;
      globals = second.globals ∙ rw (first.globals, no_globals, c.file_argument.ensures.global, c.workers_argument.ensures.global) refl;
      file = first.arg;
      workers = second.arg;
      both = second.args ∙ ap (λ l. l ++ second.arg ∷ []) (first.args ∙ ap (λ l. l ++ first.arg ∷ []) none);
      file_id = ap (λ x. x.now) first.rules.id ∙ ap (λ r. r.id) c.file_argument.ensures.rule;
      made = workers;
      is_workers = c.workers_argument.ensures.is;
      same = second.rules;
    }
