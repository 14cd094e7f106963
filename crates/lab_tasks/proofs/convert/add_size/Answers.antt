use Rattle.std.proofs.Common.{◌≡◌, ◌++◌, ◌∙◌, ap, subst, codes, string_bytes}
use Rattle.std.specs.Prelude.{OnOk}
use Rattle.project_file.specs.Formats.{format_of}
use Rattle.lab_tasks.specs.ProjectTexts.{setting, size_text}
use Rattle.lab_tasks.proofs.Listing.{on_after}
use Rattle.lab_tasks.proofs.convert.add_size.Goals as goal

pub returns : goal.returns
unfolding size_text
returns c =
    let number : c.format_of.result ≡ format_of c.args.project.now.scale = c.format_of.ensures ∙ ap format_of c.scale.ensures in
    on_after c.add_setting-3.result (string_bytes c.args.text.now) (string_bytes c.add_setting.new.text) (string_bytes c.add_setting-3.new.text) (setting (codes "format") (format_of c.args.project.now.scale)) ((setting (codes "k") c.args.project.now.k) ++ (setting (codes "horizon") c.args.project.now.horizon)) (subst (λ n. string_bytes c.add_setting.new.text ≡ string_bytes c.args.text.now ++ setting (codes "format") n) number c.in_ok-add_setting.ensures)
    (on_after c.add_setting-3.result (string_bytes c.add_setting.new.text) (string_bytes c.add_setting-2.new.text) (string_bytes c.add_setting-3.new.text) (setting (codes "k") c.args.project.now.k) (setting (codes "horizon") c.args.project.now.horizon) (subst (λ n. string_bytes c.add_setting-2.new.text ≡ string_bytes c.add_setting.new.text ++ setting (codes "k") n) c.k.ensures.k c.in_ok-add_setting-2.ensures)
    (subst (λ n. OnOk c.add_setting-3.result (string_bytes c.add_setting-3.new.text ≡ string_bytes c.add_setting-2.new.text ++ setting (codes "horizon") n)) c.horizon.ensures.horizon c.add_setting-3.ensures))
