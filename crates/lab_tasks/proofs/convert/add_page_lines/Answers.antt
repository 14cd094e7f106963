use Rattle.std.proofs.Common.{◌++◌, codes, string_bytes}
use Rattle.lab_tasks.specs.ProjectTexts.{setting, page_lines}
use Rattle.lab_tasks.proofs.Listing.{on_after}
use Rattle.lab_tasks.proofs.convert.add_page_lines.Goals as goal

pub returns : goal.returns
unfolding page_lines
returns c =
    on_after c.add_setting-3.result (string_bytes c.args.text.now) (string_bytes c.push_str.new.self) (string_bytes c.add_setting-3.new.text) (codes "\n[[page]]\n") ((setting (codes "number") c.args.page) ++ ((setting (codes "amount") c.args.amount) ++ (setting (codes "base") c.args.base))) c.in_ok-push_str.ensures.bytes
    (on_after c.add_setting-3.result (string_bytes c.push_str.new.self) (string_bytes c.add_setting.new.text) (string_bytes c.add_setting-3.new.text) (setting (codes "number") c.args.page) ((setting (codes "amount") c.args.amount) ++ (setting (codes "base") c.args.base)) c.in_ok-add_setting.ensures
    (on_after c.add_setting-3.result (string_bytes c.add_setting.new.text) (string_bytes c.add_setting-2.new.text) (string_bytes c.add_setting-3.new.text) (setting (codes "amount") c.args.amount) (setting (codes "base") c.args.base) c.in_ok-add_setting-2.ensures
    c.add_setting-3.ensures))
