use Rattle.std.proofs.Common.{◌++◌, codes, string_bytes}
use Rattle.lab_tasks.specs.ProjectTexts.{setting, word_lines}
use Rattle.lab_tasks.proofs.Listing.{on_after}
use Rattle.lab_tasks.proofs.convert.add_word_lines.Goals as goal

pub returns : goal.returns
unfolding word_lines
returns c =
    on_after c.add_setting-2.result (string_bytes c.args.text.now) (string_bytes c.push_str.new.self) (string_bytes c.add_setting-2.new.text) (codes "\n[[word]]\n") ((setting (codes "address") c.args.address) ++ (setting (codes "value") c.args.word)) c.in_ok-push_str.ensures.bytes
    (on_after c.add_setting-2.result (string_bytes c.push_str.new.self) (string_bytes c.add_setting.new.text) (string_bytes c.add_setting-2.new.text) (setting (codes "address") c.args.address) (setting (codes "value") c.args.word) c.in_ok-add_setting.ensures
    c.add_setting-2.ensures)
