use Rattle.std.proofs.Common.{◌++◌, codes, string_bytes}
use Rattle.lab_tasks.specs.ProjectTexts.{setting, entries_text, script_lines}
use Rattle.lab_tasks.proofs.Listing.{on_after, on_told}
use Rattle.lab_tasks.proofs.convert.add_script_lines.Goals as goal

pub returns : goal.returns
unfolding script_lines
returns c =
    on_after c.push_str-3.result (string_bytes c.args.text.now) (string_bytes c.push_str.new.self) (string_bytes c.push_str-3.new.self) (codes "\n[[script]]\n") ((setting (codes "processor") c.args.proc) ++ ((codes "entries = [") ++ ((entries_text c.args.project.now c.args.proc) ++ (codes "]\n")))) c.in_ok-push_str.ensures.bytes
    (on_after c.push_str-3.result (string_bytes c.push_str.new.self) (string_bytes c.add_setting.new.text) (string_bytes c.push_str-3.new.self) (setting (codes "processor") c.args.proc) ((codes "entries = [") ++ ((entries_text c.args.project.now c.args.proc) ++ (codes "]\n"))) c.in_ok-add_setting.ensures
    (on_after c.push_str-3.result (string_bytes c.add_setting.new.text) (string_bytes c.push_str-2.new.self) (string_bytes c.push_str-3.new.self) (codes "entries = [") ((entries_text c.args.project.now c.args.proc) ++ (codes "]\n")) c.in_ok-push_str-2.ensures.bytes
    (on_after c.push_str-3.result (string_bytes c.push_str-2.new.self) (string_bytes c.add_entries.new.text) (string_bytes c.push_str-3.new.self) (entries_text c.args.project.now c.args.proc) (codes "]\n") c.in_ok-add_entries.ensures
    (on_told c.push_str-3.result (string_bytes c.push_str-3.new.self) (string_bytes c.add_entries.new.text ++ codes "]\n") (string_bytes c.add_entries.new.text) c.push_str-3.ensures.bytes))))
