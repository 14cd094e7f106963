use Rattle.std.proofs.Common.{◌++◌, codes, string_bytes}
use Rattle.std.specs.List.{flat_map}
use Rattle.omega_net.specs.Wires.{below}
use Rattle.project_book.specs.Project.{combines_at}
use Rattle.lab_tasks.specs.ProjectTexts.{comma, flag_text, combine_line}
use Rattle.lab_tasks.proofs.Listing.{on_after, on_told}
use Rattle.lab_tasks.proofs.convert.add_combine_line.Goals as goal

pub returns : goal.returns
unfolding combine_line
returns c =
    on_after c.push_str-2.result (string_bytes c.args.text.now) (string_bytes c.push_str.new.self) (string_bytes c.push_str-2.new.self) (codes "combine = [") ((flat_map (λ stage. comma stage ++ flag_text (combines_at c.args.project.now stage)) (below c.args.project.now.k)) ++ (codes "]\n")) c.in_ok-push_str.ensures.bytes
    (on_after c.push_str-2.result (string_bytes c.push_str.new.self) (string_bytes c.add_flags.new.text) (string_bytes c.push_str-2.new.self) (flat_map (λ stage. comma stage ++ flag_text (combines_at c.args.project.now stage)) (below c.args.project.now.k)) (codes "]\n") c.in_ok-add_flags.ensures
    (on_told c.push_str-2.result (string_bytes c.push_str-2.new.self) (string_bytes c.add_flags.new.text ++ codes "]\n") (string_bytes c.add_flags.new.text) c.push_str-2.ensures.bytes))
