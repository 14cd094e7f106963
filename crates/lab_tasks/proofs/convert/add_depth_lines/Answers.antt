use Rattle.std.proofs.Common.{◌≡◌, ◌++◌, subst, codes, string_bytes}
use Rattle.std.specs.Prelude.{OnOk}
use Rattle.project_book.specs.Project.{depth_of}
use Rattle.project_book.specs.Queues.{usual_depths, usual_wait}
use Rattle.project_book.specs.declared.edit.Depths.TheVariants.{LowForward, LowReverse, CombForward, CombReverse, ModuleQueue}
use Rattle.lab_tasks.specs.ProjectTexts.{unusual, depth_lines}
use Rattle.lab_tasks.proofs.Listing.{on_after}
use Rattle.lab_tasks.proofs.convert.add_depth_lines.Goals as goal

pub returns : goal.returns
unfolding depth_lines
returns c =
    on_after c.add_unusual.result (string_bytes c.args.text.now) (string_bytes c.add_depth.new.text) (string_bytes c.add_unusual.new.text) (unusual (codes "low_forward") usual_depths.low_forward (depth_of c.args.project.now LowForward)) ((unusual (codes "low_reverse") usual_depths.low_reverse (depth_of c.args.project.now LowReverse)) ++ ((unusual (codes "comb_forward") usual_depths.comb_forward (depth_of c.args.project.now CombForward)) ++ ((unusual (codes "comb_reverse") usual_depths.comb_reverse (depth_of c.args.project.now CombReverse)) ++ ((unusual (codes "module") usual_depths.module_queue (depth_of c.args.project.now ModuleQueue)) ++ (unusual (codes "wait") usual_wait c.args.project.now.wait))))) c.in_ok-add_depth.ensures
    (on_after c.add_unusual.result (string_bytes c.add_depth.new.text) (string_bytes c.add_depth-2.new.text) (string_bytes c.add_unusual.new.text) (unusual (codes "low_reverse") usual_depths.low_reverse (depth_of c.args.project.now LowReverse)) ((unusual (codes "comb_forward") usual_depths.comb_forward (depth_of c.args.project.now CombForward)) ++ ((unusual (codes "comb_reverse") usual_depths.comb_reverse (depth_of c.args.project.now CombReverse)) ++ ((unusual (codes "module") usual_depths.module_queue (depth_of c.args.project.now ModuleQueue)) ++ (unusual (codes "wait") usual_wait c.args.project.now.wait)))) c.in_ok-add_depth-2.ensures
    (on_after c.add_unusual.result (string_bytes c.add_depth-2.new.text) (string_bytes c.add_depth-3.new.text) (string_bytes c.add_unusual.new.text) (unusual (codes "comb_forward") usual_depths.comb_forward (depth_of c.args.project.now CombForward)) ((unusual (codes "comb_reverse") usual_depths.comb_reverse (depth_of c.args.project.now CombReverse)) ++ ((unusual (codes "module") usual_depths.module_queue (depth_of c.args.project.now ModuleQueue)) ++ (unusual (codes "wait") usual_wait c.args.project.now.wait))) c.in_ok-add_depth-3.ensures
    (on_after c.add_unusual.result (string_bytes c.add_depth-3.new.text) (string_bytes c.add_depth-4.new.text) (string_bytes c.add_unusual.new.text) (unusual (codes "comb_reverse") usual_depths.comb_reverse (depth_of c.args.project.now CombReverse)) ((unusual (codes "module") usual_depths.module_queue (depth_of c.args.project.now ModuleQueue)) ++ (unusual (codes "wait") usual_wait c.args.project.now.wait)) c.in_ok-add_depth-4.ensures
    (on_after c.add_unusual.result (string_bytes c.add_depth-4.new.text) (string_bytes c.add_depth-5.new.text) (string_bytes c.add_unusual.new.text) (unusual (codes "module") usual_depths.module_queue (depth_of c.args.project.now ModuleQueue)) (unusual (codes "wait") usual_wait c.args.project.now.wait) c.in_ok-add_depth-5.ensures
    (subst (λ n. OnOk c.add_unusual.result (string_bytes c.add_unusual.new.text ≡ string_bytes c.add_depth-5.new.text ++ unusual (codes "wait") usual_wait n)) c.wait.ensures.wait c.add_unusual.ensures)))))
