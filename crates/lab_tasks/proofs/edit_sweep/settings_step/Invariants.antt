use Rattle.std.proofs.Common.{◌≡◌, map, take, decimal}
use Rattle.project_book.specs.declared.edit.Edit.TheVariants.{Depth}
use Rattle.edit_templates.specs.Braces.{put_text}
use Rattle.lab_tasks.proofs.edit_sweep.settings_step.Given as goal

abbrev pub invariant-loop-setting : goal.invariant-loop-setting
invariant-loop-setting l = record {
  puts : map put_text l.puts.items ≡ map (λ s. decimal s.depth) (take l.setting-index l.row);
  edits : l.edits.items ≡ map (λ s. Depth s.queue s.depth) (take l.setting-index l.row);
}
