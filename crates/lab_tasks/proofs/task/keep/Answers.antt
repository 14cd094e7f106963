use Rattle.std.proofs.Common.{Ok, string_bytes, map, ap, ◌∙◌, arith}
use Rattle.std.proofs.lemmas.List.{map-append}
use Rattle.lab_tasks.specs.declared.outcome.OutFile.{OutFile}
use Rattle.lab_tasks.specs.Kept.{IsKept}
use Rattle.lab_tasks.proofs.Adding.{adds-next}
use Rattle.lab_tasks.proofs.task.keep.Goals as goal

pub loop-load-preserved : goal.loop-load-preserved
loop-load-preserved c = record {
  printed = c.loop-load.invariant.printed;
  files = adds-next (IsKept c.args.folder.now) c.args.loads.now c.loop-load.load-index _ (string_bytes c.in_ok-name.name, c.in_ok-bytes.bytes.items) _ _ _ (omega arith)
      c.loop-load.invariant.files
      (ap (map (λ (file : OutFile). (string_bytes file.name, file.bytes.items))) c.in_ok-push.ensures.items ∙ map-append _ _ _)
      (c.in_ok-name.ensures, c.in_ok-bytes.ensures ∙ ap Ok c.in_ok-project.ensures.kept);
  folder = c.loop-load.invariant.folder;
}
