use Rattle.std.proofs.Common.{Ok, string_bytes, map, ap, ◌∙◌, arith}
use Rattle.std.proofs.lemmas.List.{map-append}
use Rattle.lab_tasks.specs.declared.outcome.OutFile.{OutFile}
use Rattle.lab_tasks.specs.Kept.{IsKeptOffer}
use Rattle.lab_tasks.proofs.Adding.{adds-next}
use Rattle.lab_tasks.proofs.load.keep_offers.Goals as goal

pub loop-offer-preserved : goal.loop-offer-preserved
loop-offer-preserved c = record {
  printed = c.loop-offer.invariant.printed;
  files = adds-next (IsKeptOffer c.args.folder.now) c.args.offers.now c.loop-offer.offer-index _ (string_bytes c.in_ok-name.name, c.in_ok-bytes.bytes.items) _ _ _ (omega arith)
      c.loop-offer.invariant.files
      (ap (map (λ (file : OutFile). (string_bytes file.name, file.bytes.items))) c.in_ok-push.ensures.items ∙ map-append _ _ _)
      (c.in_ok-name.ensures, c.in_ok-bytes.ensures ∙ ap Ok c.in_ok-project.ensures.kept);
  folder = c.loop-offer.invariant.folder;
}
