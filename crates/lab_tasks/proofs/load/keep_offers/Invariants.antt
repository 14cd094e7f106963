use Rattle.std.proofs.Common.{◌≡◌, Some, take}
use Rattle.lab_tasks.specs.Added.{Adds}
use Rattle.lab_tasks.specs.Kept.{IsKeptOffer}
use Rattle.lab_tasks.specs.Outcomes.{files_of, folder_of}
use Rattle.lab_tasks.proofs.load.keep_offers.Given as goal

abbrev pub invariant-loop-offer : goal.invariant-loop-offer
invariant-loop-offer l = record {
  printed : l.outcome.printed.items ≡ l.fn.outcome.printed.items;
  files : Adds (IsKeptOffer l.folder) (take l.offer-index l.offers) (files_of l.fn.outcome) (files_of l.outcome);
  folder : folder_of l.outcome ≡ Some l.folder;
}
