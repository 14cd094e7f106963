use Rattle.std.proofs.Common.{◌≡◌, ◌++◌, All, length, drop}
use Rattle.project_book.specs.Scripts.{IsEntry}
use Rattle.experiments.specs.Offers.{next_offered}
use Rattle.experiments.proofs.offer.offered_by.Given as goal

abbrev pub invariant-offered : goal.invariant-offered
invariant-offered l =
    record {
      count : length l.entries.items ≡ l.reference-index;
      entries : All IsEntry l.entries.items;
      offered : l.entries.items ++ next_offered l.rate l.generator (drop l.reference-index l.references) ≡ next_offered l.rate l.fn.generator l.references;
    }
