use Rattle.project_book.proofs.Sharing.{none_there}
use Rattle.std.proofs.Common.{◌*◌}
use Rattle.page_map.specs.Limits.{page_words}
use Rattle.project_book.proofs.words.page_of.Goals as goal

pub returns-then-count_below : goal.returns-then-count_below
returns-then-count_below c =
    none_there c.args.listing.now c.requires.listing (page_words * c.args.page) c.count_below.result c.count_below-2.result c.count_below.ensures c.count_below-2.ensures c.if-count_below.true
