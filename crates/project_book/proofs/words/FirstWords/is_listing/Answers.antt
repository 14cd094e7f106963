use Rattle.std.proofs.Common.{map, option_map}
use Rattle.std.specs.Arc.{arc_value}
use Rattle.project_book.proofs.Paging.{paged_listing}
use Rattle.project_book.proofs.words.FirstWords.is_listing.Goals as goal

pub returns : goal.returns
returns c = rw (← c.self.view_is) (paged_listing (map (option_map arc_value) c.self.inside.pages.items))
