use Rattle.std.proofs.Common.{map, option_map, arith}
use Rattle.std.specs.Arc.{arc_value}
use Rattle.project_book.proofs.Sharing.{paged_listed}
use Rattle.project_book.proofs.words.FirstWords.from_listing.Goals as goal

pub returns : goal.returns
returns c = paged_listed (map (option_map arc_value) c.loop-page.pages.items) c.args.listing.items c.requires (λ g o h l. c.loop-page.invariant.same g o (omega (arith, h, c.loop-page-test.false)) l)
