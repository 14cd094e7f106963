use Rattle.std.proofs.Common.{map, option_map}
use Rattle.std.specs.Arc.{arc_value}
use Rattle.project_book.proofs.Paging.{paged_with}
use Rattle.project_book.proofs.words.FirstWords.with_word.Goals as goal

pub returns : goal.returns
returns c =
    rw (← c.self.view_is)
    (paged_with (map (option_map arc_value) c.self.inside.pages.items) (map (option_map arc_value) c.in_ok-pages.pages.items) c.args.address c.args.word c.requires (rw c.deref.ensures.value at c.in_ok-pages.ensures))
