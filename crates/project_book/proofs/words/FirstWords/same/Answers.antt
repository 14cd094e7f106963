use Rattle.std.proofs.Common.{map, option_map}
use Rattle.std.specs.Arc.{arc_value}
use Rattle.project_book.proofs.Sharing.{same_answer}
use Rattle.project_book.proofs.words.FirstWords.same.Goals as goal

pub returns : goal.returns
returns c =
    same_answer (map (option_map arc_value) c.self.inside.pages.items) (map (option_map arc_value) c.other.inside.pages.items) c.same_words.result c.args.self.now c.args.other.now c.self.view_is c.other.view_is
    (rw (c.deref.ensures.value, c.deref-2.ensures.value) at c.same_words.ensures)
