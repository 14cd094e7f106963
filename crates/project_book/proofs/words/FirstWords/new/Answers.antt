use Rattle.project_book.proofs.Paging.{paged_none}
use Rattle.project_book.proofs.words.FirstWords.new.Goals as goal

pub returns : goal.returns
returns c = rw c.new.ensures.items paged_none
