use Rattle.std.proofs.Common.{◌∙◌, sym}
use Rattle.project_book.proofs.Same.{map_decides}
use Rattle.project_book.proofs.project.same_pages.Goals as goal

pub returns : goal.returns
returns c =
    let decides = map_decides c.args.pages.now c.args.others.now in
    (λ h. decides.0 (sym c.eq.ensures ∙ h), λ e. c.eq.ensures ∙ decides.1 e)
