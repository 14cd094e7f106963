use Rattle.std.proofs.Common.{◌∙◌, ap, List, ℕ}
use Rattle.change_rows.specs.Cells.{Held, found}
use Rattle.change_rows.specs.Packed.{cells_of}
use Rattle.change_rows.specs.declared.head.Head.{Head}
use Rattle.change_rows.proofs.cells.Cells.find.Goals as goal

pub returns : goal.returns
returns c =
    c.find_in.ensures
    ∙ ap (λ (h : List Head). found (cells_of h c.as_slice-2.result.now) c.args.component) c.as_slice.ensures.value
    ∙ ap (λ (w : List ℕ). found (cells_of c.self.inside.heads.items w) c.args.component) c.as_slice-2.ensures.value
    ∙ ap (λ (v : List Held). found v c.args.component) c.self.view_is
