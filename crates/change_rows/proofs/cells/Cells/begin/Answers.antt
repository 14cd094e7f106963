use Rattle.std.proofs.Common.{◌≤◌, ◌∙◌, ◌++◌, ◌∷◌, [], ap, arith, List}
use Rattle.change_rows.specs.declared.head.Head.{Head}
use Rattle.change_rows.specs.Cells.{Held, end_of}
use Rattle.change_rows.specs.Packed.{cells_of}
use Rattle.change_rows.proofs.Packing.{begun_cells, begun_packed}
use Rattle.change_rows.proofs.cells.Cells.begin.Goals as goal

pub invariant_of-self-2 : goal.invariant_of-self-2
invariant_of-self-2 c =
    let i = c.self.inside in
    let above : end_of (cells_of i.heads.items i.words.items) ≤ c.args.component = omega (arith, c.requires, ap end_of c.self.view_is) in
    begun_packed i.heads.items c.push.new.self.items i.words.items c.args.component c.len.result c.self.invariant (c.in_ok-push.ensures.items ∙ ap (λ (h : Head). i.heads.items ++ h ∷ []) c.in_ok-head.ensures.head) (omega (arith, c.len.ensures, i.words.ok.0)) above

pub returns : goal.returns
returns c =
    let i = c.self.inside in
    begun_cells i.heads.items c.push.new.self.items i.words.items c.args.component c.len.result c.self.invariant (c.in_ok-push.ensures.items ∙ ap (λ (h : Head). i.heads.items ++ h ∷ []) c.in_ok-head.ensures.head) (omega (arith, c.len.ensures, i.words.ok.0))
    ∙ ap (λ (v : List Held). v ++ record { component = c.args.component; words = [] } ∷ []) c.self.view_is
