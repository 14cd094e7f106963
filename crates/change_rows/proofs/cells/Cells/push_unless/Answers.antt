use Rattle.std.proofs.Common.{◌≡◌, ◌≤◌, ◌∙◌, ◌++◌, ◌∷◌, [], ap, arith, List}
use Rattle.change_rows.specs.declared.head.Head.{Head}
use Rattle.change_rows.specs.Cells.{Held, end_of}
use Rattle.change_rows.specs.Packed.{cells_of}
use Rattle.change_rows.proofs.Packing.{more_cells, more_packed}
use Rattle.change_rows.proofs.cells.Cells.push_unless.Goals as goal

pub invariant_of-self-in-Ok-false : goal.invariant_of-self-in-Ok-false
invariant_of-self-in-Ok-false g c =
    let i = c.self.inside in
    let heads : c.push_reserved.new.self.items ≡ i.heads.items ++ record { component = c.args.component; from = c.len-from.result } ∷ [] = c.push_reserved.ensures.items ∙ ap (λ (h : List Head). h ++ c.in_ok-head.head ∷ []) c.in_ok-reserve.ensures.items ∙ ap (λ (h : Head). i.heads.items ++ h ∷ []) c.in_ok-head.ensures.head in
    let above : end_of (cells_of i.heads.items i.words.items) ≤ c.args.component = omega (arith, c.requires.ascending, ap end_of c.self.view_is) in
    more_packed i.heads.items c.push_reserved.new.self.items i.words.items c.write_words.new.words.items (g.S.Source.words c.args.source.now c.args.component) c.args.component c.len-from.result c.self.invariant heads (omega (arith, c.len-from.ensures, i.words.ok.0)) c.in-Ok-false.ensures.words above c.in-Ok-false.ensures.small

pub returns-in-Ok-false-clause-cells : goal.returns-in-Ok-false-clause-cells
returns-in-Ok-false-clause-cells g c =
    let i = c.self.inside in
    let words = g.S.Source.words c.args.source.now c.args.component in
    let heads : c.push_reserved.new.self.items ≡ i.heads.items ++ record { component = c.args.component; from = c.len-from.result } ∷ [] = c.push_reserved.ensures.items ∙ ap (λ (h : List Head). h ++ c.in_ok-head.head ∷ []) c.in_ok-reserve.ensures.items ∙ ap (λ (h : Head). i.heads.items ++ h ∷ []) c.in_ok-head.ensures.head in
    more_cells i.heads.items c.push_reserved.new.self.items i.words.items c.write_words.new.words.items words c.args.component c.len-from.result c.self.invariant heads (omega (arith, c.len-from.ensures, i.words.ok.0)) c.in-Ok-false.ensures.words
    ∙ ap (λ (v : List Held). v ++ record { component = c.args.component; words = words } ∷ []) c.self.view_is
