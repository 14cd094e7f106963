use Rattle.std.proofs.Common.{◌≡◌, ◌≤◌, ◌∙◌, ◌++◌, ◌∷◌, [], ap, arith, List}
use Rattle.change_rows.specs.declared.head.Head.{Head}
use Rattle.change_rows.specs.Cells.{Held, end_of}
use Rattle.change_rows.specs.Packed.{cells_of}
use Rattle.change_rows.proofs.Packing.{more_cells, more_packed}
use Rattle.change_rows.proofs.cells.Cells.push.Goals as goal

pub invariant_of-self-in-Ok : goal.invariant_of-self-in-Ok
invariant_of-self-in-Ok c =
    let i = c.self.inside in
    let heads : c.push_reserved.new.self.items ≡ i.heads.items ++ record { component = c.args.component; from = c.len-from.result } ∷ [] = c.push_reserved.ensures.items ∙ ap (λ (h : List Head). h ++ c.in_ok-head.head ∷ []) c.in_ok-reserve.ensures.items ∙ ap (λ (h : Head). i.heads.items ++ h ∷ []) c.in_ok-head.ensures.head in
    let above : end_of (cells_of i.heads.items i.words.items) ≤ c.args.component = omega (arith, c.requires, ap end_of c.self.view_is) in
    more_packed i.heads.items c.push_reserved.new.self.items i.words.items c.extend_from_slice.new.self.items c.args.words.now c.args.component c.len-from.result c.self.invariant heads (omega (arith, c.len-from.ensures, i.words.ok.0)) c.in-Ok.ensures.items above (omega (arith, c.if-words-from.false, c.len-from.ensures, i.words.ok.0))

pub returns-in-Ok : goal.returns-in-Ok
returns-in-Ok c =
    let i = c.self.inside in
    let heads : c.push_reserved.new.self.items ≡ i.heads.items ++ record { component = c.args.component; from = c.len-from.result } ∷ [] = c.push_reserved.ensures.items ∙ ap (λ (h : List Head). h ++ c.in_ok-head.head ∷ []) c.in_ok-reserve.ensures.items ∙ ap (λ (h : Head). i.heads.items ++ h ∷ []) c.in_ok-head.ensures.head in
    more_cells i.heads.items c.push_reserved.new.self.items i.words.items c.extend_from_slice.new.self.items c.args.words.now c.args.component c.len-from.result c.self.invariant heads (omega (arith, c.len-from.ensures, i.words.ok.0)) c.in-Ok.ensures.items
    ∙ ap (λ (v : List Held). v ++ record { component = c.args.component; words = c.args.words.now } ∷ []) c.self.view_is
