use Rattle.std.proofs.Common.{◌≡◌, ◌∙◌, sym, ap, arith, List, length, get_or}
use Rattle.std.proofs.lemmas.Bool.{eqb-true}
use Rattle.change_rows.specs.Cells.{Held, no_cell}
use Rattle.change_rows.proofs.Packing.{no_words}
use Rattle.change_rows.proofs.cells.Cells.has_no_words.Goals as goal

pub returns : goal.returns
returns c = λ none k.
    let i = c.self.inside in
    let len : length i.words.items ≡ 0 = omega (arith, eqb-true _ 0 (sym c.is_empty.ensures ∙ none), i.words.ok.0) in
    sym (ap (λ (v : List Held). (get_or v k no_cell).words) c.self.view_is) ∙ no_words i.heads.items i.words.items k len
