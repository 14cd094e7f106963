use Rattle.std.proofs.Common.{◌<◌, ◌∙◌, ap, sym, arith, length, List, ℕ, get_or}
use Rattle.change_rows.specs.Cells.{Held, no_cell}
use Rattle.change_rows.specs.Packed.{cell_at}
use Rattle.change_rows.specs.declared.head.Head.{Head}
use Rattle.change_rows.proofs.Packing.{length_cells, at_cells}
use Rattle.change_rows.proofs.cells.Cells.words.Goals as goal

pub words_in-requires-clause-there : goal.words_in-requires-clause-there
words_in-requires-clause-there c =
    let i = c.self.inside in
    omega (arith, c.requires, length_cells i.heads.items i.words.items, ap length c.self.view_is, ap length c.as_slice.ensures.value)

pub returns : goal.returns
returns c =
    let i = c.self.inside in
    let there : c.args.i < length i.heads.items = omega (arith, c.requires, length_cells i.heads.items i.words.items, ap length c.self.view_is) in
    c.words_in.ensures
    ∙ ap (λ (h : List Head). (cell_at h c.as_slice-2.result.now c.args.i).words) c.as_slice.ensures.value
    ∙ ap (λ (w : List ℕ). (cell_at i.heads.items w c.args.i).words) c.as_slice-2.ensures.value
    ∙ sym (ap (λ (x : Held). x.words) (at_cells i.heads.items i.words.items c.args.i no_cell there))
    ∙ ap (λ (v : List Held). (get_or v c.args.i no_cell).words) c.self.view_is
