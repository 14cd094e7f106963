use Rattle.std.proofs.Common.{◌<◌, ◌∙◌, ap, sym, arith, length}
use Rattle.change_rows.specs.declared.head.Head.{Head}
use Rattle.change_rows.specs.Cells.{Held, component_at}
use Rattle.change_rows.proofs.Packing.{length_cells, component_is}
use Rattle.change_rows.proofs.cells.Cells.component.Goals as goal

pub index-requires : goal.index-requires
index-requires c =
    let i = c.self.inside in
    omega (arith, c.requires, i.heads.ok.0, length_cells i.heads.items i.words.items, ap length c.self.view_is)

pub returns : goal.returns
returns c =
    let i = c.self.inside in
    let there : c.args.i < length i.heads.items = omega (arith, c.requires, length_cells i.heads.items i.words.items, ap length c.self.view_is) in
    c.component.ensures ∙ ap (λ (x : Head). x.component) c.index.ensures ∙ sym (component_is i.heads.items i.words.items c.args.i c.index.result.now there) ∙ ap (λ (x : Rattle.std.proofs.Common.List Held). component_at x c.args.i) c.self.view_is
