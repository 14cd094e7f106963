use Rattle.std.proofs.Common.{◌<◌, ℕ, List, Bor, length, sym, subst, arith, string_bytes}
use Rattle.std.specs.Prelude.{Option}
use Rattle.std.specs.List.{AllZip}
use Rattle.std.proofs.lemmas.Grind.{common_steps}
use Rattle.lab_tasks.specs.Grids.{names_of}
use Rattle.lab_tasks.specs.PlotPictures.{IsColumn, IsPlot, IsPlotPicture}
use Rattle.lab_tasks.specs.Words.{text_of, texts_of}
use Rattle.lab_tasks.proofs.SweptTexts.{some_of}
use Rattle.lab_tasks.proofs.plot.plotted.Goals as goal

pub returns-clause-done : goal.returns-clause-done
returns-clause-done c =
    let F = c.args.file.now in
    let T = c.args.table.now in
    let ys = texts_of c.args.ys.now in
    let text = string_bytes c.in_ok-plot_picture.field-0 in
    let x : IsColumn (names_of T) c.in-Some.x.now c.in-Ok.column = rw c.names.ensures at c.in-Ok.ensures.column in
    let columns : AllZip (IsColumn (names_of T)) ys c.in-Ok-columns_in.columns.items = rw c.names-2.ensures at c.in-Ok-columns_in.ensures.columns in
    let some : 0 < length ys = some_of c.args.ys.now (grind (arith, common_steps, c.if-is_empty.ensures)) in
    let drawn : IsPlotPicture F T c.in-Ok.column c.in-Ok-columns_in.columns.items text =
    subst (λ (js : List ℕ). IsPlotPicture F T c.in-Ok.column js text) c.as_slice.ensures.value c.in_ok-plot_picture.ensures in
    subst (λ (o : Option (Bor (List ℕ))). IsPlot F T (text_of o) ys text) (sym c.in-Some.is)
    (c.in-Ok.column, c.in-Ok-columns_in.columns.items, x, columns, some, drawn)
