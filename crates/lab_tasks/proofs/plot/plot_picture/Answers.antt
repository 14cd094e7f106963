use Rattle.std.proofs.Common.{◌≡◌, ◌∙◌, ℕ, List, Bool, ap, subst, string_bytes}
use Rattle.std.proofs.lemmas.Result.{IfOk-weaker}
use Rattle.lab_tasks.specs.declared.plot.Column.{Column}
use Rattle.lab_tasks.specs.Grids.{rows_of}
use Rattle.lab_tasks.specs.PlotPictures.{across_column, axis_fine, IsPlotPicture, IsScaledPicture}
use Rattle.lab_tasks.proofs.plot.plot_picture.Goals as goal

pub returns : goal.returns
returns c =
    let F = c.args.file.now in
    let T = c.args.table.now in
    let ys = c.args.ys.now in
    let across : c.across_column-x.result ≡ across_column (rows_of T) c.args.x =
    c.across_column-x.ensures ∙ ap (λ (rows : List (List (List ℕ))). across_column rows c.args.x) c.rows-rows.ensures in
    let up : c.axis_fine.result ≡ axis_fine (rows_of T) ys =
    c.axis_fine.ensures ∙ ap (λ (rows : List (List (List ℕ))). axis_fine rows ys) c.rows-rows.ensures in
    IfOk-weaker c.scaled_picture.result (λ text. IsScaledPicture F T c.across_column-x.result c.axis_fine.result ys (string_bytes text))
    (λ text. IsPlotPicture F T c.args.x ys (string_bytes text))
    (λ text is. subst (λ (x : Column). IsScaledPicture F T x (axis_fine (rows_of T) ys) ys (string_bytes text)) across
    (subst (λ (fine : Bool). IsScaledPicture F T c.across_column-x.result fine ys (string_bytes text)) up is)) c.scaled_picture.ensures
