use Rattle.std.proofs.Common.{◌≡◌, ◌∙◌, ℕ, List, ap, subst, string_bytes}
use Rattle.rayon.proofs.ListFacts.{IfOk-then}
use Rattle.lab_tasks.specs.Grids.{names_of, rows_of}
use Rattle.lab_tasks.specs.PlotPictures.{plot_curves, plot_note, plot_title, IsPanelDrawn, IsPlotPanel}
use Rattle.lab_tasks.proofs.plot.scaled_picture.Goals as goal

pub returns : goal.returns
returns c =
    let T = c.args.table.now in
    let panel : IsPlotPanel (names_of T) c.args.x c.args.fine c.args.ys.now (plot_curves (names_of T) (rows_of T) c.args.x c.args.fine c.args.ys.now) c.plot_panel-panel.result =
    rw (c.in_ok-curves.ensures, c.names-names.ensures, c.rows-rows.ensures) at c.plot_panel-panel.ensures in
    let title : c.as_str.result.now ≡ plot_title c.args.file.now = c.as_str.ensures.value ∙ c.in_ok-title.ensures in
    let note : c.as_str-2.result.now ≡ plot_note (rows_of T) = c.as_str-2.ensures.value ∙ c.in_ok-note.ensures ∙ ap plot_note c.rows-rows.ensures in
    IfOk-then c.panel_drawn.result _ _ c.panel_drawn.ensures (λ text h. (
      c.plot_panel-panel.result,
      panel,
      subst (λ (t : List ℕ). IsPanelDrawn t c.plot_panel-panel.result (plot_note (rows_of T)) (string_bytes text)) title
          (subst (λ (n : List ℕ). IsPanelDrawn c.as_str.result.now c.plot_panel-panel.result n (string_bytes text)) note h),
    ))
