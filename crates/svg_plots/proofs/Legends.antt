-- One curve more of a legend.
use Rattle.std.proofs.Common.{◌≡◌, ℕ, ◌+◌, ◌<◌, List, [], ◌∷◌, ◌++◌, length, get_or, drop, refl, ap, sym, ◌∙◌, append_assoc}
use Rattle.std.proofs.lemmas.List.{drop_more, append-nil}
use Rattle.svg_plots.specs.CurvePanels.{legend_from, named_drawn, place_after}
use Rattle.svg_plots.specs.declared.curves.Curve.{Curve}
use Rattle.svg_plots.specs.declared.element.Element.{Element}

module _ (columns : ℕ) where
  legend_next : (place : ℕ) (curve : Curve) (curves : List Curve)
      → legend_from columns place (curve ∷ curves) ≡ named_drawn columns place curve ++ legend_from columns (place_after place curve) curves
  unfolding legend_from
  legend_next place curve curves = refl

  no_legend : (place : ℕ) → legend_from columns place [] ≡ []
  unfolding legend_from
  no_legend place = refl

  pub legend_kept : (all before after : List Element) (curves : List Curve) (i place : ℕ) (curve : Curve) → i < length curves → curve ≡ get_or curves i curve
      → all ≡ before ++ legend_from columns place (drop i curves) → after ≡ before ++ named_drawn columns place curve
      → all ≡ after ++ legend_from columns (place_after place curve) (drop (i + 1) curves)
  legend_kept all before after curves i place curve there is so_far more =
      let cut : drop i curves ≡ curve ∷ drop (i + 1) curves = drop_more curves i curve there ∙ ap (λ c. c ∷ drop (i + 1) curves) (sym is) in
      so_far ∙ ap (λ cs. before ++ legend_from columns place cs) cut ∙ ap (λ more. before ++ more) (legend_next place curve (drop (i + 1) curves))
      ∙ sym (append_assoc before (named_drawn columns place curve) (legend_from columns (place_after place curve) (drop (i + 1) curves)))
      ∙ ap (λ so_far. so_far ++ legend_from columns (place_after place curve) (drop (i + 1) curves)) (sym more)

  pub legend_end : (all before : List Element) (place : ℕ) → all ≡ before ++ legend_from columns place [] → before ≡ all
  legend_end all before place e = sym (e ∙ ap (λ more. before ++ more) (no_legend place) ∙ append-nil before)
