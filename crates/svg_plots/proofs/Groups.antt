-- One group of rows more.
use Rattle.std.proofs.Common.{◌≡◌, ℕ, ◌+◌, ◌<◌, List, [], ◌∷◌, ◌++◌, length, get_or, drop, refl, ap, sym, ◌∙◌, append_assoc}
use Rattle.std.proofs.lemmas.List.{drop_more, append-nil}
use Rattle.svg_plots.specs.Lists.{few_of}
use Rattle.svg_plots.specs.CellMaps.{group_drawn, groups_drawn}
use Rattle.svg_plots.specs.declared.element.Element.{Element}
use Rattle.svg_plots.specs.declared.map.CellGroup.{CellGroup}
use Rattle.svg_plots.specs.declared.map.CellMap.{CellMap}
use Rattle.svg_plots.specs.declared.map.Layout.{Layout}

module _ (m : CellMap) (l : Layout) where
  group_next : (first : ℕ) (group : CellGroup) (groups : List CellGroup)
      → groups_drawn m l first (group ∷ groups) ≡ group_drawn m l first group ++ groups_drawn m l (few_of (first + length group.rows)) groups
  unfolding groups_drawn
  group_next first group groups = refl

  pub no_groups : (first : ℕ) → groups_drawn m l first [] ≡ []
  unfolding groups_drawn
  no_groups first = refl

  pub groups_kept : (all before after : List Element) (groups : List CellGroup) (i first : ℕ) (group : CellGroup) → i < length groups → group ≡ get_or groups i group
      → all ≡ before ++ groups_drawn m l first (drop i groups) → after ≡ before ++ group_drawn m l first group
      → all ≡ after ++ groups_drawn m l (few_of (first + length group.rows)) (drop (i + 1) groups)
  groups_kept all before after groups i first group there is so_far more =
      let cut : drop i groups ≡ group ∷ drop (i + 1) groups = drop_more groups i group there ∙ ap (λ g. g ∷ drop (i + 1) groups) (sym is) in
      so_far ∙ ap (λ gs. before ++ groups_drawn m l first gs) cut ∙ ap (λ more. before ++ more) (group_next first group (drop (i + 1) groups))
      ∙ sym (append_assoc before (group_drawn m l first group) (groups_drawn m l (few_of (first + length group.rows)) (drop (i + 1) groups)))
      ∙ ap (λ so_far. so_far ++ groups_drawn m l (few_of (first + length group.rows)) (drop (i + 1) groups)) (sym more)

  pub groups_end : (all before : List Element) (groups : List CellGroup) (first : ℕ) → all ≡ before ++ groups_drawn m l first [] → before ≡ all
  groups_end all before groups first e = sym (e ∙ ap (λ more. before ++ more) (no_groups first) ∙ append-nil before)
