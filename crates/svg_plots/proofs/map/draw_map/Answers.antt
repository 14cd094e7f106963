use Rattle.std.proofs.Common.{◌≡◌, ◌++◌, ap, ◌∙◌}
use Rattle.svg_plots.specs.CellMaps.{map_elements, map_text}
use Rattle.svg_plots.proofs.map.draw_map.Goals as goal

pub returns : goal.returns
unfolding map_text
returns c =
    let drawn : c.draw_parts.new.picture ≡ map_elements c.args.map.now c.layout_of-layout.result =
    c.in_ok-draw_parts.ensures ∙ ap (λ p. p ++ map_elements c.args.map.now c.layout_of-layout.result) c.new-picture.ensures in
    rw (c.notes_at.ensures.place, c.few.ensures.few, drawn, c.layout_of-layout.ensures.places, c.as_str.ensures, c.as_slice.ensures.value) at c.draw.ensures
