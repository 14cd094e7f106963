use Rattle.std.proofs.Common.{◌≡◌, ◌∙◌, ℕ, List, ap, ap₂, length, map, string_bytes}
use Rattle.std.specs.Prelude.{min}
use Rattle.std.proofs.lemmas.Result.{IfOk-weaker}
use Rattle.omega_net.specs.declared.message.Tag.{Tag}
use Rattle.omega_net.specs.Wires.{below}
use Rattle.svg_plots.specs.Lists.{each}
use Rattle.report_pictures.specs.TracePictures.{carriers_of, columns_of, groups_of, key_of, places_of, IsTracePicture}
use Rattle.report_pictures.proofs.trace.trace_picture.Goals as goal

pub returns : goal.returns
returns c =
    let k = c.args.shape in
    let x = c.args.tag in
    let spans = c.args.spans.now in
    let m = c.map_of-map in
    let carriers : c.as_slice-carriers.result.now ≡ carriers_of x spans = c.as_slice-carriers.ensures.value ∙ c.in_ok-carriers.ensures in
    let places : c.as_slice.result.now ≡ places_of spans = c.as_slice.ensures.value ∙ c.in_ok-places.ensures in
    let columns : c.columns_of.result ≡ columns_of spans = c.columns_of.ensures.columns in
    IfOk-weaker c.draw_map.result _ (λ text. IsTracePicture k c.args.name.now x spans (string_bytes text))
    (λ text is. (
      m.result,
      record {
        title = m.ensures.title ∙ c.in_ok-title.ensures;
        groups = m.ensures.groups ∙ c.in_ok-groups.ensures
            ∙ ap₂ (λ (cs : List Tag) (ps : List ℕ). groups_of k cs spans ps) carriers places;
        most = m.ensures.most ∙ c.most_of-most.ensures ∙ ap (λ (cs : List Tag). min (length cs) 255) carriers;
        middle = m.ensures.middle;
        marked = m.ensures.marked;
        key = m.ensures.key ∙ c.in_ok-key.ensures ∙ ap (λ (cs : List Tag). each (key_of x) cs) carriers;
        crossings = m.ensures.crossings;
        levels = m.ensures.levels ∙ c.in_ok-levels.ensures ∙ ap (λ (n : ℕ). map (λ column. 0) (below n)) columns;
        highest = m.ensures.highest;
        strokes = m.ensures.strokes ∙ c.in_ok-strokes.ensures;
        ticks = m.ensures.ticks ∙ c.in_ok-ticks.ensures;
        across = m.ensures.across;
        stroke_title = m.ensures.stroke_title;
        notes = m.ensures.notes ∙ c.in_ok-notes.ensures;
      },
      is,
    ))
    c.draw_map.ensures
