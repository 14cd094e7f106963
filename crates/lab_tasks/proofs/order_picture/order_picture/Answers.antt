use Rattle.std.proofs.Common.{◌≡◌, ◌∙◌, List, ℕ, ap, None, map, string_bytes}
use Rattle.std.specs.List.{flat_map}
use Rattle.std.proofs.lemmas.Result.{IfOk-weaker}
use Rattle.omega_net.specs.Wires.{below}
use Rattle.experiments.specs.Lanes.{lane_counts}
use Rattle.lab_tasks.specs.OrderPictures.{IsPicture, band_of, bar_of, first_lane, joins_after, keys_from, words_of}
use Rattle.lab_tasks.proofs.order_picture.order_picture.Goals as goal

pub returns : goal.returns
returns c =
    let rows = c.args.rows.now in
    let p = c.args.processors in
    let to = c.args.window.to in
    let all = lane_counts p rows in
    let counts : c.as_slice-counts.result.now ≡ all = c.as_slice-counts.ensures.value ∙ c.in_ok-counts.ensures ∙ ap (λ n. lane_counts n rows) c.from-lines.ensures in
    let words : c.as_slice-words.result.now ≡ words_of rows = c.as_slice-words.ensures.value ∙ c.in_ok-words.ensures.words in
    IfOk-weaker c.draw_timeline.result _ (λ text. IsPicture p c.args.window rows (string_bytes text))
    (λ text is. (
      c.timeline_of-timeline.result,
      record {
        columns = c.timeline_of-timeline.ensures.columns;
        lanes = c.timeline_of-timeline.ensures.lanes ∙ c.first_lane-lanes.ensures ∙ ap (λ (n : List ℕ). first_lane n p) counts;
        named = c.timeline_of-timeline.ensures.named;
        bands = c.timeline_of-timeline.ensures.bands ∙ c.as_slice-bands.ensures.value ∙ c.in_ok-bands.ensures ∙ ap (λ (n : List ℕ). map (band_of n) (below p)) counts;
        keys = c.timeline_of-timeline.ensures.keys ∙ c.as_slice-keys.ensures.value ∙ c.in_ok-keys.ensures ∙ ap (keys_from 0) words;
        joins = c.timeline_of-timeline.ensures.joins ∙ c.as_slice-joins.ensures.value ∙ c.in_ok-joins.ensures ∙ ap (λ (n : List ℕ). joins_after n None rows) counts;
        bars = c.timeline_of-timeline.ensures.bars ∙ c.as_slice-bars.ensures.value ∙ c.in_ok-bars.ensures
            ∙ ap (λ (n : List ℕ). flat_map (bar_of n c.as_slice-words.result.now to) rows) counts ∙ ap (λ (w : List ℕ). flat_map (bar_of all w to) rows) words;
      },
      is,
    ))
    c.draw_timeline.ensures
