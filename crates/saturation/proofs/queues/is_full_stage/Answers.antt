use Rattle.std.proofs.Common.{◌≡◌, ◌<◌, ◌-◌, ◌^◌, slice_get, map, sym, ap, ◌∙◌, arith}
use Rattle.saturation.specs.Towards.{is_full_on}
use Rattle.saturation.proofs.Below.{all_and_next}
use Rattle.saturation.proofs.Lines.{line_of, all_full, not_all_full}
use Rattle.saturation.proofs.queues.is_full_stage.Goals as goal

pub loop-place-init : goal.loop-place-init
loop-place-init c p h = absurd (omega arith)

pub returns-then-not-is_full_on : goal.returns-then-not-is_full_on
returns-then-not-is_full_on c =
    let P = c.args.project.now in
    let full = is_full_on P c.args.net (slice_get (map (λ r. r.now) c.args.row.now)) c.args.stage in
    let line : c.line_towards-line.result ≡ line_of P.k c.args.module c.args.stage c.loop-place.place =
    c.line_towards-line.ensures.line ∙ ap (λ k. line_of k c.args.module c.args.stage c.loop-place.place) c.k-k.ensures.k in
    let count : c.queues_at-place-end.result ≡ 2 ^ (P.k - 1 - c.args.stage) =
    c.queues_at-place-end.ensures ∙ ap (λ k. 2 ^ (k - 1 - c.args.stage)) c.k-k.ensures.k in
    let there : c.loop-place.place < 2 ^ (P.k - 1 - c.args.stage) = omega (arith, count) in
    sym (not_all_full P.k c.args.module c.args.stage c.requires.stage c.requires.there full c.loop-place.place there
    (ap full (sym line) ∙ sym c.is_full_on.ensures ∙ c.if-not-is_full_on.true))

pub loop-place-preserved : goal.loop-place-preserved
loop-place-preserved c =
    let P = c.args.project.now in
    let full = is_full_on P c.args.net (slice_get (map (λ r. r.now) c.args.row.now)) c.args.stage in
    let line : c.line_towards-line.result ≡ line_of P.k c.args.module c.args.stage c.loop-place.place =
    c.line_towards-line.ensures.line ∙ ap (λ k. line_of k c.args.module c.args.stage c.loop-place.place) c.k-k.ensures.k in
    all_and_next (λ p. full (line_of P.k c.args.module c.args.stage p)) c.loop-place.place c.loop-place.invariant
    (ap full (sym line) ∙ sym c.is_full_on.ensures ∙ c.if-not-is_full_on.false)

pub returns : goal.returns
returns c =
    let P = c.args.project.now in
    let full = is_full_on P c.args.net (slice_get (map (λ r. r.now) c.args.row.now)) c.args.stage in
    let count : c.queues_at-place-end.result ≡ 2 ^ (P.k - 1 - c.args.stage) =
    c.queues_at-place-end.ensures ∙ ap (λ k. 2 ^ (k - 1 - c.args.stage)) c.k-k.ensures.k in
    sym (all_full P.k c.args.module c.args.stage c.requires.stage c.requires.there full
    (λ p low. c.loop-place.invariant p (omega (arith, count))))
