use Rattle.std.proofs.Common.{◌+◌, ◌*◌, ◌++◌, ◌≤◌, ◌∙◌, ap, arith}
use Rattle.std.specs.Option.{option_copied}
use Rattle.state_words.specs.Words.{one_if}
use Rattle.flat_row.specs.Masks.{has}
use Rattle.flat_row.specs.Row.{Arrays, Network, queue_of}
use Rattle.flat_row.proofs.Loading.{line_small}
use Rattle.flat_row.proofs.Laters.{module_words, module_left, module_fits}
use Rattle.flat_row.proofs.row.Row.next_module.Goals as goal

pub has-at_low-requires : goal.has-at_low-requires
has-at_low-requires c = let few : c.args.project.now.k ≤ 6 = omega (arith, c.is_row.ensures.small, c.requires.of.size) in line_small c.args.project.now.k c.args.m few c.requires.there

pub has-at_comb-requires : goal.has-at_comb-requires
has-at_comb-requires c = let few : c.args.project.now.k ≤ 6 = omega (arith, c.is_row.ensures.small, c.requires.of.size) in line_small c.args.project.now.k c.args.m few c.requires.there

pub has-requires : goal.has-requires
has-requires c = let few : c.args.project.now.k ≤ 6 = omega (arith, c.is_row.ensures.small, c.requires.of.size) in line_small c.args.project.now.k c.args.m few c.requires.there

pub returns-clause-ok : goal.returns-clause-ok
returns-clause-ok c =
    let P = c.args.project.now in
    let R : Arrays = c.args.self.now in
    let m = c.args.m in
    let last = c.k-last.result in
    let L : Network = record { requests = c.low.inside.requests.items; replies = c.low.inside.replies.items; turns = c.low.inside.turns; back_turns = c.low.inside.back_turns } in
    let C : Network = record { requests = c.comb.inside.requests.items; replies = c.comb.inside.replies.items; turns = c.comb.inside.turns; back_turns = c.comb.inside.back_turns } in
    let served = c.serving-served.result in
    c.in_ok-write_after.ensures.ok ∙ ap (λ ws. c.args.words.now.items ++ ws)
    (module_words P R c.requires.of.size m c.requires.there (option_copied c.args.memory) served.low served.comb served.turn c.serving-served.ensures
    c.module_traffic-traffic.result c.module_traffic-traffic.ensures L C (c.low.view_is ∙ c.side-low.ensures) (c.comb.view_is ∙ c.side-comb.ensures) last c.k-last.ensures.k
    c.has-at_low.result c.has-at_comb.result c.has-at_low.ensures c.has-at_comb.ensures
    c.messages_at-low_waits.result.now c.messages_at-comb_waits.result.now
    (c.messages_at-low_waits.ensures.value ∙ ap (λ ls. (queue_of ls (last + 1) m).items) c.deref.ensures.value)
    (c.messages_at-comb_waits.ensures.value ∙ ap (λ ls. (queue_of ls (last + 1) m).items) c.deref-2.ensures.value)
    c.messages_at-low_shows.result.now c.messages_at-comb_shows.result.now
    (c.messages_at-low_shows.ensures.value ∙ ap (λ ls. (queue_of ls last m).items) c.deref-3.ensures.value)
    (c.messages_at-comb_shows.ensures.value ∙ ap (λ ls. (queue_of ls last m).items) c.deref-4.ensures.value)
    c.served_of-request.result c.served_of-request.ensures
    c.serve-answer.result.0 c.if_served-low_answer.result c.if_served-comb_answer.result _ _ _ _ (c.one_if-turn.result + 2 * c.one_if-serves.result)
    c.serve-answer.ensures.answer c.if_served-low_answer.ensures c.if_served-comb_answer.ensures
    c.queue_after-first.ensures.value c.queue_after-second.ensures.value c.queue_after-first_back.ensures.value c.queue_after-second_back.ensures.value
    (ap (λ n. n + 2 * c.one_if-serves.result) (c.one_if-turn.ensures.value ∙ ap one_if c.has.ensures)
    ∙ ap (λ n. one_if (has served.turn m) + 2 * n) (c.one_if-serves.ensures.value ∙ ap one_if c.either_of.ensures)))

pub returns-clause-left : goal.returns-clause-left
returns-clause-left c = λ rise.
    let P = c.args.project.now in
    let R : Arrays = c.args.self.now in
    let m = c.args.m in
    let last = c.k-last.result in
    let L : Network = record { requests = c.low.inside.requests.items; replies = c.low.inside.replies.items; turns = c.low.inside.turns; back_turns = c.low.inside.back_turns } in
    let C : Network = record { requests = c.comb.inside.requests.items; replies = c.comb.inside.replies.items; turns = c.comb.inside.turns; back_turns = c.comb.inside.back_turns } in
    let served = c.serving-served.result in
    module_left P R c.requires.of.size m c.requires.there (option_copied c.args.memory) served.low served.comb served.turn c.serving-served.ensures
    c.module_traffic-traffic.result c.module_traffic-traffic.ensures L C (c.low.view_is ∙ c.side-low.ensures) (c.comb.view_is ∙ c.side-comb.ensures) last c.k-last.ensures.k
    c.has-at_low.result c.has-at_comb.result c.has-at_low.ensures c.has-at_comb.ensures
    c.messages_at-low_waits.result.now c.messages_at-comb_waits.result.now
    (c.messages_at-low_waits.ensures.value ∙ ap (λ ls. (queue_of ls (last + 1) m).items) c.deref.ensures.value)
    (c.messages_at-comb_waits.ensures.value ∙ ap (λ ls. (queue_of ls (last + 1) m).items) c.deref-2.ensures.value)
    c.messages_at-low_shows.result.now c.messages_at-comb_shows.result.now
    (c.messages_at-low_shows.ensures.value ∙ ap (λ ls. (queue_of ls last m).items) c.deref-3.ensures.value)
    (c.messages_at-comb_shows.ensures.value ∙ ap (λ ls. (queue_of ls last m).items) c.deref-4.ensures.value)
    c.served_of-request.result c.served_of-request.ensures c.serve-answer.result.1 (c.serve-answer.ensures.left rise)

pub returns-clause-state : goal.returns-clause-state
returns-clause-state c =
    let P = c.args.project.now in
    let R : Arrays = c.args.self.now in
    let m = c.args.m in
    let last = c.k-last.result in
    let L : Network = record { requests = c.low.inside.requests.items; replies = c.low.inside.replies.items; turns = c.low.inside.turns; back_turns = c.low.inside.back_turns } in
    let C : Network = record { requests = c.comb.inside.requests.items; replies = c.comb.inside.replies.items; turns = c.comb.inside.turns; back_turns = c.comb.inside.back_turns } in
    let served = c.serving-served.result in
    module_fits P R c.requires.of.size m c.requires.there (option_copied c.args.memory) served.low served.comb served.turn c.serving-served.ensures
    c.module_traffic-traffic.result c.module_traffic-traffic.ensures L C (c.low.view_is ∙ c.side-low.ensures) (c.comb.view_is ∙ c.side-comb.ensures) last c.k-last.ensures.k
    c.has-at_low.result c.has-at_comb.result c.has-at_low.ensures c.has-at_comb.ensures
    c.messages_at-low_waits.result.now c.messages_at-comb_waits.result.now
    (c.messages_at-low_waits.ensures.value ∙ ap (λ ls. (queue_of ls (last + 1) m).items) c.deref.ensures.value)
    (c.messages_at-comb_waits.ensures.value ∙ ap (λ ls. (queue_of ls (last + 1) m).items) c.deref-2.ensures.value)
    c.messages_at-low_shows.result.now c.messages_at-comb_shows.result.now
    (c.messages_at-low_shows.ensures.value ∙ ap (λ ls. (queue_of ls last m).items) c.deref-3.ensures.value)
    (c.messages_at-comb_shows.ensures.value ∙ ap (λ ls. (queue_of ls last m).items) c.deref-4.ensures.value)
    c.served_of-request.result c.served_of-request.ensures
    c.serve-answer.result.0 c.if_served-low_answer.result c.if_served-comb_answer.result _ _ _ _
    c.serve-answer.ensures.answer c.if_served-low_answer.ensures c.if_served-comb_answer.ensures
    c.queue_after-first.ensures.value c.queue_after-second.ensures.value c.queue_after-first_back.ensures.value c.queue_after-second_back.ensures.value
    c.queue_after-first.ensures.fits c.queue_after-second.ensures.fits c.queue_after-first_back.ensures.fits c.queue_after-second_back.ensures.fits
    c.fits.ensures c.fits-2.ensures c.fits-3.ensures c.fits-4.ensures
