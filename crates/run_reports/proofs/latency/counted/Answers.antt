use Rattle.std.proofs.Common.{◌∙◌, ◌+◌, ap, sym, refl, get_or, None, Option, ℕ, arith, ◌≤◌}
use Rattle.std.proofs.lemmas.List.Elements.{All-get_or}
use Rattle.std.specs.Prelude.{is_none, slice_index}
use Rattle.run_reports.specs.declared.reference.Reference.{Reference}
use Rattle.run_reports.specs.Latencies.{IsWithin, is_latency, one_if}
use Rattle.run_reports.proofs.Tallying.{all_counted, counted_in, none_yet, passed_over}
use Rattle.run_reports.proofs.latency.counted.Goals as goal
use Rattle.run_reports.proofs.latency.counted.Goals.{then-meets, else-meets}

pub loop-reference-init : goal.loop-reference-init
loop-reference-init c = none_yet c.args.condition.now c.args.longest c.args.references.now c.in_ok-latencies.latencies c.in_ok-latencies.ensures.histogram c.in_ok-latencies.ensures.unanswered

pub loop-reference-preserved : goal.loop-reference-preserved
loop-reference-preserved c =
    let none : Reference = record { proc = 0; issued = 0; entry = None; answered = None } in
    let refs = c.args.references.now in
    let i = c.loop-reference.reference-index in
    elim c.if-meets.branch [
      | then-meets w ↦ rw w.latencies-is (counted_in c.args.condition.now c.args.longest i refs c.loop-reference.latencies (get_or refs i none) none c.loop-reference.invariant c.loop-reference-test.true refl
          _ (sym c.meets.ensures ∙ w.if-meets.true) w.count.ensures.many
          (λ d within. w.count.ensures.each d within ∙ ap (λ (o : Option ℕ). slice_index c.loop-reference.latencies.histogram.items d + one_if (is_latency d o)) w.latency.ensures)
          (w.count.ensures.unanswered ∙ ap (λ (o : Option ℕ). c.loop-reference.latencies.unanswered + one_if (is_none o)) w.latency.ensures)
          w.count.ensures.all)
      | else-meets w ↦ rw w.latencies-is (passed_over c.args.condition.now c.args.longest i refs c.loop-reference.latencies (get_or refs i none) none c.loop-reference.invariant c.loop-reference-test.true refl (sym c.meets.ensures ∙ w.if-meets.false))
    ]

pub returns : goal.returns
returns c = all_counted c.args.condition.now c.args.longest c.loop-reference.reference-index c.args.references.now c.loop-reference.latencies c.loop-reference.invariant c.loop-reference-test.false

pub count-requires-clause-within : goal.count-requires-clause-within
count-requires-clause-within c = λ d is.
    let none : Reference = record { proc = 0; issued = 0; entry = None; answered = None } in
    let le : d ≤ c.args.longest = All-get_or (IsWithin c.args.longest) c.args.references.now c.loop-reference.reference-index none c.loop-reference-test.true c.requires d (sym c.latency.ensures ∙ is) in
    omega (arith, le, c.loop-reference.invariant.many)
