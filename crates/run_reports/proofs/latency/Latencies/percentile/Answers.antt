use Rattle.std.proofs.Common.{◌<◌, ◌≤◌, ◌∙◌, ap, sym, length, arith, true, ◌≡◌, ◌+◌, ◌*◌, ℕ, List, subst}
use Rattle.std.specs.Prelude.{slice_index}
use Rattle.run_reports.specs.Figures.{covers, is_taken}
use Rattle.run_reports.proofs.Figuring.{covers_here, first_on}
use Rattle.run_reports.proofs.latency.Latencies.percentile.Goals as goal

pub returns-then-from-all : goal.returns-then-from-all
returns-then-from-all c =
    let h = c.args.self.now.histogram.items in
    let n = c.loop-latency.latency in
    let less : n < length h = omega (arith, c.loop-latency-test.true, c.as_slice-numbers.ensures.len) in
    let same : c.as_slice-numbers.result.now ≡ h = c.as_slice-numbers.ensures.value in
    let taken : is_taken h n ≡ true = ap (λ (xs : List ℕ). is_taken xs n) (sym same) ∙ sym c.is_taken.ensures ∙ c.if-is_taken.true in
    let enough : c.args.share * c.number-all.result ≤ 100 * (c.loop-latency.within + slice_index h n) =
    subst (λ (s : ℕ). s * c.number-all.result ≤ 100 * (c.loop-latency.within + slice_index h n)) c.from.ensures
    (subst (λ (xs : List ℕ). c.from.result * c.number-all.result ≤ 100 * (c.loop-latency.within + slice_index xs n)) same c.if-from-all.true) in
    let passes : covers c.args.share h n ≡ true = covers_here c.args.share n c.number-all.result c.loop-latency.within h less taken c.number-all.ensures c.loop-latency.invariant.within enough in
    sym (first_on (covers c.args.share h) n (length h) less c.loop-latency.invariant.none passes)
