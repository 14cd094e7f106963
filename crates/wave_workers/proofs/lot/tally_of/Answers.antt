use Rattle.std.proofs.Common.{◌≡◌, ◌+◌, ◌∷◌, [], length, ap, sym, ◌∙◌, arith}
use Rattle.std.specs.Vec.Iter.{into_iter_items}
use Rattle.wave_workers.specs.Working.{came_for, counted, given_by, stored_by, stored_in}
use Rattle.wave_workers.proofs.Working.{counted_on, all_counted, given_one, none_left}
use Rattle.wave_workers.proofs.lot.tally_of.Goals as goal

pub loop-given-preserved : goal.loop-given-preserved
loop-given-preserved c =
    let at = c.loop-given in
    let inv = at.invariant in
    let answer = c.in-Some.given in
    let left = into_iter_items c.next.new.self in
    let steps : into_iter_items at.given-iterator ≡ answer ∷ left = c.in-Some.ensures.steps.0 in
    let gone = c.in-Some.ensures.steps.1 in
    let was = inv.left in
    let short = ap length steps in
    let came = c.of.ensures.came in
    let one : given_by c.of.result ≡ 1 = ap given_by came ∙ given_one answer in
    let stored : stored_by c.of.result ≡ stored_by (came_for answer) = ap stored_by came in
    let long : 1 + length left ≡ length (into_iter_items at.given-iterator) = omega arith in
    record {
      left = omega (arith, was, gone, short);
      given = ap (λ n. counted n (length left)) c.after-tally.ensures.given ∙ (counted_on at.tally.given (given_by c.of.result) (length left) ∙ (ap (counted at.tally.given) (ap (λ n. n + length left) one ∙ long) ∙ inv.given));
      stored = ap (λ n. counted n (stored_in left)) c.after-tally.ensures.stored ∙ (counted_on at.tally.stored (stored_by c.of.result) (stored_in left) ∙ (ap (counted at.tally.stored) (ap (λ n. n + stored_in left) stored ∙ sym (ap stored_in steps)) ∙ inv.stored));
    }

pub returns-clause-given : goal.returns-clause-given
returns-clause-given c =
    let at = c.loop-given in
    let empty : into_iter_items at.given-iterator ≡ [] = none_left (into_iter_items at.given-iterator) (sym at.invariant.left ∙ c.in-None.ensures.steps.0) in
    sym (all_counted at.tally.given (omega arith)) ∙ (sym (ap (λ l. counted at.tally.given (length l)) empty) ∙ at.invariant.given)

pub returns-clause-stored : goal.returns-clause-stored
returns-clause-stored c =
    let at = c.loop-given in
    let empty : into_iter_items at.given-iterator ≡ [] = none_left (into_iter_items at.given-iterator) (sym at.invariant.left ∙ c.in-None.ensures.steps.0) in
    sym (all_counted at.tally.stored (omega arith)) ∙ (sym (ap (λ l. counted at.tally.stored (stored_in l)) empty) ∙ at.invariant.stored)
